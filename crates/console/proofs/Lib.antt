pub mod Pairs
pub mod Lawfully
