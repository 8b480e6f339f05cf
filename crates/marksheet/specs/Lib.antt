pub mod Choosing
pub mod Cutting
pub mod Rigs
