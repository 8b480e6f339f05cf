pub mod Records
pub mod Setups
pub mod Encoding
