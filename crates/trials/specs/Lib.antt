pub mod Hex
pub mod Rigs
pub mod Script
