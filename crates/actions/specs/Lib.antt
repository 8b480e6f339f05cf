pub mod Narrow
pub mod Fits
pub mod Reads
