pub mod Digits
pub mod Decimals
pub mod Writing
pub mod Texts
pub mod Laws
pub mod Writer
