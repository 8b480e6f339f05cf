pub mod Verdict
pub mod Sizes
pub mod Turns
