pub mod Found
pub mod Repeats
pub mod Sorts
