pub mod Counts
pub mod Joins
pub mod Widths
pub mod Placed
