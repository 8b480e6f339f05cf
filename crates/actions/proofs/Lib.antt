pub mod Emptied
pub mod Acts
pub mod Widths
pub mod Fitted
