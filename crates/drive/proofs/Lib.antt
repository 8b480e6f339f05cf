pub mod Numbers
pub mod Lasts
pub mod Waits
