pub mod Answers
pub mod Opened
