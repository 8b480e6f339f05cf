pub mod Changes
pub mod Joining
pub mod Founds
