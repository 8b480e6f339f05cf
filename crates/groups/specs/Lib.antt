pub mod Profiles
pub mod Groups
