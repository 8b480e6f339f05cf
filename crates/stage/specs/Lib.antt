pub mod Stages
pub mod Travel
pub mod Easing
pub mod Rules
pub mod Axes
pub mod Kinds
pub mod Sounds
pub mod Steps
