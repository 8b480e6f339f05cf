pub mod Tables
pub mod Axes
pub mod Desks
pub mod Found
