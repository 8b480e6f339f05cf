pub mod Parted
pub mod Least
pub mod Naming
pub mod Placing
pub mod Capped
pub mod Examples
