pub mod Orders
pub mod Goals
