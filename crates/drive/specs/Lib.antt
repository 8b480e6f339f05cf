pub mod Model
pub mod Mirror
pub mod Calls
pub mod Settle
pub mod Words
pub mod Mirrors
