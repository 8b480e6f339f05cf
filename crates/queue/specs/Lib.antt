pub mod Queue
pub mod Faults
pub mod Refusals
pub mod Errors
pub mod Waypoints
