pub mod Files
pub mod Writes
pub mod Backs
