pub mod Ledger
pub mod Laws
pub mod Instances
pub mod Strike
