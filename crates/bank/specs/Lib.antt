pub mod Banks
pub mod Arrays
