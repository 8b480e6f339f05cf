pub mod Lines
pub mod Held
pub mod Mnemonics
pub mod Commands
pub mod Laws
pub mod Views
