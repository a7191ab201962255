pub mod NamedLines
pub mod Turns
pub mod ElementTurns
