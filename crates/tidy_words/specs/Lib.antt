pub mod Emitting
pub mod Naming
