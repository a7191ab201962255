pub mod Keywords
pub mod Lookup
pub mod Arguments
