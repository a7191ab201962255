pub mod Values
pub mod Steps
pub mod Parses
pub mod Lines
pub mod Before
