pub mod Rules
pub mod Numbered
