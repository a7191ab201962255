pub mod Whole
pub mod Near
pub mod Signs
pub mod Errors
pub mod Certain
