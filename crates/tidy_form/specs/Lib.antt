pub mod Tidied
pub mod Printed
pub mod Agree
pub mod Bare
