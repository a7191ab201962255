pub mod Machine
mod Table
pub mod Sums
