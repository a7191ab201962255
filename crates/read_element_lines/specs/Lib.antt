pub mod Counting
pub mod InForce
