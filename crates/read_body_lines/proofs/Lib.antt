pub mod Parameters
pub mod Loops
pub mod Settled
pub mod Ends
pub mod Inner
pub mod Ended
