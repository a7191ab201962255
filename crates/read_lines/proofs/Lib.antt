pub mod Cleared
pub mod Going
pub mod Loop
