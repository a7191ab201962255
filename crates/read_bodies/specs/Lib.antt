pub mod Numbers
pub mod Parm
pub mod Loops
pub mod Closing
