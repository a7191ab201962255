pub mod Numbers
pub mod Vertices
pub mod Corners
pub mod Bare
pub mod Directions
pub mod Loops
pub mod Bodies
pub mod Rules
