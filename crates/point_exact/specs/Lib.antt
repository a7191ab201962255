pub mod Directions
pub mod Rules
pub mod Exact
pub mod Sampled
pub mod Outline
pub mod Near
