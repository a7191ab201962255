pub mod Named
pub mod Swept
pub mod Vertices
