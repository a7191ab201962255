pub mod Into
pub mod Vertex
