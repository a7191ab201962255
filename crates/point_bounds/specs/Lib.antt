pub mod Outline
pub mod Files
