pub mod Inside
pub mod Files
