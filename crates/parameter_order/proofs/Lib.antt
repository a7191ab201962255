pub mod Comparing
mod Walks
