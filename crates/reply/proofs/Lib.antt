pub mod Putting
pub mod Built
