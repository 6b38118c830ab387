pub mod Lines
pub mod Comparing
pub mod Masking
