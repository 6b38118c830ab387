pub mod Numbering
pub mod Kept
pub mod Demands
pub mod Stages
