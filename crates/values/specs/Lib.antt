pub mod Decode
pub mod Tree
pub mod Rules
pub mod Clean
pub mod Names
