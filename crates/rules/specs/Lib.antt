pub mod Meaning
pub mod Read
pub mod Ports
pub mod Words
pub mod Parts
pub mod Names
pub mod Rows
pub mod Defaults
