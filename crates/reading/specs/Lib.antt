pub mod Walked
pub mod Read
pub mod Rules
