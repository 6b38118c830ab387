pub mod Answer
pub mod Order
pub mod Promise
pub mod Stages
