pub mod Walking
pub mod Whole
pub mod Held
pub mod Lets
pub mod Finding
