pub mod Sound
pub mod Complete
pub mod Place
pub mod Runs
pub mod Lexing
pub mod Nesting
