pub mod Known
pub mod Sound
pub mod Members
pub mod Places
pub mod Trees
