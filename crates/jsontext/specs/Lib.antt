pub mod Rfc8259
pub mod Reading
pub mod Judged
