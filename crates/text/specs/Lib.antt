pub mod Bytes
pub mod Ascii
pub mod Words
pub mod Numbers
pub mod Networks
pub mod Written
pub mod Walk
