pub mod Url
pub mod Line
pub mod Site
