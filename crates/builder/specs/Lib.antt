pub mod Encoding
pub mod Promise
pub mod Cells
pub mod Post
