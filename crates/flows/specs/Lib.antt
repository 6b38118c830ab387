pub mod Table
pub mod Words
pub mod Flow
pub mod Rules
pub mod Cells
pub mod Canonical
pub mod Cases
pub mod Numbers
