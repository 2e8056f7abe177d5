pub mod Fields
pub mod Letters
pub mod Events
pub mod Rows
pub mod Turns
pub mod Whole
pub mod Example
