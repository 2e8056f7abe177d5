pub mod Saving
pub mod Columns
pub mod Page
pub mod Claims
pub mod Example
