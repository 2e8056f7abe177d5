pub mod Columns
pub mod Sheet
pub mod Decisions
pub mod Bounds
pub mod Fits
pub mod Right
pub mod Rows
pub mod Full
