pub mod Listing
pub mod Example
