pub mod Basics
pub mod Groups
pub mod Masks
