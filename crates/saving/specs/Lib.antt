pub mod Acknowledged
pub mod Lines
