pub mod Quiet
pub mod Uncut
