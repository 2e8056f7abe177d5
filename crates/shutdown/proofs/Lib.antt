pub mod Runs
pub mod Times
pub mod Member
pub mod Shutdown
