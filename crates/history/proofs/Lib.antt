pub mod Runs
pub mod Formats
pub mod Joined
pub mod Unformatted
