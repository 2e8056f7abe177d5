pub mod Laws
pub mod Runs
pub mod Areas
pub mod Chains
pub mod Ends
