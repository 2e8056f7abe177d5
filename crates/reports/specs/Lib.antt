pub mod Reports
pub mod Tasks
