pub mod Ready
pub mod Orders
