pub mod Records
pub mod Order
