pub mod Budget
pub mod Runs
pub mod Puts
pub mod Promise
