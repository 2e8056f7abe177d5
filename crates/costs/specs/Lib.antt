pub mod Forecasts
pub mod Claims
