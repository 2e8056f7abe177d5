pub mod Components
pub mod Claims
