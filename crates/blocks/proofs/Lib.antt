pub mod Laws
pub mod Rounds
pub mod Composite
pub mod Blocks
pub mod Zeros
