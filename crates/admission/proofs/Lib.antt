pub mod Extent
pub mod Tests
