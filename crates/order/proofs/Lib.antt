mod Next
mod Masks
pub mod Answers
