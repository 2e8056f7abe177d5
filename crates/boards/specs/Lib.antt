pub mod Lists
pub mod Boards
pub mod Rows
