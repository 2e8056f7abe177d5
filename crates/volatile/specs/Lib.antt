pub mod Volatile
