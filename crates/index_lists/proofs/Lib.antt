pub mod Combines
