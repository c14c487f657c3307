pub mod Words
pub mod Types
pub mod Numbers
pub mod Names
pub mod Fields
pub mod Lists
pub mod Keywords
pub mod Lines
