pub mod Runs
pub mod Decimals
pub mod Gathers
pub mod Places
pub mod Examples
