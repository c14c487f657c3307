pub mod Results
pub mod Refusals
pub mod Names
pub mod Types
pub mod Firsts
pub mod Schemas
pub mod Troubles
