pub mod Limits
pub mod Status
