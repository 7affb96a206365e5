pub mod Scopes
pub mod Keeping
pub mod Kept
