pub mod Known
pub mod Laws
pub mod Followed
pub mod Exports
