pub mod Calls
pub mod Laws
pub mod Journals
pub mod Tables
pub mod Counts
