pub mod Bytes
pub mod Same
pub mod Making
pub mod Places
pub mod Pools
pub mod Comparing
pub mod Sorting
