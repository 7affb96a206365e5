pub mod Fields
pub mod Owned
