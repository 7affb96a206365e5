pub mod Growth
pub mod Laws
pub mod Layers
pub mod Lists
pub mod Rows
pub mod Scoping
