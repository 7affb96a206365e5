pub mod Giving
pub mod Circular
pub mod Steps
pub mod Laws
