pub mod Sizes
pub mod Own
pub mod Walks
pub mod Laws
