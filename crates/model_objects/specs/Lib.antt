pub mod Object
pub mod Stored
pub mod Named
pub mod Laws
