pub mod Kinds
pub mod Numbers
pub mod Lists
pub mod Guards
pub mod Values
pub mod Applied
pub mod Rows
pub mod Laws
