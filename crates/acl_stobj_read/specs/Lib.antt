pub mod Keys
pub mod Written
pub mod Lists
pub mod Shapes
pub mod Nesting
