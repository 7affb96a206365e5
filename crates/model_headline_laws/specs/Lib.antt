pub mod Instances
pub mod FromValues
pub mod Creators
pub mod Expressions
