pub mod Answers
pub mod Fields
pub mod Imports
pub mod Opening
