pub mod Steps
pub mod Elements
pub mod Outcomes
pub mod Lists
