pub mod Live
pub mod Outcomes
