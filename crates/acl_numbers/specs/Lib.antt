pub mod Answers
pub mod Narrow
