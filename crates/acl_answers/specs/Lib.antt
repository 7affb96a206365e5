pub mod Views
pub mod Whole
pub mod Answers
pub mod Making
pub mod Stops
