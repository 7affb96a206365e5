pub mod Answers
pub mod Commands
pub mod Holding
pub mod Foundations
pub mod Cut
