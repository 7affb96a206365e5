pub mod Steps
pub mod Children
