pub mod Written
pub mod Sections
pub mod Drafts
