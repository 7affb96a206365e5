pub mod Functions
pub mod Drafts
pub mod Names
pub mod Refusals
