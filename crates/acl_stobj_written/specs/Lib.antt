pub mod Fields
pub mod Initials
pub mod Read
pub mod Shaping
pub mod Refusals
