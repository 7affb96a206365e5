pub mod Looks
pub mod Progresses
pub mod Refusals
