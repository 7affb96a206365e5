pub mod Readiness
pub mod Sound
pub mod Stays
