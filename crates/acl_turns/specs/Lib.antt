pub mod Surroundings
pub mod Asking
pub mod Leaving
pub mod Taking
pub mod Runs
pub mod Laws
