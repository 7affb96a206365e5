pub mod Entered
pub mod Worlds
