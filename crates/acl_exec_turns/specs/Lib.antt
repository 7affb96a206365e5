pub mod Exports
pub mod Execs
pub mod Steps
