pub mod Rules
pub mod Corresponding
