pub mod Standing
pub mod Writes
pub mod Agreement
pub mod Calls
pub mod Laws
pub mod Keeping
pub mod Commands
pub mod Example
