pub mod Trees
pub mod Environments
pub mod Resolved
pub mod Laws
