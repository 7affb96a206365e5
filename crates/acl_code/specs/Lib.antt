pub mod Children
pub mod Constants
pub mod Environments
pub mod Laws
pub mod Sizes
pub mod Tables
