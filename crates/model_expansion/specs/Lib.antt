pub mod Words
pub mod Forms
pub mod TypeTerms
pub mod Faults
pub mod Layers
pub mod Expansion
