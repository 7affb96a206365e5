pub mod Divided
pub mod NarrowLemmas
