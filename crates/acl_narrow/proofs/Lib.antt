pub mod NarrowLemmas
pub mod FitLemmas
