pub mod BuiltLemmas
pub mod EndLemmas
