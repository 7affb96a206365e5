pub mod ItemLemmas
pub mod GuardLemmas
