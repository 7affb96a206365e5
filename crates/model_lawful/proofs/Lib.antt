pub mod SuitLemmas
pub mod LawfulLemmas
pub mod CliqueLemmas
