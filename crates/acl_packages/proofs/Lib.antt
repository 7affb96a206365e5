pub mod NamedLemmas
pub mod PackageLemmas
pub mod CurrentLemmas
