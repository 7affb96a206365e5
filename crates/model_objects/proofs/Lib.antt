pub mod LawLemmas
pub mod NamedLemmas
pub mod Ordered
