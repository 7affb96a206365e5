mod LawLemmas
pub mod ScopeLemmas
