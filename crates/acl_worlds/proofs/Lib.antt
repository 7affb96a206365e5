mod LawLemmas
pub mod NameLemmas
pub mod PrimitiveLemmas
pub mod WorldLemmas
