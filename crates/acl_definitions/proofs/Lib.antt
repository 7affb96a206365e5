pub mod AddLemmas
pub mod LawLemmas
pub mod TestLemmas
