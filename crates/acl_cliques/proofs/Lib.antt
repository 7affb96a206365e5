pub mod DefineLemmas
pub mod EnterLemmas
pub mod StandLemmas
pub mod WorldLemmas
