pub mod BeginLemmas
pub mod EnterLemmas
pub mod FitLemmas
pub mod TypeLemmas
pub mod WorldLemmas
