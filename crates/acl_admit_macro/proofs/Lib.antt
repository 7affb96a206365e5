pub mod ReadyLemmas
pub mod EnterLemmas
pub mod ReadLemmas
pub mod AdmitLemmas
pub mod TestLemmas
