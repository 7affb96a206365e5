pub mod AdmitLemmas
pub mod ReadyLemmas
pub mod TestLemmas
