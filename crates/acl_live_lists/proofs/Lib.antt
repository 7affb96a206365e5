pub mod ObjectLemmas
pub mod EvaluateLemmas
pub mod CreateLemmas
