pub mod ObjectLemmas
pub mod StandingLemmas
pub mod EvaluationLemmas
