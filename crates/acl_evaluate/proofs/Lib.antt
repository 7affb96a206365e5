pub mod BegunLemmas
pub mod EndedLemmas
pub mod EvaluateLemmas
