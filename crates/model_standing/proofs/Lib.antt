pub mod StandLemmas
pub mod CandidateLemmas
