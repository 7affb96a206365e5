pub mod NameLemmas
pub mod DraftLemmas
pub mod CandidateLemmas
pub mod ReadLemmas
