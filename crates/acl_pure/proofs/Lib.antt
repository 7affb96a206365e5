pub mod AloneLemmas
pub mod ApplyLemmas
