pub mod WorldLemmas
pub mod FormLemmas
pub mod EnterLemmas
pub mod LeaveLemmas
pub mod CloseLemmas
pub mod SoundLemmas
