pub mod ListLemmas
pub mod MoreLemmas
pub mod WorldLemmas
pub mod EffectLemmas
pub mod KeepingLemmas
