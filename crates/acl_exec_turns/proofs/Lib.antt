pub mod ReadLemmas
pub mod LeftLemmas
pub mod RunLemmas
pub mod PrimitiveLemmas
pub mod GeneratedLemmas
pub mod KeepLemmas
pub mod SoundLemmas
