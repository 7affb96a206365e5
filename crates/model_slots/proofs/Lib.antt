pub mod SlotLemmas
pub mod WorldLemmas
