pub mod GrowthLemmas
pub mod ItemLemmas
pub mod WeightLemmas
pub mod SlotLemmas
