pub mod LeafLemmas
pub mod SupplyLemmas
