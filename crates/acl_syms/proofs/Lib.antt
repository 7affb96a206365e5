pub mod MapLemmas
pub mod FieldLemmas
pub mod GrowthLemmas
pub mod ImportLemmas
pub mod PackageLemmas
pub mod OpeningLemmas
pub mod Stages
