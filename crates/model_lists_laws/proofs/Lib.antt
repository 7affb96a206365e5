pub mod LogicalLemmas
pub mod NormalLemmas
pub mod PairLemmas
pub mod StandingLemmas
pub mod AlikeLemmas
pub mod KeptFields
pub mod CanonicalLemmas
pub mod KindLemmas
