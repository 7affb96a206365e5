pub mod RowLemmas
pub mod PlaceLemmas
pub mod NodeLemmas
pub mod KnownLemmas
pub mod KnownRowLemmas
pub mod KnownPlaceLemmas
pub mod LawLemmas
