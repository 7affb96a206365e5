pub mod ReadLemmas
pub mod MakeLemmas
pub mod PlaceLemmas
pub mod RootLemmas
pub mod FieldLemmas
pub mod CompareLemmas
pub mod SortLemmas
pub mod ListLemmas
