pub mod CellLemmas
pub mod EqualLemmas
pub mod SizeLemmas
