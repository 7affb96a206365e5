pub mod TableLemmas
pub mod OpenedLemmas
