pub mod Positions
pub mod NameLemmas
pub mod TableLemmas
pub mod LawLemmas
