pub mod NameLemmas
pub mod AdmitLemmas
