pub mod FieldLemmas
pub mod StobjLemmas
pub mod ShapedLemmas
pub mod InitialLemmas
pub mod RefusalLemmas
