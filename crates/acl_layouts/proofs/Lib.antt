mod FieldLemmas
pub mod LaidLemmas
mod ListLemmas
mod RecognizeLemmas
