pub mod BodyLemmas
pub mod EnteredLemmas
pub mod PlainLemmas
pub mod RunLemmas
