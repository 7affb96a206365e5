pub mod Shows
pub mod TestLemmas
pub mod PartLemmas
