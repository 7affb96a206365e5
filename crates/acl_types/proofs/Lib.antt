pub mod DepthLemmas
pub mod ShapeLemmas
pub mod FormLemmas
