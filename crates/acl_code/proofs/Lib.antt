pub mod EnvironmentLemmas
pub mod TableLemmas
pub mod ConstantLemmas
pub mod PartLemmas
pub mod ChildLemmas
pub mod SizeLemmas
pub mod BuildLemmas
pub mod LawLemmas
