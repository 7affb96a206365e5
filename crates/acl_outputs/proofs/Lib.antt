pub mod CallLemmas
pub mod FormLemmas
pub mod InstanceLemmas
pub mod ListLemmas
pub mod PartLemmas
pub mod ScopeLemmas
