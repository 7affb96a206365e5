pub mod Laws
pub mod LiveListLaws
pub mod Canonical
pub mod Kinds
