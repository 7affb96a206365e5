pub mod Computed
pub mod ComputedCliques
