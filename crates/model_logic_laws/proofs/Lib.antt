pub mod PrimHomes
pub mod EffectHomes
pub mod LogicHomes
pub mod GuardLemmas
pub mod EquationLemmas
pub mod ExportLemmas
pub mod CallLemmas
pub mod ArgumentLemmas
