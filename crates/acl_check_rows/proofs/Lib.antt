pub mod DefinitionLemmas
pub mod SmallLemmas
