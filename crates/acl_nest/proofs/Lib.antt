pub mod AccessorLemmas
pub mod BindingLemmas
pub mod ChildLemmas
pub mod KindLemmas
pub mod LetLemmas
pub mod LocalLemmas
pub mod ReachLemmas
pub mod VarLemmas
