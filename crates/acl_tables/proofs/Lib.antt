pub mod KeepLemmas
pub mod ListLemmas
pub mod NewLemmas
pub mod OldLemmas
pub mod PlainLemmas
pub mod TreeLemmas
