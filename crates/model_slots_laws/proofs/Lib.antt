pub mod TreeLemmas
pub mod AcceptedLemmas
