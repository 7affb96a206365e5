pub mod FrameLemmas
pub mod PutLemmas
