pub mod MakeLemmas
