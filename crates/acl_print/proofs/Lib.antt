pub mod TaskLemmas
pub mod SymbolLemmas
pub mod WriteLemmas
