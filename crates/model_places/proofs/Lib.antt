pub mod PathLemmas
pub mod WrittenLemmas
