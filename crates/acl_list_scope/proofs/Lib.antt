pub mod ScopeLemmas
mod CallLemmas
pub mod LendLemmas
pub mod KeptLemmas
