pub mod ItemLemmas
pub mod ParseLemmas
pub mod LawLemmas
