mod SimpleLemmas
pub mod RoundLemmas
