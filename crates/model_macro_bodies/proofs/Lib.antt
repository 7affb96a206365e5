pub mod ExecutableLemmas
pub mod BodyLemmas
pub mod CountLemmas
