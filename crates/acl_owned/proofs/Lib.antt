pub mod ArrayLemmas
pub mod CountLemmas
