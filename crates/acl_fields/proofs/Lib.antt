pub mod SlotLemmas
pub mod NodeLemmas
pub mod NoteLemmas
pub mod HeldLemmas
