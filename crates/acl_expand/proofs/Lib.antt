pub mod LookLemmas
pub mod EndLemmas
pub mod SettleLemmas
pub mod KnownLemmas
