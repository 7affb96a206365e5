pub mod SupplyLemmas
