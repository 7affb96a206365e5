pub mod CellLemmas
pub mod CountLemmas
pub mod ListLemmas
pub mod HeldLemmas
