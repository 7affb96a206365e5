pub mod RowSession
pub mod RowCommands
pub mod RowLists
pub mod InstanceLemmas
