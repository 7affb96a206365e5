pub mod EntryLemmas
pub mod RunningLemmas
