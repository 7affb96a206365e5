pub mod ShapeLemmas
pub mod RefusalLemmas
pub mod DraftLemmas
pub mod ReadingLemmas
