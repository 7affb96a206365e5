pub mod KeyLemmas
pub mod WorldLemmas
pub mod ListLemmas
pub mod ReadingLemmas
pub mod NestingLemmas
pub mod ShapeLemmas
pub mod NameLemmas
