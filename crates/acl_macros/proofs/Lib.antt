pub mod OptionalLemmas
pub mod SectionLemmas
pub mod FormalLemmas
pub mod ShapeLemmas
pub mod ObjectLemmas
pub mod NamingLemmas
pub mod RefusalLemmas
pub mod ReadingLemmas
