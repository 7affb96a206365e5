pub mod TokenLemmas
pub mod SpellingLemmas
pub mod InternLemmas
pub mod CurrentLemmas
pub mod ReadLemmas
pub mod BookLemmas
pub mod PrintLemmas
