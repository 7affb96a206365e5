pub mod AcceptLemmas
pub mod ScopeLemmas
pub mod KidLemmas
pub mod KidScopes
pub mod LawLemmas
