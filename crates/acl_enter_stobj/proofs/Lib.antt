pub mod ClassLemmas
pub mod LaidLemmas
pub mod AddLemmas
pub mod EnterLemmas
pub mod ExampleLemmas
