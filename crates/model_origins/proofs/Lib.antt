pub mod BeforeLemmas
pub mod BeginLemmas
pub mod FunctionLemmas
pub mod KeepLemmas
pub mod PlainLemmas
