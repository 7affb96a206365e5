pub mod OutLemmas
pub mod FunctionLemmas
