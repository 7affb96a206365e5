pub mod AnswerLemmas
pub mod LaterLemmas
pub mod ReaderLemmas
