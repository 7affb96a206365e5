pub mod FindLemmas
pub mod BegunLemmas
