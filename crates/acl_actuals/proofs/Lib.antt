pub mod ValueLemmas
pub mod KeyLemmas
pub mod LastLemmas
pub mod CountLemmas
