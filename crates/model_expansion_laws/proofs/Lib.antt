pub mod TestLemmas
pub mod DepthLemmas
pub mod CountLemmas
pub mod LayerLemmas
pub mod NestingLemmas
pub mod WrittenLemmas
