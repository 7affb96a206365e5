pub mod ClassLemmas
pub mod InstanceLemmas
pub mod FirstLemmas
pub mod GrowthLemmas
pub mod RoundLemmas
pub mod ExpectedLemmas
pub mod PlaceLemmas
pub mod PartLemmas
