pub mod InPlaceLemmas
pub mod InstanceLemmas
pub mod BookLemmas
pub mod LogicLemmas
pub mod CreatorLemmas
pub mod ExportHolding
pub mod FollowsLemmas
pub mod ExpressionLemmas
