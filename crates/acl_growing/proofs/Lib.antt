pub mod NodeLemmas
pub mod DividedLemmas
pub mod LetLemmas
pub mod ReadyLemmas
pub mod PlaceLemmas
pub mod GrowLemmas
pub mod ToldLemmas
