pub mod Computed
pub mod Fitted
