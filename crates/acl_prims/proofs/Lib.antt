pub mod Weights
pub mod Fronts
pub mod Given
pub mod Names
pub mod Rowed
pub mod Arguments
pub mod Cases
pub mod Opened
