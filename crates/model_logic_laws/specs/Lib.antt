pub mod Homes
pub mod Guards
pub mod Equations
pub mod Exports
pub mod Arguments
