pub mod Objects
pub mod Growth
pub mod Cells
pub mod Seeing
pub mod Faults
pub mod Equal
