pub mod Frames
pub mod Turns
pub mod Stands
pub mod Ending
pub mod Laws
pub mod Cutting
pub mod InPlace
pub mod Writing
