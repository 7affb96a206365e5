pub mod Cells
pub mod Listing
pub mod Held
