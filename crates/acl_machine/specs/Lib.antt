pub mod Cells
pub mod Views
pub mod Turns
pub mod Steps
pub mod Keeping
pub mod Actuals
pub mod Constants
