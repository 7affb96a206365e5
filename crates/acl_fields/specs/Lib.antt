pub mod Fields
pub mod Parts
pub mod Views
pub mod Layouts
pub mod Notes
pub mod Changes
pub mod Held
