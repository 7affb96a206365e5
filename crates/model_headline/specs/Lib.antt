pub mod Written
pub mod InPlace
pub mod Logic
