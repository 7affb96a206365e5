pub mod Logic
pub mod Abstractly
