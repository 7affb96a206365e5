pub mod Examples
pub mod Tests
pub mod Arithmetic
pub mod Lists
pub mod Names
pub mod Logic
pub mod Table
