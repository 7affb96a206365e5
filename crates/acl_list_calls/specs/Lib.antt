pub mod Results
pub mod Plain
pub mod Known
