pub mod HoldingRows
pub mod Books
pub mod Rows
pub mod Identity
