pub mod Roots
pub mod Trees
pub mod Cells
pub mod Packing
pub mod Steps
pub mod Building
pub mod Copying
pub mod Unpacking
