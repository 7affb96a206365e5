pub mod Supplies
pub mod Leaves
