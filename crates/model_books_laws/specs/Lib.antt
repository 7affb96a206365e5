pub mod WordRows
pub mod BookRows
pub mod TypeTests
pub mod Counting
pub mod Nesting
pub mod GuardTests
pub mod GuardRows
pub mod Refusals
