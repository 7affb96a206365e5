pub mod Tests
pub mod Depth
pub mod Counting
