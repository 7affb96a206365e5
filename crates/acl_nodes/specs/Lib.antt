pub mod Kept
pub mod Nodes
pub mod Holding
pub mod Cutting
pub mod Making
pub mod Seen
pub mod Notes
