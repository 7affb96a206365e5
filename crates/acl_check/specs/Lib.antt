pub mod Members
pub mod Says
