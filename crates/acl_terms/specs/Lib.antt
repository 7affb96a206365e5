pub mod Definitions
pub mod Depths
pub mod FormLaws
pub mod Forms
pub mod Growth
pub mod Laws
pub mod Signatures
