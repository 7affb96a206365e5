pub mod Forms
pub mod Growth
pub mod Laws
