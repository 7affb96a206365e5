pub mod Admitted
pub mod Before
pub mod Going
pub mod Laws
pub mod Plain
