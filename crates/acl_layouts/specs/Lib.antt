pub mod Typed
pub mod Laid
