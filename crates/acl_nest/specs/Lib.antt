pub mod Accessors
pub mod Bindings
pub mod Local
