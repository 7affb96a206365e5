pub mod Declarations
pub mod Functions
pub mod Macros
pub mod Constants
pub mod Events
