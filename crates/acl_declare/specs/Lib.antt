pub mod Tests
pub mod Said
pub mod Formals
pub mod Bodies
pub mod Quiet
pub mod Places
