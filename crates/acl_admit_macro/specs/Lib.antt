pub mod Ready
pub mod Admitted
pub mod Faults
pub mod Entered
