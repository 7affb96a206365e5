pub mod Alone
pub mod Fitting
pub mod Stays
