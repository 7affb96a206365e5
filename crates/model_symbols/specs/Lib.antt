pub mod Symbols
pub mod Opening
pub mod Growth
pub mod Tables
pub mod Laws
