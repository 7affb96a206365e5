pub mod Tables
pub mod Compacting
pub mod Pairs
pub mod Laws
