pub mod Agreement
pub mod Laws
pub mod Counting
pub mod Scope
pub mod Opening
pub mod Cutting
pub mod Words
