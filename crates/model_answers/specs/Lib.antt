pub mod Beside
pub mod Laws
pub mod OnLists
pub mod Expressions
