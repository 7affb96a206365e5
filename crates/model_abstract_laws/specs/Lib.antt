pub mod Laws
pub mod Budgets
pub mod Counting
pub mod Apart
