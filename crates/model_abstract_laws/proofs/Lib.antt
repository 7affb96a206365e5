pub mod LimitLemmas
pub mod BudgetLemmas
pub mod Kept
pub mod AbstractBudgetLemmas
pub mod AbstractCountLemmas
pub mod ApartLemmas
