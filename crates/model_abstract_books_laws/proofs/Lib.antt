pub mod BudgetLemmas
pub mod AnswerLemmas
