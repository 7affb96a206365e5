-- The logic value and abstract evaluation at larger budgets.
use Rattle.std.specs.Prelude.{◌≡◌, ℕ, ◌≤◌, List, Some}
use Rattle.model_symbols.specs.Symbols.{QualifiedName}
use Rattle.model_lists.specs.Lists.{StobjList}
use Rattle.model_terms.specs.Cores.{Core}
use Rattle.model_eval.specs.Outcomes.{State, Outcome, Gives, Stops, Unknown}
use Rattle.model_eval.specs.Variables.{Variables}
use Rattle.model_logic.specs.Logic.{Theory, Thing, Values, Found, logic, logic_call, EndsWith, CallEndsWith}
use Rattle.model_abstract.specs.Rules.{abstract_fresh, abstractly}

-- a value, and the calls that it took, are the same at every larger budget; so a form ends with one value at most
pub record IsSameAtLargerBudgets : Type 0 where
  pub form : (b : Theory) (k l : ℕ) (form : Core) (values : Values) (f : Found) → k ≤ l → logic b k form values ≡ Some f → logic b l form values ≡ Some f
  pub call : (b : Theory) (k l name : ℕ) (args : List Thing) (calls : ℕ) (f : Found) → k ≤ l → logic_call b k name args calls ≡ Some f → logic_call b l name args calls ≡ Some f
  pub one : (b : Theory) (form : Core) (values : Values) (u v : Thing) → EndsWith b form values u → EndsWith b form values v → u ≡ v
  pub one_call : (b : Theory) (name : ℕ) (args : List Thing) (u v : Thing) → CallEndsWith b name args u → CallEndsWith b name args v → u ≡ v

-- the budget suffices
abbrev pub HasOutcome : {S : Type 0} → Outcome S → Type 0
HasOutcome (Gives values state) = Unit {0}
HasOutcome (Stops stop origin state) = Unit {0}
HasOutcome Unknown = ⊥

-- an outcome of abstract evaluation, and the list of a new stobj, are the same at every larger budget
pub record AbstractBudgetsAgree : Type 0 where
  pub same : (b : Theory) (m n k d : ℕ) (form : Core) (variables : Variables QualifiedName) (state : State QualifiedName) → m ≤ n → HasOutcome (abstractly b m k d form variables state) → abstractly b n k d form variables state ≡ abstractly b m k d form variables state
  pub fresh : (b : Theory) (m n x : ℕ) (l : StobjList QualifiedName) → m ≤ n → abstract_fresh b m x ≡ Some l → abstract_fresh b n x ≡ Some l
