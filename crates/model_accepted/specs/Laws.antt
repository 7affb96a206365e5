-- Accepted forms and their scopes, as laws.
use Rattle.std.specs.Prelude.{◌≡◌, ℕ, List, ◌∷◌, ◌++◌, map, true, Option, Some, None}
use Rattle.model_terms.specs.declared.rule.Mode.{Mode}
use Rattle.model_terms.specs.Cores.{Core, Cores, If, Let, Mv, MvLet, StobjLet, WithLocal, MustBeEqual, Call}
use Rattle.model_terms.specs.Worlds.{World, Out, Scope}
use Rattle.model_terms.specs.Classes.{has, is_stobj_name}
use Rattle.model_terms.specs.Scopes.{name_kinds, binding, producer_scope, consumer_scope, local_scope, body_scope}
use Rattle.model_terms.specs.Sites.{one_ordinary, parent_in, ins_of}
use Rattle.model_terms.specs.Faults.{first_fault}
use Rattle.model_eval.specs.Outcomes.{Shown, StobjNamed}
use Rattle.model_eval.specs.Keeping.{Loan}
use Rattle.model_eval.specs.Variables.{Variables, bound}
use Rattle.model_accepted.specs.StobjScopes.{AreVariables, AreOutputs}
use Rattle.model_accepted.specs.Loans.{children}
use Rattle.model_accepted.specs.Accepted.{Accepted, PartsAccepted, ActualsAccepted}

-- a form in which no rule fails is accepted, and of an accepted form each part, in its scope and for what it is to give
pub record PartsAreAccepted : Type 0 where
  pub whole : (c : World) (mode : Mode) (scope : Scope) (form : Core) (expected : List Out) → first_fault c mode scope form expected ≡ None → Accepted c mode scope form None expected
  pub of_if : (c : World) (mode : Mode) (scope : Scope) (formal : Option ℕ) (expected : List Out) (test then other : Core) → Accepted c mode scope (If test then other) formal expected
      → Accepted c mode scope test None one_ordinary × Accepted c mode scope then None expected × Accepted c mode scope other None expected
  pub of_let : (c : World) (mode : Mode) (scope : Scope) (formal : Option ℕ) (expected : List Out) (names : List ℕ) (forms : Cores) (body : Core) → Accepted c mode scope (Let names forms body) formal expected
      → PartsAccepted c mode scope (name_kinds c names) forms × Accepted c mode (binding c scope names) body None expected
  pub of_mv : (c : World) (mode : Mode) (scope : Scope) (formal : Option ℕ) (expected : List Out) (parts : Cores) → Accepted c mode scope (Mv parts) formal expected → PartsAccepted c mode scope expected parts
  pub of_mv_let : (c : World) (mode : Mode) (scope : Scope) (formal : Option ℕ) (expected : List Out) (names : List ℕ) (form body : Core) → Accepted c mode scope (MvLet names form body) formal expected
      → Accepted c mode scope form None (name_kinds c names) × Accepted c mode (binding c scope names) body None expected
  pub of_stobj_let : (c : World) (mode : Mode) (scope : Scope) (formal : Option ℕ) (expected : List Out) (names : List ℕ) (forms : Cores) (vars : List ℕ) (producer consumer : Core)
      → Accepted c mode scope (StobjLet names forms vars producer consumer) formal expected
      → Accepted c mode (producer_scope c scope (parent_in forms) names) producer None (name_kinds c vars) × Accepted c mode (consumer_scope c scope names vars) consumer None expected
  pub of_with_local : (c : World) (mode : Mode) (scope : Scope) (formal : Option ℕ) (expected : List Out) (stobj : ℕ) (names : List ℕ) (producer body : Core) → Accepted c mode scope (WithLocal stobj names producer body) formal expected
      → Accepted c mode (local_scope c scope stobj) producer None (name_kinds c names) × Accepted c mode (body_scope c scope stobj names) body None expected
  pub of_must_be_equal : (c : World) (mode : Mode) (scope : Scope) (formal : Option ℕ) (expected : List Out) (logic exec : Core) → Accepted c mode scope (MustBeEqual logic exec) formal expected
      → Accepted c mode scope logic None expected × Accepted c mode scope exec None expected
  pub of_call : (c : World) (mode : Mode) (scope : Scope) (formal : Option ℕ) (expected : List Out) (f : ℕ) (actuals : Cores) → Accepted c mode scope (Call f actuals) formal expected → ActualsAccepted c mode scope (ins_of c f) actuals

-- variables that fit a scope fit the inner one once names are bound: by `LET` and `MV-LET`, a local stobj and what comes
-- after it, and the producer and the consumer of a `STOBJ-LET`
pub record VariablesFit : Type 0 where
  pub of_bound : (c : World) (scope : Scope) (names : List ℕ) (values : List (Shown ℕ)) (variables : Variables ℕ) → AreOutputs scope (name_kinds c names) values → AreVariables scope variables
      → AreVariables (binding c scope names) (bound names values variables)
  pub of_local : (c : World) (scope : Scope) (stobj : ℕ) (variables : Variables ℕ) → is_stobj_name c stobj ≡ true → AreVariables scope variables → AreVariables (local_scope c scope stobj) ((stobj, StobjNamed stobj) ∷ variables)
  pub of_body : (c : World) (scope : Scope) (stobj : ℕ) (names : List ℕ) (values : List (Shown ℕ)) (variables : Variables ℕ) → AreOutputs (local_scope c scope stobj) (name_kinds c names) values → AreVariables scope variables
      → AreVariables (body_scope c scope stobj names) (bound names values variables)
  pub of_producer : (c : World) (scope : Scope) (parent : ℕ) (ls : List (Loan ℕ)) (variables : Variables ℕ) → ((x : ℕ) → has (children ls) x ≡ true → is_stobj_name c x ≡ true) → AreVariables scope variables
      → AreVariables (producer_scope c scope (Some parent) (children ls)) (map (λ (l : Loan ℕ). (l.child, StobjNamed l.child)) ls ++ variables)
  pub of_consumer : (c : World) (scope inside : Scope) (ls : List (Loan ℕ)) (vars : List ℕ) (values : List (Shown ℕ)) (variables : Variables ℕ) → AreOutputs inside (name_kinds c vars) values → AreVariables scope variables
      → AreVariables (consumer_scope c scope (children ls) vars) (bound vars values variables)
