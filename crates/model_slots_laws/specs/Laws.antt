-- Which core forms have trees, as laws.
use Rattle.std.specs.Prelude.{◌≡◌, ℕ, List, true, None, is_some}
use Rattle.model_terms.specs.declared.rule.Mode.{Mode}
use Rattle.model_terms.specs.Cores.{Core, Cores}
use Rattle.model_terms.specs.Worlds.{World, Out, Scope, MacroFormals}
use Rattle.model_terms.specs.Rounds.{Member}
use Rattle.model_terms.specs.Faults.{first_fault, expression_fault, constant_fault, macro_fault, member_fault}
use Rattle.model_accepted.specs.Threaded.{IsFormed}
use Rattle.model_slots.specs.Environments.{Environment}
use Rattle.model_slots.specs.Resolved.{resolved, all_resolved}
use Rattle.model_slots_laws.specs.Standing.{functions_stand, has_tree, all_have_trees}

-- a form has a tree exactly where its functions stand and its bindings reach children, and so have parts; which names have
-- variables, and in which slots, does not matter
pub record HaveTrees : Type 0 where
  pub form : (w : World) (env : Environment) (s : ℕ) (f : Core) → is_some (resolved w env s f) ≡ has_tree w f
  pub parts : (w : World) (env : Environment) (s : ℕ) (fs : Cores) → is_some (all_resolved w env s fs) ≡ all_have_trees w fs

-- the form has a tree in every environment
abbrev pub HasTree : World → Core → Type 0
HasTree w f = (env : Environment) (s : ℕ) → is_some (resolved w env s f) ≡ true

-- a form in which no rule fails has a tree in every environment, where its functions stand: in each mode, and so has what is
-- evaluated: an expression, a constant, the body of a macro, the guard and the body of a function
pub record AcceptedHaveTrees : Type 0 where
  pub form : (w : World) (mode : Mode) (scope : Scope) (f : Core) (expected : List Out) → first_fault w mode scope f expected ≡ None → functions_stand w f ≡ true → HasTree w f
  pub expression : (w : World) (scope : Scope) (f : Core) → expression_fault w scope f ≡ None → functions_stand w f ≡ true → HasTree w f
  pub constant : (w : World) (f : Core) → constant_fault w f ≡ None → functions_stand w f ≡ true → HasTree w f
  pub macro : (w : World) (formals : MacroFormals) (f : Core) → macro_fault w formals f ≡ None → functions_stand w f ≡ true → HasTree w f
  pub guard : (w : World) (n : ℕ) (m : Member) → member_fault w n m ≡ None → functions_stand w m.guard ≡ true → HasTree w m.guard
  pub body : (w : World) (n : ℕ) (m : Member) → member_fault w n m ≡ None → functions_stand w m.body ≡ true → HasTree w m.body

-- the functions of a form stand whose calls have as many actuals as the functions have formals
pub record FormedStand : Type 0 where
  pub stand : (w : World) (f : Core) → IsFormed w f → functions_stand w f ≡ true
