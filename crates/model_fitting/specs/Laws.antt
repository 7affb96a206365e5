-- What is known of accepted forms, as laws.
use Rattle.std.specs.Prelude.{◌≡◌, ℕ, List, length, true, Some, None, is_some}
use Rattle.model_symbols.specs.Symbols.{Package}
use Rattle.model_terms.specs.declared.rule.Mode.TheVariants.{Executable}
use Rattle.model_terms.specs.Cores.{Core}
use Rattle.model_terms.specs.Worlds.{World, FunctionOfAbstract, OfAbstract, definition, Out, Scope}
use Rattle.model_terms.specs.Classes.{has, stobjs}
use Rattle.model_terms.specs.Faults.{first_fault}
use Rattle.model_eval.specs.Outcomes.{StateOf}
use Rattle.model_eval.specs.Keeping.{Keeping}
use Rattle.model_eval.specs.Variables.{Variables}
use Rattle.model_eval.specs.Checked.{checked_keeping}
use Rattle.model_accepted.specs.Threaded.{IsFormed, Suits, IsThreaded}
use Rattle.model_accepted.specs.StobjScopes.{IsStobj, AreVariables}
use Rattle.model_machine.specs.Frames.{Turned, Going}
use Rattle.model_machine.specs.Ending.{begun_on}
use Rattle.model_window.specs.Stands.{Origins, Worlds}
use Rattle.model_window.specs.Laws.{begun_in, FitsFor}
use Rattle.model_slots.specs.Environments.{formal_environment}
use Rattle.model_slots.specs.Resolved.{resolved}
use Rattle.model_fitting.specs.Giving.{GiveOnlyGiven, HasOwnNames, DefinedGiveOnlyGiven}
use Rattle.model_fitting.specs.Steps.{TurnFits, WasAccepted, AreOrigins}

-- where functions give no stobj but those that they are given, a form in which no rule fails gives no stobj but those in scope
pub record AcceptedGiveOnlyGiven : Type 0 where
  pub gives : (w : World) → GiveOnlyGiven w → (scope : Scope) → HasOwnNames scope → (f : Core) (expected : List Out) → IsFormed w f → first_fault w Executable scope f expected ≡ None
      → (x : ℕ) → has (stobjs expected) x ≡ true → IsStobj scope x

-- a machine over forms that does what accepted forms do fits in each turn, and so does one that is begun on a form in which no
-- rule fails, with variables as its scope says
pub record AcceptedFit {O B : Type 0} (keeping : Keeping ℕ O B) : Type 0 where
  pub turns : (w : World) → IsThreaded w → (packages : List Package) (limit : ℕ) (origins : Origins) → AreOrigins w origins → (n : ℕ) (worlds : Worlds) (m : Turned ℕ O B) → TurnFits w worlds m
      → FitsFor (checked_keeping keeping w packages limit) origins n worlds m
  pub begun : (w : World) → IsThreaded w → (packages : List Package) (limit : ℕ) (origins : Origins) → AreOrigins w origins → (c : World) → Suits c w → (scope : Scope) (form : Core) (expected : List Out) → IsFormed c form
      → first_fault c Executable scope form expected ≡ None → (variables : Variables ℕ) → AreVariables scope variables → (n depth : ℕ) (state : StateOf O)
      → FitsFor (checked_keeping keeping w packages limit) origins n (begun_in c) (Going (begun_on depth form variables state))

-- a threaded world has origins: the worlds in which its functions were checked
pub record OriginsExist : Type 0 where
  pub origins : (w : World) → IsThreaded w → Origins
  pub are : (w : World) (threaded : IsThreaded w) → ((x : ℕ) (f : FunctionOfAbstract) → definition w x ≡ Some (OfAbstract f) → length f.formals ≡ length f.signature.ins) → AreOrigins w (origins w threaded)

-- in a threaded world primitives, the functions of stobjs and exports give no stobj but those that they are given
pub record GivenWhereDefinedGive : Type 0 where
  pub given : (w : World) → IsThreaded w → DefinedGiveOnlyGiven w → GiveOnlyGiven w

-- a guard or a body over formals has a tree in the world in which it was accepted, so in that of its origins
pub record CheckedHaveTrees : Type 0 where
  pub form : (w c : World) (formals : List ℕ) (ins : List Out) (form : Core) (expected : List Out) → WasAccepted w c formals ins form expected
      → is_some (resolved c (formal_environment formals) (length formals) form) ≡ true
