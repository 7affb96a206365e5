-- What an accepted form does to the lists of stobjs, on lists alone.
use Rattle.std.specs.Prelude.{◌≡◌, ◌≢◌, ℕ, List, true, None}
use Rattle.model_symbols.specs.Symbols.{Package}
use Rattle.model_terms.specs.declared.rule.Mode.{Mode}
use Rattle.model_terms.specs.declared.rule.Mode.TheVariants.{Logic}
use Rattle.model_terms.specs.Cores.{Core}
use Rattle.model_terms.specs.Worlds.{World, Out, Scope}
use Rattle.model_terms.specs.Faults.{first_fault}
use Rattle.model_eval.specs.Outcomes.{Stobjs, State, Outcome, Gives, Stops, Unknown}
use Rattle.model_eval.specs.Variables.{Variables, list_of}
use Rattle.model_eval.specs.Checked.{checked}
use Rattle.model_eval_laws.specs.Scope.{names, is_among}
use Rattle.model_accepted.specs.Threaded.{IsFormed, Suits, IsThreaded, Fits}
use Rattle.model_accepted.specs.StobjScopes.{IsStobj, AreVariables, AreOutputs}
use Rattle.model_in_place.specs.Writes.{Write, stobjs_after, AreWrites}
use Rattle.model_in_place.specs.Agreement.{Keeps}

-- the stobjs of the scope are there, with lists that they may have
pub record AreThere (w : World) (scope : Scope) (stobjs : Stobjs ℕ) : Type 0 where
  pub known : (x : ℕ) → IsStobj scope x → is_among x (names stobjs) ≡ true
  pub fits : (x : ℕ) → IsStobj scope x → Fits w x (list_of stobjs x)

-- stobjs after writes to those of the scope
pub record IsWritten (w : World) (scope : Scope) (s u : State ℕ) : Type 0 where
  pub writes : List Write
  pub allowed : AreWrites w (IsStobj scope) writes
  pub lists : u.stobjs ≡ stobjs_after writes s.stobjs

-- the values are the expected outputs, and a stobj that is not among them has the list that it had
abbrev pub IsKept : World → Scope → List Out → State ℕ → Outcome ℕ → Type 0
IsKept w scope expected s (Gives values u) = AreOutputs scope expected values × IsWritten w scope s u × Keeps scope expected s u
IsKept w scope expected s (Stops stop origin u) = IsWritten w scope s u
IsKept w scope expected s Unknown = ⊥

pub record ChangesOnlyOutputs : Type 0 where
  pub kept : (w : World) → IsThreaded w
      → (c : World) (mode : Mode) (scope : Scope) (form : Core) (expected : List Out) → Suits c w → mode ≢ Logic → first_fault c mode scope form expected ≡ None → IsFormed c form
      → (packages : List Package) (k d : ℕ) (variables : Variables ℕ) (s : State ℕ) → AreVariables scope variables → AreThere w scope s.stobjs
      → IsKept w scope expected s (checked w packages k d form variables s)
