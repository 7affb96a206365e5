-- A command's form in place: how its evaluation begins, and a law of it.
use Rattle.std.specs.Prelude.{◌≡◌, ℕ, List, map, true, None}
use Rattle.model_symbols.specs.Symbols.{QualifiedName, Package}
use Rattle.model_terms.specs.Cores.{Core}
use Rattle.model_terms.specs.Worlds.{World, Scope, Stobj}
use Rattle.model_terms.specs.Outputs.{outs}
use Rattle.model_terms.specs.Faults.{expression_fault}
use Rattle.model_eval.specs.Outcomes.{Stobjs}
use Rattle.model_eval.specs.Variables.{list_of}
use Rattle.model_eval.specs.Checked.{checked, begun, live}
use Rattle.model_eval.specs.InPlace.{in_place, begun_in_place}
use Rattle.model_eval_laws.specs.Scope.{names, is_among}
use Rattle.model_accepted.specs.Threaded.{IsFormed, Suits, IsThreaded, Fits}
use Rattle.model_in_place.specs.Agreement.{Agrees}

-- each live stobj under its own name
abbrev pub live_scope : Stobjs ℕ → Scope
live_scope stobjs = map (λ o. record { name = o.0; kind = Stobj o.0 }) stobjs

-- each stobj has a list that it may have
pub record AreFitting (w : World) (stobjs : Stobjs ℕ) : Type 0 where
  pub each : (x : ℕ) → is_among x (names stobjs) ≡ true → Fits w x (list_of stobjs x)

-- an expression over live stobjs, each a root of its own: as an evaluation begins
pub record CommandsAgree : Type 0 where
  pub same : (w : World) → IsThreaded w → Suits w w → (stobjs : Stobjs ℕ) → AreFitting w stobjs → (form : Core) → expression_fault w (live_scope stobjs) form ≡ None → IsFormed w form
      → (packages : List Package) (symbols : List QualifiedName) (k d used : ℕ)
      → Agrees w (live_scope stobjs) (outs w (live_scope stobjs) form) (begun symbols stobjs used) (begun_in_place symbols stobjs used)
      (checked w packages k d form (live stobjs) (begun symbols stobjs used)) (in_place w packages k d form (live stobjs) (begun_in_place symbols stobjs used))
