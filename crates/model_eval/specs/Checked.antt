-- Checked evaluation: every guard, every bound and every limit, symbols by number (ACL2's manual, topics GUARD, EVALUATION).
use Rattle.std.specs.Prelude.{ℕ, List, [], ◌∷◌, map, Some}
use Rattle.model_symbols.specs.Symbols.{QualifiedName, Package}
use Rattle.model_prims.specs.Kinds.{by_number}
use Rattle.model_prims.specs.Applied.{Applied, applied}
use Rattle.model_prims.specs.Applied as prims
use Rattle.model_prims.specs.declared.prim.Prim.{Prim}
use Rattle.model_terms.specs.Worlds.{World, FunctionOfAbstract}
use Rattle.model_eval.specs.Outcomes.{Shown, Plain, StobjNamed, Stobjs, Guard, Range, Large, Symbols, StateOf, State, OutcomeOf, Gives, Stops, Unknown, stops_here, inside_of, counting}
use Rattle.model_eval.specs.Keeping.{Keeping, beginning, committing, abandoning}
use Rattle.model_eval.specs.ListsKeeping.{lists_keeping}
use Rattle.model_eval.specs.Variables.{Variables, ordinary}
use Rattle.model_eval.specs.StobjLayouts.{new_list}
use Rattle.model_eval.specs.Evaluated.{RulesOf, Rules, Evaluator, evaluated}

module _ {O : Type 0} where
  -- the outcome of a primitive
  abbrev pub primitive_ended : ℕ → List (Shown ℕ) → StateOf O → Applied → OutcomeOf ℕ O
  primitive_ended f values state (prims.Gives o symbols) = Gives (Plain o ∷ []) (record state { symbols = symbols })
  primitive_ended f values state (prims.Stops prims.Guard) = stops_here (Guard f values) state
  primitive_ended f values state (prims.Stops prims.Range) = stops_here (Range f) state
  primitive_ended f values state (prims.Stops prims.Large) = stops_here (Large f) state
  primitive_ended f values state (prims.Stops prims.Symbols) = stops_here (Symbols f) state

  abbrev pub checked_primitive : List Package → ℕ → Prim → List (Shown ℕ) → StateOf O → OutcomeOf ℕ O
  checked_primitive packages f p values state =
      primitive_ended f values state (applied (record { packages = packages; symbols = state.symbols }) p (ordinary values))

module _ {S O B : Type 0} (keeping : Keeping S O B) where
  -- the outcome of what an export made, after so many outer calls, from its actuals and what its call left behind: no call there is
  -- an outer one; and where it stopped, it stopped inside, and the stobj is as it was at the call
  abbrev pub inside_after : List (Shown S) → B → ℕ → ℕ → OutcomeOf S O → OutcomeOf S O
  inside_after actuals before export outer (Gives values after) = Gives values (committing keeping (record after { outer = outer }))
  inside_after actuals before export outer (Stops stop origin after) =
      Stops stop (inside_of export origin) (abandoning keeping actuals before (record after { outer = outer }))
  inside_after actuals before export outer Unknown = Unknown

  -- the exec function's call is counted, and the evaluation is inside the export from then on
  abbrev pub checked_export : ℕ → FunctionOfAbstract → List (Shown S) → B → (StateOf O → OutcomeOf S O) → StateOf O → OutcomeOf S O
  checked_export limit f actuals before exec state =
      counting limit state (λ after. inside_after actuals before f.name state.outer (exec (beginning keeping after)))

-- the rules of checked evaluation with a limit of calls, where the stobjs are kept in this way
abbrev pub checked_keeping : {O B : Type 0} → (keeping : Keeping ℕ O B) → World → List Package → ℕ → RulesOf keeping
checked_keeping keeping w packages limit = record {
  world = w;
  limit = limit;
  kind = by_number;
  see = λ o. o;
  primitive = checked_primitive packages;
  fresh = λ stobj. Some (new_list w stobj);
  export = checked_export keeping limit;
}

abbrev pub checked_rules : World → List Package → ℕ → Rules ℕ
checked_rules w packages limit = checked_keeping lists_keeping w packages limit

-- the outcome of a form with a limit of calls, where so many forms may be open
abbrev pub checked : World → List Package → ℕ → ℕ → Evaluator ℕ
checked w packages limit depth = evaluated (checked_rules w packages limit) depth

-- ---- how an evaluation begins

-- with these stobjs in scope, and so many calls counted before
abbrev pub begun : List QualifiedName → Stobjs ℕ → ℕ → State ℕ
begun symbols stobjs used = record { stobjs = stobjs; symbols = symbols; calls = used; outer = 0 }

-- each stobj under its own name
abbrev pub live : {S : Type 0} → Stobjs S → Variables S
live stobjs = map (λ o. (o.0, StobjNamed o.0)) stobjs
