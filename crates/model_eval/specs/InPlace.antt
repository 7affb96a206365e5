-- Checked evaluation with the stobjs in place (Boyer and Moore, Single-Threaded Objects in ACL2, 2002).
use Rattle.std.specs.Prelude.{ℕ, List, [], ◌∷◌, ◌+◌, map}
use Rattle.model_symbols.specs.Symbols.{QualifiedName, Package}
use Rattle.model_terms.specs.Worlds.{World}
use Rattle.model_eval.specs.Outcomes.{Stobjs, StateOf}
use Rattle.model_eval.specs.PlacesKeeping.{At, Places, Closed, Store, places_keeping}
use Rattle.model_eval.specs.Evaluated.{RulesOf, EvaluatorOf, evaluated}
use Rattle.model_eval.specs.Checked.{checked_keeping}

abbrev pub in_place_rules : World → List Package → ℕ → RulesOf (places_keeping {S = ℕ})
in_place_rules w packages limit = checked_keeping places_keeping w packages limit

-- the outcome of a form with a limit of calls, where so many forms may be open
abbrev pub in_place : World → List Package → ℕ → ℕ → EvaluatorOf ℕ (Store ℕ)
in_place w packages limit depth = evaluated (in_place_rules w packages limit) depth

-- ---- how an evaluation begins

-- each stobj is a root of its own
abbrev pub roots_from : {S : Type 0} → ℕ → Stobjs S → Places
roots_from n [] = []
roots_from n (o ∷ os) = (o.0, At n []) ∷ roots_from (n + 1) os

abbrev pub placed : {S : Type 0} → Stobjs S → Store S
placed stobjs = record { scope = roots_from 0 stobjs; roots = map (λ o. o.1) stobjs; journal = Closed }

abbrev pub begun_in_place : List QualifiedName → Stobjs ℕ → ℕ → StateOf (Store ℕ)
begun_in_place symbols stobjs used = record { stobjs = placed stobjs; symbols = symbols; calls = used; outer = 0 }
