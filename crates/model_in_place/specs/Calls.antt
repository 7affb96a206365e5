-- The stobjs of a call: each formal with its actual.
use Rattle.std.specs.Prelude.{◌≡◌, ℕ, List, [], ◌∷◌, nat_eq, if◌then◌else◌}
use Rattle.model_terms.specs.Worlds.{World, Out, Ordinary, Scope, Signature}
use Rattle.model_terms.specs.Worlds as worlds
use Rattle.model_eval.specs.Outcomes.{Shown, Plain, StobjNamed, Stobjs}
use Rattle.model_eval.specs.PlacesKeeping.{Places, place_of}
use Rattle.model_eval.specs.Variables.{list_of, with_list}
use Rattle.model_accepted.specs.Threaded.{layout_of}
use Rattle.model_accepted.specs.StobjScopes.{IsStobj}
use Rattle.model_in_place.specs.Writes.{Write}

abbrev pub Pairs : Type 0
Pairs = List (ℕ × ℕ)

abbrev pub pairs_of : List ℕ → List (Shown ℕ) → Pairs
pairs_of [] vs = []
pairs_of (x ∷ xs) [] = []
pairs_of (x ∷ xs) (Plain o ∷ vs) = pairs_of xs vs
pairs_of (x ∷ xs) (StobjNamed y ∷ vs) = (x, y) ∷ pairs_of xs vs

abbrev pub names_in : List (Shown ℕ) → List ℕ
names_in [] = []
names_in (Plain o ∷ vs) = names_in vs
names_in (StobjNamed y ∷ vs) = y ∷ names_in vs

abbrev pub firsts : Pairs → List ℕ
firsts [] = []
firsts (p ∷ ps) = p.0 ∷ firsts ps

abbrev pub seconds : Pairs → List ℕ
seconds [] = []
seconds (p ∷ ps) = p.1 ∷ seconds ps

abbrev pub actual : Pairs → ℕ → ℕ
actual [] x = x
actual (p ∷ ps) x = if nat_eq x p.0 then p.1 else actual ps x

abbrev pub lists_for : Pairs → Stobjs ℕ → Stobjs ℕ
lists_for [] stobjs = []
lists_for (p ∷ ps) stobjs = (p.0, list_of stobjs p.1) ∷ lists_for ps stobjs

abbrev pub places_for : Pairs → Places → Places
places_for [] scope = []
places_for (p ∷ ps) scope = (p.0, place_of scope p.1) ∷ places_for ps scope

abbrev pub lists_back : Pairs → Stobjs ℕ → Stobjs ℕ → Stobjs ℕ
lists_back [] inner stobjs = stobjs
lists_back (p ∷ ps) inner stobjs = lists_back ps inner (with_list p.1 (list_of inner p.0) stobjs)

-- writes to formals as writes to their actuals
abbrev pub writes_out : Pairs → List Write → List Write
writes_out ps [] = []
writes_out ps (u ∷ us) = (actual ps u.0, u.1) ∷ writes_out ps us

-- each actual is a stobj in scope that may stand for its formal
abbrev pub ArePairs : World → Scope → Pairs → Type 0
ArePairs w scope [] = Unit {0}
ArePairs w scope (p ∷ ps) = IsStobj scope p.1 × (layout_of w p.0 ≡ layout_of w p.1) × ArePairs w scope ps

-- the arguments of a function with these inputs
abbrev pub IsArgument : World → Scope → Out → Shown ℕ → Type 0
IsArgument w scope Ordinary (Plain o) = Unit {0}
IsArgument w scope Ordinary (StobjNamed y) = ⊥
IsArgument w scope (worlds.Stobj x) (Plain o) = ⊥
IsArgument w scope (worlds.Stobj x) (StobjNamed y) = IsStobj scope y × (layout_of w x ≡ layout_of w y)

abbrev pub AreArguments : World → Scope → List Out → List (Shown ℕ) → Type 0
AreArguments w scope [] [] = Unit {0}
AreArguments w scope [] (v ∷ vs) = ⊥
AreArguments w scope (k ∷ ks) [] = ⊥
AreArguments w scope (k ∷ ks) (v ∷ vs) = IsArgument w scope k v × AreArguments w scope ks vs
