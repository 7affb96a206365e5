-- Objects that are not in scope.
use Rattle.std.specs.Prelude.{◌≡◌, ℕ, List, [], ◌∷◌, ◌++◌, map, Bool, true, nat_eq}
use Rattle.std.specs.List.{list_any}
use Rattle.model_symbols.specs.Symbols.{Package}
use Rattle.model_terms.specs.Cores.{Core}
use Rattle.model_terms.specs.Worlds.{World}
use Rattle.model_eval.specs.Outcomes.{Shown, Plain, StobjNamed, Stobjs, State, Outcome, Gives, Stops, Unknown, with_state}
use Rattle.model_eval.specs.Variables.{Variables}
use Rattle.model_eval.specs.Checked.{checked}

abbrev pub names : {S : Type 0} → Stobjs S → List ℕ
names stobjs = map (λ o. o.0) stobjs

abbrev pub is_among : ℕ → List ℕ → Bool
is_among x xs = list_any (nat_eq x) xs

-- a value is ordinary, or one of these stobjs
abbrev pub InScope : {S : Type 0} → List ℕ → Shown S → Type 0
InScope stobjs (Plain o) = Unit {0}
InScope stobjs (StobjNamed x) = is_among x stobjs ≡ true

abbrev pub AllInScope : {S : Type 0} → List ℕ → Variables S → Type 0
AllInScope stobjs [] = Unit {0}
AllInScope stobjs (v ∷ vs) = InScope stobjs v.1 × AllInScope stobjs vs

-- the state with more stobjs, which no variable has
abbrev pub widened : {S : Type 0} → Stobjs S → State S → State S
widened others state = record state { stobjs = state.stobjs ++ others }

-- the outcome has the lists of these stobjs
abbrev pub HasNames : {S : Type 0} → List ℕ → Outcome S → Type 0
HasNames stobjs (Gives values state) = names state.stobjs ≡ stobjs
HasNames stobjs (Stops stop origin state) = names state.stobjs ≡ stobjs
HasNames stobjs Unknown = Unit {0}

-- an evaluation does not depend on other stobjs, and leaves them as they are
pub record LeavesOthers : Type 0 where
  pub same : (w : World) (packages : List Package) (k d : ℕ) (form : Core) (variables : Variables ℕ) (state : State ℕ) (others : Stobjs ℕ)
      → AllInScope (names state.stobjs) variables
      → checked w packages k d form variables (widened others state) ≡ with_state (widened others) (checked w packages k d form variables state)
  pub kept : (w : World) (packages : List Package) (k d : ℕ) (form : Core) (variables : Variables ℕ) (state : State ℕ)
      → AllInScope (names state.stobjs) variables
      → HasNames (names state.stobjs) (checked w packages k d form variables state)
