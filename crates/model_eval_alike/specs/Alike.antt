-- Objects, states and outcomes that are alike: the same names one by one, with lists that stand for one live stobj, and else the same.
use Rattle.std.specs.Prelude.{◌≡◌, ℕ, [], ◌∷◌, map}
use Rattle.std.specs.declared.cmp.Ordering.{Ordering}
use Rattle.model_lists.specs.Normal.{canonical}
use Rattle.model_lists.specs.LiveLists.{AreAlike}
use Rattle.model_eval.specs.Outcomes.{Stobjs, State, Outcome, Gives, Stops, Unknown}

module _ {S : Type 0} (names : S → S → Ordering) where
  abbrev pub AreAlikeStobjs : Stobjs S → Stobjs S → Type 0
  AreAlikeStobjs [] [] = Unit {0}
  AreAlikeStobjs [] (p ∷ ps) = ⊥
  AreAlikeStobjs (o ∷ os) [] = ⊥
  AreAlikeStobjs (o ∷ os) (p ∷ ps) = (o.0 ≡ p.0) × AreAlike names o.1 p.1 × AreAlikeStobjs os ps

  pub record AreAlikeStates (a b : State S) : Type 0 where
    pub stobjs : AreAlikeStobjs a.stobjs b.stobjs
    pub symbols : a.symbols ≡ b.symbols
    pub calls : a.calls ≡ b.calls
    pub outer : a.outer ≡ b.outer

  -- the same values, or the same stop from the same origin, and states that are alike
  abbrev pub AreAlikeOutcomes : Outcome S → Outcome S → Type 0
  AreAlikeOutcomes (Gives values a) (Gives others b) = (values ≡ others) × AreAlikeStates a b
  AreAlikeOutcomes (Gives values a) (Stops stop origin b) = ⊥
  AreAlikeOutcomes (Gives values a) Unknown = ⊥
  AreAlikeOutcomes (Stops stop origin a) (Gives others b) = ⊥
  AreAlikeOutcomes (Stops stop origin a) (Stops cause source b) = (stop ≡ cause) × (origin ≡ source) × AreAlikeStates a b
  AreAlikeOutcomes (Stops stop origin a) Unknown = ⊥
  AreAlikeOutcomes Unknown (Gives others b) = ⊥
  AreAlikeOutcomes Unknown (Stops cause source b) = ⊥
  AreAlikeOutcomes Unknown Unknown = Unit {0}

-- the stobjs with their canonical lists
abbrev pub canonical_stobjs : Stobjs ℕ → Stobjs ℕ
canonical_stobjs stobjs = map (λ o. (o.0, canonical o.1)) stobjs
