-- Parts that are applied to a state one after the other.
use Rattle.std.specs.Prelude.{Bool, List, [], ◌∷◌}
use Rattle.std.specs.Coded.{Coded, code_by, coded×, coded_list, coded_bool}
use mathlib.Core.Path.{refl}

-- what was noted, the oldest first, and whether more may be noted
pub record Noted (X : Type 0) : Type 0 where
  pub parts : List X
  pub is_open : Bool

abbrev pub noted_code : {X : Type 0} → Coded X → Coded (Noted X)
noted_code c = code_by (List _ × Bool) (coded× (coded_list c) coded_bool) (λ n. (n.parts, n.is_open)) (λ p. record { parts = p.0; is_open = p.1 }) (λ _. refl)

module _ {X S : Type 0} where
  -- the state after the parts, the first of the list first
  abbrev pub after_all : (X → S → S) → List X → S → S
  after_all apply [] s = s
  after_all apply (p ∷ ps) s = after_all apply ps (apply p s)

  -- each part fits the state that the parts before it leave
  abbrev pub AllFit : (X → S → Type 0) → (X → S → S) → List X → S → Type 0
  AllFit fits apply [] s = Unit {0}
  AllFit fits apply (p ∷ ps) s = fits p s × AllFit fits apply ps (apply p s)
