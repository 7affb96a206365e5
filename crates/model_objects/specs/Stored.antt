-- How the logic stores an object: as what a stack machine builds it from (ACL2's manual, topic CONS).
use Rattle.std.specs.Prelude.{◌≡◌, ℕ, List, [], ◌∷◌, ◌++◌, ℤ, pos, refl, ◌⊎◌}
use Rattle.std.proofs.Common.{ap, sym, ◌∙◌, inl, inr}
use Rattle.std.proofs.lemmas.List.{append_assoc, append-nil}
use Rattle.std.specs.Coded.{Coded, code_by, coded⊎, coded_ℕ, coded_ℤ, coded_list}
use base.Stored.{coded_unit}
use Rattle.model_objects.specs.Object.{Object, Integer, Symbol, Text, Pair}

abbrev pub Item : Type 0
Item = ℤ ⊎ (ℕ ⊎ (List ℕ ⊎ Unit {0}))

-- the object after its parts
abbrev pub items_of : Object ℕ → List Item
items_of (Integer n) = inl n ∷ []
items_of (Symbol s) = inr (inl s) ∷ []
items_of (Text bytes) = inr (inr (inl bytes)) ∷ []
items_of (Pair a d) = items_of a ++ (items_of d ++ inr (inr (inr tt)) ∷ [])

-- the two on top become a pair
abbrev pub joined : List (Object ℕ) → List (Object ℕ)
joined (d ∷ a ∷ below) = Pair a d ∷ below
joined (d ∷ []) = []
joined [] = []

abbrev pub put : Item → List (Object ℕ) → List (Object ℕ)
put (inl n) below = Integer n ∷ below
put (inr (inl s)) below = Symbol s ∷ below
put (inr (inr (inl bytes))) below = Text bytes ∷ below
put (inr (inr (inr u))) below = joined below

abbrev pub built : List Item → List (Object ℕ) → List (Object ℕ)
built [] below = below
built (i ∷ is) below = built is (put i below)

abbrev pub top_of : List (Object ℕ) → Object ℕ
top_of [] = Integer (pos 0)
top_of (o ∷ below) = o

pub built-items_of : (o : Object ℕ) (is : List Item) (below : List (Object ℕ)) → built (items_of o ++ is) below ≡ built is (o ∷ below)
built-items_of (Integer n) is below = refl
built-items_of (Symbol s) is below = refl
built-items_of (Text bytes) is below = refl
built-items_of (Pair a d) is below =
    ap (λ (l : List Item). built l below) (append_assoc (items_of a) (items_of d ++ inr (inr (inr tt)) ∷ []) is)
    ∙ (built-items_of a ((items_of d ++ inr (inr (inr tt)) ∷ []) ++ is) below
    ∙ (ap (λ (l : List Item). built l (a ∷ below)) (append_assoc (items_of d) (inr (inr (inr tt)) ∷ []) is)
    ∙ built-items_of d (inr (inr (inr tt)) ∷ is) (a ∷ below)))

pub built_again : (o : Object ℕ) → top_of (built (items_of o) []) ≡ o
built_again o = ap (λ (l : List Item). top_of (built l [])) (sym (append-nil (items_of o))) ∙ ap top_of (built-items_of o [] [])

abbrev pub object_code : Coded (Object ℕ)
object_code = code_by (List Item) (coded_list (coded⊎ coded_ℤ (coded⊎ coded_ℕ (coded⊎ (coded_list coded_ℕ) coded_unit)))) items_of (λ is. top_of (built is [])) built_again
