-- Lists in a heap.
use Rattle.std.specs.Prelude.{◌≡◌, ℕ, ◌≤◌, List, [], ◌∷◌, ◌++◌, length, map, max, Option, Some, None}
use Rattle.model_objects.specs.Object.{Object, Integer, Symbol, Text, Pair}
use Rattle.acl_base.specs.declared.SymId.{SymId}
use Rattle.acl_base.specs.declared.Word.{Word}
use Rattle.acl_heap.specs.Objects.{Objects, object_of, Lies, reach}
use Rattle.acl_terms.specs.Forms.{most, numbers}
use Rattle.acl_layers.specs.declared.layer.Left.{Left}

-- the objects along a list, however it ends
abbrev pub items_along : Object ℕ → List (Object ℕ)
items_along (Integer n) = []
items_along (Symbol s) = []
items_along (Text bytes) = []
items_along (Pair a d) = a ∷ items_along d

abbrev pub last_item : Objects → Option Word → List (Object ℕ)
last_item h None = []
last_item h (Some w) = object_of h w ∷ []

-- what stands behind a head
abbrev pub seen_left : Objects → Left → List (Object ℕ)
seen_left h l = items_along (object_of h l.list) ++ last_item h l.last

abbrev pub option_reach : Option Word → ℕ
option_reach None = 0
option_reach (Some w) = reach w

abbrev pub left_reach : Left → ℕ
left_reach l = max (reach l.list) (option_reach l.last)

abbrev pub LeftLies : Objects → Left → Type 0
LeftLies h l = left_reach l ≤ length h

-- the first of what is left, and what is left then
abbrev pub Takes : Objects → List (Object ℕ) → Option (Word × Left) → Type 0
Takes h os None = os ≡ []
Takes h os (Some p) = (os ≡ object_of h p.0 ∷ seen_left h p.1) × Lies h p.0 × LeftLies h p.1

-- all of a list that has so many
abbrev pub only_one : List (Object ℕ) → Option (Object ℕ)
only_one [] = None
only_one (a ∷ []) = Some a
only_one (a ∷ (b ∷ os)) = None

abbrev pub only_two : List (Object ℕ) → Option (Object ℕ × Object ℕ)
only_two [] = None
only_two (a ∷ []) = None
only_two (a ∷ (b ∷ [])) = Some (a, b)
only_two (a ∷ (b ∷ (c ∷ os))) = None

abbrev pub only_three : List (Object ℕ) → Option (Object ℕ × Object ℕ × Object ℕ)
only_three [] = None
only_three (a ∷ []) = None
only_three (a ∷ (b ∷ [])) = None
only_three (a ∷ (b ∷ (c ∷ []))) = Some (a, b, c)
only_three (a ∷ (b ∷ (c ∷ (d ∷ os)))) = None

abbrev pub only_four : List (Object ℕ) → Option (Object ℕ × Object ℕ × Object ℕ × Object ℕ)
only_four [] = None
only_four (a ∷ []) = None
only_four (a ∷ (b ∷ [])) = None
only_four (a ∷ (b ∷ (c ∷ []))) = None
only_four (a ∷ (b ∷ (c ∷ (d ∷ [])))) = Some (a, b, c, d)
only_four (a ∷ (b ∷ (c ∷ (d ∷ (e ∷ os))))) = None

-- all that is left, where it is so many
abbrev pub SeenOne : Objects → Option Word → List (Object ℕ) → Type 0
SeenOne h None os = only_one os ≡ None
SeenOne h (Some w) os = (os ≡ object_of h w ∷ []) × Lies h w

abbrev pub SeenTwo : Objects → Option (Word × Word) → List (Object ℕ) → Type 0
SeenTwo h None os = only_two os ≡ None
SeenTwo h (Some p) os = (os ≡ object_of h p.0 ∷ (object_of h p.1 ∷ [])) × Lies h p.0 × Lies h p.1

abbrev pub SeenThree : Objects → Option (Word × Word × Word) → List (Object ℕ) → Type 0
SeenThree h None os = only_three os ≡ None
SeenThree h (Some p) os = (os ≡ object_of h p.0 ∷ (object_of h p.1 ∷ (object_of h p.2 ∷ []))) × Lies h p.0 × Lies h p.1 × Lies h p.2

abbrev pub SeenFour : Objects → Option (Word × Word × Word × Word) → List (Object ℕ) → Type 0
SeenFour h None os = only_four os ≡ None
SeenFour h (Some p) os =
    (os ≡ object_of h p.0 ∷ (object_of h p.1 ∷ (object_of h p.2 ∷ (object_of h p.3 ∷ [])))) × Lies h p.0 × Lies h p.1 × Lies h p.2 × Lies h p.3

abbrev pub SeenWord : Objects → Option Word → Option (Object ℕ) → Type 0
SeenWord h None o = o ≡ None
SeenWord h (Some w) o = (o ≡ Some (object_of h w)) × Lies h w

-- a true list, as what is left of one
abbrev pub SeenList : Objects → Option Left → Option (List (Object ℕ)) → Type 0
SeenList h None o = o ≡ None
SeenList h (Some l) o = (o ≡ Some (seen_left h l)) × LeftLies h l

abbrev pub SeenSymbols : Option (List SymId) → Option (List ℕ) → Type 0
SeenSymbols None o = o ≡ None
SeenSymbols (Some xs) o = o ≡ Some (numbers xs)

-- names with the forms that are bound to them
abbrev pub seen_binding : Objects → SymId × Word → ℕ × Object ℕ
seen_binding h b = (b.0.0, object_of h b.1)

abbrev pub seen_bindings : Objects → List (SymId × Word) → List (ℕ × Object ℕ)
seen_bindings h bs = map (seen_binding h) bs

abbrev pub bindings_reach : List (SymId × Word) → ℕ
bindings_reach bs = most (map (λ (b : SymId × Word). reach b.1) bs)

abbrev pub SeenBinding : Objects → Option (SymId × Word) → Option (ℕ × Object ℕ) → Type 0
SeenBinding h None o = o ≡ None
SeenBinding h (Some b) o = (o ≡ Some (seen_binding h b)) × Lies h b.1

abbrev pub SeenBindings : Objects → Option (List (SymId × Word)) → Option (List (ℕ × Object ℕ)) → Type 0
SeenBindings h None o = o ≡ None
SeenBindings h (Some bs) o = (o ≡ Some (seen_bindings h bs)) × (bindings_reach bs ≤ length h)
