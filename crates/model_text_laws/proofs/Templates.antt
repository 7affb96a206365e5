-- Templates, and what they are read as.
use Rattle.std.specs.Prelude.{◌≡◌, List, [], ◌∷◌, ◌++◌, Bool, true, false, ◌||◌, if◌then◌else◌, refl}
use Rattle.std.proofs.Common.{ap, ◌∙◌}
use Rattle.model_objects.specs.Object.{Pair}
use Rattle.model_text.specs.Backquote.{Template, Constant, Comma, CommaAt, Both, has_comma, form_of, expansion, pair_expansion, quote_form, cons_form, Item, Plain, Made, Spliced, item_form, item_expansion, joined, joined_onto, item_of}

or_false : (s t : Bool) → (s || t) ≡ false → (s ≡ false) × (t ≡ false)
or_false true t h = cc
or_false false t h = (refl, h)

-- without commas
pub plain_is : (t : Template) → has_comma t ≡ false → item_of t ≡ Plain (form_of t)
plain_is (Constant f) h = refl
plain_is (Comma f) h = cc
plain_is (CommaAt f) h = cc
plain_is (Both a d) h = let q = or_false (has_comma a) (has_comma d) h in rw (plain_is a q.0, plain_is d q.1) refl

pub form_is : (t : Template) → has_comma t ≡ false → item_form (item_of t) ≡ form_of t
form_is t h = ap item_form (plain_is t h)

-- with commas
abbrev is_plain : Item → Bool
is_plain (Plain f) = true
is_plain (Made f) = false
is_plain (Spliced f) = false

joined_plain : (i j : Item) → is_plain (joined i j) ≡ true → (is_plain i ≡ true) × (is_plain j ≡ true)
joined_plain (Plain a) (Plain d) h = (refl, refl)
joined_plain (Plain a) (Made d) h = cc
joined_plain (Plain a) (Spliced d) h = cc
joined_plain (Made a) j h = cc
joined_plain (Spliced a) j h = cc

not_plain : (t : Template) → is_plain (item_of t) ≡ true → has_comma t ≡ false
not_plain (Constant f) h = refl
not_plain (Comma f) h = cc
not_plain (CommaAt f) h = cc
not_plain (Both a d) h = let q = joined_plain (item_of a) (item_of d) h in rw (not_plain a q.0, not_plain d q.1) refl

abbrev is_spliced : Item → Bool
is_spliced (Plain f) = false
is_spliced (Made f) = false
is_spliced (Spliced f) = true

joined_unspliced : (i j : Item) → is_spliced (joined i j) ≡ false
joined_unspliced (Plain a) (Plain d) = refl
joined_unspliced (Plain a) (Made d) = refl
joined_unspliced (Plain a) (Spliced d) = refl
joined_unspliced (Made a) j = refl
joined_unspliced (Spliced a) j = refl

mixed_items : (i j : Item) → is_spliced i ≡ false → (is_plain i ≡ true → is_plain j ≡ false) → item_expansion (joined i j) ≡ cons_form (item_expansion i) (item_expansion j)
mixed_items (Plain a) (Plain d) s h = let e = h refl in cc
mixed_items (Plain a) (Made d) s h = refl
mixed_items (Plain a) (Spliced d) s h = refl
mixed_items (Made a) j s h = refl
mixed_items (Spliced a) j s h = cc

-- a pair of which a part has commas
mixed : (a : Template) (j : Item) → (is_plain (item_of a) ≡ true → is_plain j ≡ false) → item_expansion (joined (item_of a) j) ≡ pair_expansion a (item_expansion (item_of a)) (item_expansion j)
mixed (Constant f) j h = mixed_items (Plain f) j refl h
mixed (Comma f) j h = refl
mixed (CommaAt f) j h = refl
mixed (Both b c) j h = mixed_items (joined (item_of b) (item_of c)) j (joined_unspliced (item_of b) (item_of c)) h

other_mixed : (a d : Template) → (has_comma a || has_comma d) ≡ true → is_plain (item_of a) ≡ true → is_plain (item_of d) ≡ false
other_mixed a d e p = go (is_plain (item_of d)) refl where
  go : (b : Bool) → is_plain (item_of d) ≡ b → b ≡ false
  go true q = let x = not_plain a p in let y = not_plain d q in cc
  go false q = refl

-- what is read expands to what the template expands to
pub expansion_is : (t : Template) → item_expansion (item_of t) ≡ expansion t
expansion_is (Constant f) = refl
expansion_is (Comma f) = refl
expansion_is (CommaAt f) = refl
expansion_is (Both a d) = go (has_comma a || has_comma d) refl (expansion_is a) (expansion_is d) where
  go : (b : Bool) → (has_comma a || has_comma d) ≡ b → item_expansion (item_of a) ≡ expansion a → item_expansion (item_of d) ≡ expansion d
      → item_expansion (joined (item_of a) (item_of d)) ≡ (if b then pair_expansion a (expansion a) (expansion d) else quote_form (Pair (form_of a) (form_of d)))
  go true e x y = mixed a (item_of d) (other_mixed a d e) ∙ (ap (λ u. pair_expansion a u (item_expansion (item_of d))) x ∙ ap (pair_expansion a (expansion a)) y)
  go false e x y = let q = or_false (has_comma a) (has_comma d) e in rw (plain_is a q.0, plain_is d q.1) refl

pub joined_push : (is : List Item) (i end : Item) → joined_onto (is ++ i ∷ []) end ≡ joined_onto is (joined i end)
joined_push [] i end = refl
joined_push (j ∷ is) i end = ap (joined j) (joined_push is i end)
