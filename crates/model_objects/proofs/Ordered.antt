-- The order of objects is a total order, where that of the symbols is.
use Rattle.std.specs.Prelude.{◌≡◌, refl, ◌⊎◌}
use Rattle.std.proofs.Common.{sym, ap, ◌∙◌, inl, inr}
use Rattle.std.specs.Ordering.{ordering_then, ordering_reverse}
use Rattle.std.specs.Cmp.{IsTotalOrder, int_cmp_total}
use Rattle.std.specs.Cmp.Lexicographic.{nat_list_cmp_total}
use Rattle.std.specs.declared.cmp.Ordering.{Ordering}
use Rattle.std.specs.declared.cmp.Ordering.TheVariants.{Less, Equal, Greater}
use Rattle.std.proofs.lemmas.Map.Lookups.{CmpEqualImpliesEq, exact_signed, exact_bytes}
use Rattle.model_objects.specs.Object.{Object, Integer, Symbol, Text, Pair, object_cmp}

reverse_then : (r s : Ordering) → ordering_reverse (ordering_then r s) ≡ ordering_then (ordering_reverse r) (ordering_reverse s)
reverse_then Less s = refl
reverse_then Equal s = refl
reverse_then Greater s = refl

reverse_twice : (r : Ordering) → ordering_reverse (ordering_reverse r) ≡ r
reverse_twice Less = refl
reverse_twice Equal = refl
reverse_twice Greater = refl

then_equal : (r s : Ordering) → ordering_then r s ≡ Equal → (r ≡ Equal) × (s ≡ Equal)
then_equal Less s e = cc
then_equal Equal s e = (refl, e)
then_equal Greater s e = cc

then_less : (r s : Ordering) → ordering_then r s ≡ Less → (r ≡ Less) ⊎ ((r ≡ Equal) × (s ≡ Less))
then_less Less s e = inl refl
then_less Equal s e = inr (refl, e)
then_less Greater s e = cc

module _ {S : Type 0} (names : S → S → Ordering) (t : IsTotalOrder names) where
  antisymm : (x y : Object S) → object_cmp names x y ≡ ordering_reverse (object_cmp names y x)
  antisymm (Integer x) (Integer y) = int_cmp_total.antisymm x y
  antisymm (Integer x) (Symbol y) = refl
  antisymm (Integer x) (Text y) = refl
  antisymm (Integer x) (Pair y y') = refl
  antisymm (Symbol x) (Integer y) = refl
  antisymm (Symbol x) (Symbol y) = t.antisymm x y
  antisymm (Symbol x) (Text y) = refl
  antisymm (Symbol x) (Pair y y') = refl
  antisymm (Text x) (Integer y) = refl
  antisymm (Text x) (Symbol y) = refl
  antisymm (Text x) (Text y) = nat_list_cmp_total.antisymm x y
  antisymm (Text x) (Pair y y') = refl
  antisymm (Pair x x') (Integer y) = refl
  antisymm (Pair x x') (Symbol y) = refl
  antisymm (Pair x x') (Text y) = refl
  antisymm (Pair x x') (Pair y y') = rw (antisymm x y, antisymm x' y') (sym (reverse_then (object_cmp names y x) (object_cmp names y' x')))

  congr : (x y z : Object S) → object_cmp names x y ≡ Equal → object_cmp names x z ≡ object_cmp names y z
  congr (Integer x) (Integer y) (Integer z) e = int_cmp_total.congr x y z e
  congr (Integer x) (Integer y) (Symbol z) e = refl
  congr (Integer x) (Integer y) (Text z) e = refl
  congr (Integer x) (Integer y) (Pair z z') e = refl
  congr (Integer x) (Symbol y) z e = cc
  congr (Integer x) (Text y) z e = cc
  congr (Integer x) (Pair y y') z e = cc
  congr (Symbol x) (Integer y) z e = cc
  congr (Symbol x) (Symbol y) (Integer z) e = refl
  congr (Symbol x) (Symbol y) (Symbol z) e = t.congr x y z e
  congr (Symbol x) (Symbol y) (Text z) e = refl
  congr (Symbol x) (Symbol y) (Pair z z') e = refl
  congr (Symbol x) (Text y) z e = cc
  congr (Symbol x) (Pair y y') z e = cc
  congr (Text x) (Integer y) z e = cc
  congr (Text x) (Symbol y) z e = cc
  congr (Text x) (Text y) (Integer z) e = refl
  congr (Text x) (Text y) (Symbol z) e = refl
  congr (Text x) (Text y) (Text z) e = nat_list_cmp_total.congr x y z e
  congr (Text x) (Text y) (Pair z z') e = refl
  congr (Text x) (Pair y y') z e = cc
  congr (Pair x x') (Integer y) z e = cc
  congr (Pair x x') (Symbol y) z e = cc
  congr (Pair x x') (Text y) z e = cc
  congr (Pair x x') (Pair y y') (Integer z) e = refl
  congr (Pair x x') (Pair y y') (Symbol z) e = refl
  congr (Pair x x') (Pair y y') (Text z) e = refl
  congr (Pair x x') (Pair y y') (Pair z z') e = let p = then_equal (object_cmp names x y) (object_cmp names x' y') e in rw (congr x y z p.0, congr x' y' z' p.1) refl

  -- less than what is equal
  less_equal : (x y z : Object S) → object_cmp names x y ≡ Less → object_cmp names y z ≡ Equal → object_cmp names x z ≡ Less
  less_equal x y z l e = antisymm x z ∙ (ap ordering_reverse (sym (congr y z x e)) ∙ (sym (antisymm x y) ∙ l))

  trans : (x y z : Object S) → object_cmp names x y ≡ Less → object_cmp names y z ≡ Less → object_cmp names x z ≡ Less
  trans (Integer x) (Integer y) (Integer z) h g = int_cmp_total.trans x y z h g
  trans (Integer x) (Symbol y) (Integer z) h g = cc
  trans (Integer x) (Text y) (Integer z) h g = cc
  trans (Integer x) (Pair y y') (Integer z) h g = cc
  trans (Integer x) y (Symbol z) h g = refl
  trans (Integer x) y (Text z) h g = refl
  trans (Integer x) y (Pair z z') h g = refl
  trans (Symbol x) (Integer y) (Integer z) h g = cc
  trans (Symbol x) (Symbol y) (Integer z) h g = cc
  trans (Symbol x) (Text y) (Integer z) h g = cc
  trans (Symbol x) (Pair y y') (Integer z) h g = cc
  trans (Symbol x) (Integer y) (Symbol z) h g = cc
  trans (Symbol x) (Symbol y) (Symbol z) h g = t.trans x y z h g
  trans (Symbol x) (Text y) (Symbol z) h g = cc
  trans (Symbol x) (Pair y y') (Symbol z) h g = cc
  trans (Symbol x) y (Text z) h g = refl
  trans (Symbol x) y (Pair z z') h g = refl
  trans (Text x) (Integer y) (Integer z) h g = cc
  trans (Text x) (Symbol y) (Integer z) h g = cc
  trans (Text x) (Text y) (Integer z) h g = cc
  trans (Text x) (Pair y y') (Integer z) h g = cc
  trans (Text x) (Integer y) (Symbol z) h g = cc
  trans (Text x) (Symbol y) (Symbol z) h g = cc
  trans (Text x) (Text y) (Symbol z) h g = cc
  trans (Text x) (Pair y y') (Symbol z) h g = cc
  trans (Text x) (Integer y) (Text z) h g = cc
  trans (Text x) (Symbol y) (Text z) h g = cc
  trans (Text x) (Text y) (Text z) h g = nat_list_cmp_total.trans x y z h g
  trans (Text x) (Pair y y') (Text z) h g = cc
  trans (Text x) y (Pair z z') h g = refl
  trans (Pair x x') (Integer y) (Integer z) h g = cc
  trans (Pair x x') (Symbol y) (Integer z) h g = cc
  trans (Pair x x') (Text y) (Integer z) h g = cc
  trans (Pair x x') (Pair y y') (Integer z) h g = cc
  trans (Pair x x') (Integer y) (Symbol z) h g = cc
  trans (Pair x x') (Symbol y) (Symbol z) h g = cc
  trans (Pair x x') (Text y) (Symbol z) h g = cc
  trans (Pair x x') (Pair y y') (Symbol z) h g = cc
  trans (Pair x x') (Integer y) (Text z) h g = cc
  trans (Pair x x') (Symbol y) (Text z) h g = cc
  trans (Pair x x') (Text y) (Text z) h g = cc
  trans (Pair x x') (Pair y y') (Text z) h g = cc
  trans (Pair x x') (Integer y) (Pair z z') h g = cc
  trans (Pair x x') (Symbol y) (Pair z z') h g = cc
  trans (Pair x x') (Text y) (Pair z z') h g = cc
  trans (Pair x x') (Pair y y') (Pair z z') h g = elim (then_less (object_cmp names x y) (object_cmp names x' y') h) [
    | inl l ↦ elim (then_less (object_cmp names y z) (object_cmp names y' z') g) [
      | inl k ↦ rw (trans x y z l k) refl
      | inr k ↦ rw (less_equal x y z l k.0) refl
    ]
    | inr l ↦ elim (then_less (object_cmp names y z) (object_cmp names y' z') g) [
      | inl k ↦ rw (congr x y z l.0, k) refl
      | inr k ↦ rw (congr x y z l.0, k.0) (trans x' y' z' l.1 k.1)
    ]
  ]

  pub object_total : IsTotalOrder (object_cmp names)
  object_total = record { antisymm = antisymm; trans = trans; congr = congr }

-- objects that compare alike are one
module _ {S : Type 0} (names : S → S → Ordering) (exact : CmpEqualImpliesEq names) where
  pub object_exact : CmpEqualImpliesEq (object_cmp names)
  object_exact (Integer x) (Integer y) e = ap Integer (exact_signed x y e)
  object_exact (Integer x) (Symbol y) e = cc
  object_exact (Integer x) (Text y) e = cc
  object_exact (Integer x) (Pair y y') e = cc
  object_exact (Symbol x) (Integer y) e = cc
  object_exact (Symbol x) (Symbol y) e = ap Symbol (exact x y e)
  object_exact (Symbol x) (Text y) e = cc
  object_exact (Symbol x) (Pair y y') e = cc
  object_exact (Text x) (Integer y) e = cc
  object_exact (Text x) (Symbol y) e = cc
  object_exact (Text x) (Text y) e = ap Text (exact_bytes x y e)
  object_exact (Text x) (Pair y y') e = cc
  object_exact (Pair x x') (Integer y) e = cc
  object_exact (Pair x x') (Symbol y) e = cc
  object_exact (Pair x x') (Text y) e = cc
  object_exact (Pair x x') (Pair y y') e = let p = then_equal (object_cmp names x y) (object_cmp names x' y') e in rw (object_exact x y p.0, object_exact x' y' p.1) refl
