-- Parts with their names, and the parts behind them.
use Rattle.std.specs.Prelude.{◌≡◌, ℕ, zero, suc, ◌+◌, ◌<◌, ◌≤◌, List, [], ◌∷◌, ◌++◌, length, map, take, drop, get_or, slice_get, refl}
use Rattle.std.proofs.Common.{sym, ap, ◌∙◌, arith, add-one, drop-cons, append_assoc}
use Rattle.std.proofs.lemmas.List.{drop_all, append-nil}
use Rattle.acl_base.specs.declared.SymId.{SymId}
use Rattle.acl_heap.specs.Objects.{Objects}
use Rattle.acl_terms.specs.declared.form.Core.{Core}
use Rattle.acl_terms.specs.Forms.{numbers, bound_names, seen_core, seen_cores, seen_bound, core_reach, most}
use Rattle.acl_growing.specs.Nodes.{divided}

pub none_left : {A : Type 0} (xs : List A) → length xs ≡ 0 → xs ≡ []
none_left [] e = refl
none_left (x ∷ xs) e = absurd (omega (arith, e))

module _ {A B : Type 0} where
  nothing_here : (ns : List A) → divided {B = B} ns [] ≡ ([], [])
  nothing_here [] = refl
  nothing_here (n ∷ ns) = refl

  pub named_end : (ns : List A) (bs : List (A × B)) → bs ++ (divided ns []).0 ≡ bs
  named_end ns bs = rw (nothing_here ns) (append-nil bs)

  pub left_end : (ns : List A) (gs : List B) → gs ++ (divided ns []).1 ≡ gs
  left_end ns gs = rw (nothing_here ns) (append-nil gs)

  pub named_first : (ns : List A) (i : ℕ) (d : A) (bs : List (A × B)) (f : B) (fs : List B) → i < length ns
      → bs ++ (divided (drop i ns) (f ∷ fs)).0 ≡ (bs ++ (get_or ns i d, f) ∷ []) ++ (divided (drop (i + 1) ns) fs).0
  named_first ns i d bs f fs l = rw (add-one, drop-cons ns i d) (sym (append_assoc bs _ _))

  pub left_first : (ns : List A) (i : ℕ) (d : A) (gs : List B) (f : B) (fs : List B) → i < length ns
      → gs ++ (divided (drop i ns) (f ∷ fs)).1 ≡ gs ++ (divided (drop (i + 1) ns) fs).1
  left_first ns i d gs f fs l = rw (add-one, drop-cons ns i d) refl

  pub named_past : (ns : List A) (i : ℕ) (bs : List (A × B)) (f : B) (fs : List B) → length ns ≤ i → bs ++ (divided (drop i ns) (f ∷ fs)).0 ≡ bs ++ (divided (drop i ns) fs).0
  named_past ns i bs f fs l = rw drop_all refl

  pub left_past : (ns : List A) (i : ℕ) (gs : List B) (f : B) (fs : List B) → length ns ≤ i → gs ++ (divided (drop i ns) (f ∷ fs)).1 ≡ (gs ++ f ∷ []) ++ (divided (drop i ns) fs).1
  left_past ns i gs f fs l = rw drop_all (sym (append_assoc gs (f ∷ []) fs))

  pub left_count : (ns : List A) (fs : List B) (k : ℕ) → length fs ≡ length ns + k → length (divided ns fs).1 ≡ k
  left_count [] fs k e = omega (arith, e)
  left_count (n ∷ ns) [] k e = absurd (omega (arith, e))
  left_count (n ∷ ns) (f ∷ fs) k e = left_count ns fs k (omega (arith, e))

  pub left_are : (ns : List A) (fs gs : List B) (k : ℕ) → gs ≡ (divided ns fs).1 → length fs ≡ length ns + k → length gs ≡ k
  left_are ns fs gs k e l = ap (λ xs. length xs) e ∙ left_count ns fs k l

pub names_are : (ns : List SymId) (fs : List Core) (k : ℕ) → length fs ≡ length ns + k → bound_names (divided ns fs).0 ≡ numbers ns
names_are [] fs k e = refl
names_are (n ∷ ns) [] k e = absurd (omega (arith, e))
names_are (n ∷ ns) (f ∷ fs) k e = ap (λ xs. n.0 ∷ xs) (names_are ns fs k (omega (arith, e)))

module _ (h : Objects) where
  pub bound_are : (ns : List SymId) (fs : List Core) → seen_bound h (divided ns fs).0 ≡ take (length (numbers ns)) (seen_cores h fs)
  bound_are [] fs = refl
  bound_are (n ∷ ns) [] = refl
  bound_are (n ∷ ns) (f ∷ fs) = ap (λ xs. seen_core h f ∷ xs) (bound_are ns fs)

  pub part_after : (ns : List SymId) (fs : List Core) (k m : ℕ) → m ≡ length (numbers ns) + k → slice_get (seen_cores h fs) m ≡ slice_get (seen_cores h (divided ns fs).1) k
  part_after [] fs k m e = let q : m ≡ k = omega (arith, e) in ap (slice_get (seen_cores h fs)) q
  part_after (n ∷ ns) [] k zero e = cc
  part_after (n ∷ ns) [] k (suc m) e = cc
  part_after (n ∷ ns) (f ∷ fs) k zero e = absurd (omega (arith, e))
  part_after (n ∷ ns) (f ∷ fs) k (suc m) e = part_after ns fs k m (omega (arith, e))

-- how far the words of bound forms reach
abbrev pub bound_reach : List (SymId × Core) → ℕ
bound_reach bs = most (map (λ b. core_reach b.1) bs)

pub named_reach : (ns : List SymId) (fs : List Core) → bound_reach (divided ns fs).0 ≤ most (map core_reach fs)
named_reach [] fs = omega arith
named_reach (n ∷ ns) [] = omega arith
named_reach (n ∷ ns) (f ∷ fs) = omega (arith, named_reach ns fs)

pub left_reach : (ns : List SymId) (fs : List Core) → most (map core_reach (divided ns fs).1) ≤ most (map core_reach fs)
left_reach [] fs = omega arith
left_reach (n ∷ ns) [] = omega arith
left_reach (n ∷ ns) (f ∷ fs) = omega (arith, left_reach ns fs)
