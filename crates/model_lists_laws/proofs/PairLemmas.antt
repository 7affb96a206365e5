-- Normal pairs: without a key, how many there are, and their values.
use Rattle.std.proofs.Common.{◌≡◌, ℕ, ◌+◌, List, [], ◌∷◌, length, Bool, true, false, Option, Some, None, refl, sym, ap, ◌∙◌, subst, arith}
use Rattle.std.specs.Prelude.{if◌then◌else◌}
use Rattle.std.specs.Option.{is_some}
use Rattle.std.specs.Ordering.{ordering_reverse}
use Rattle.std.specs.Cmp.{IsTotalOrder}
use Rattle.std.specs.declared.cmp.Ordering.{Ordering}
use Rattle.std.specs.declared.cmp.Ordering.TheVariants.{Less, Equal, Greater}
use Rattle.std.proofs.lemmas.Map.Lookups.{CmpEqualImpliesEq}
use Rattle.std.specs.Bool.{Decides}
use Rattle.model_objects.specs.Object.{Object, object_cmp}
use Rattle.model_objects.proofs.Ordered.{object_total, object_exact}
use Rattle.model_prims.specs.Kinds.{SymbolKind, same_object}
use Rattle.model_lists.specs.Lists.{value_at, without_key, key_count}
use Rattle.model_lists.specs.Normal.{placed, put_in_order, normal_pairs}
use Rattle.model_lists_laws.proofs.NormalLemmas.{IsBefore, InOrder, normal_in_order, put_first, same_itself, same_tells, not_itself, value_normal}

module _ {S : Type 0} (k : SymbolKind S) (decides : (a b : S) → Decides (k.same a b) (a ≡ b)) (names : S → S → Ordering) (total : IsTotalOrder names) where
  abbrev Pairing : Type 0
  Pairing = Object S × Object S

  abbrev Before : Pairing → List Pairing → Type 0
  Before = IsBefore names total

  abbrev Ordered : List Pairing → Type 0
  Ordered = InOrder names total

  abbrev cmp : Object S → Object S → Ordering
  cmp = object_cmp names

  abbrev same : Object S → Object S → Bool
  same = same_object k

  -- ---- order and equality

  not_less : (x : Object S) → cmp x x ≡ Less → ⊥
  not_less x e = both (ap ordering_reverse e) (sym ((object_total names total).antisymm x x) ∙ e)
    where
      both : ordering_reverse (cmp x x) ≡ Greater → ordering_reverse (cmp x x) ≡ Less → ⊥
      both g l = cc

  pub less_differs : (x y : Object S) → cmp x y ≡ Less → same x y ≡ false
  less_differs x y e = go (same x y) refl
    where
      go : (b : Bool) → same x y ≡ b → b ≡ false
      go true h = absurd (not_less y (subst (λ z. cmp z y ≡ Less) (same_tells k decides x y h) e))
      go false h = refl

  greater_differs : (x y : Object S) → cmp x y ≡ Greater → same x y ≡ false
  greater_differs x y e = go (same x y) refl
    where
      go : (b : Bool) → same x y ≡ b → b ≡ false
      go true h = absurd (not_itself k decides names total y (subst (λ z. cmp z y ≡ Greater) (same_tells k decides x y h) e))
      go false h = refl

  -- what comes before the first pair comes before the others
  before_rest : (p q : Pairing) (qs : List Pairing) → cmp p.0 q.0 ≡ Less → Before q qs → Before p qs
  before_rest p q [] l b = tt
  before_rest p q (r ∷ rs) l b = (object_total names total).trans p.0 q.0 r.0 l b

  -- what comes before the others has no value there
  pub no_value : (p : Pairing) (qs : List Pairing) → Before p qs → Ordered qs → value_at k p.0 qs ≡ None
  no_value p [] b h = refl
  no_value p (q ∷ qs) b h = rw (less_differs p.0 q.0 b) (no_value p qs (before_rest p q qs b h.0) h.1)

  module _ (exact : CmpEqualImpliesEq names) where
    equal_is_same : (x y : Object S) → cmp x y ≡ Equal → same x y ≡ true
    equal_is_same x y e = subst (λ z. same x z ≡ true) (object_exact names exact x y e) (same_itself k decides x)

    -- ---- without a key

    before_without : (key : Object S) (p : Pairing) (qs : List Pairing) → Before p qs → Ordered qs → Before p (without_key k key qs)
    before_without key p [] b h = tt
    before_without key p (q ∷ qs) b h = go (same key q.0) (before_without key p qs (before_rest p q qs b h.0) h.1)
      where
        go : (c : Bool) → Before p (without_key k key qs) → Before p (if c then without_key k key qs else q ∷ without_key k key qs)
        go true i = i
        go false i = b

    without_put : (key : Object S) (p : Pairing) (qs : List Pairing) → Ordered qs
        → without_key k key (put_in_order names p qs) ≡ (if same key p.0 then without_key k key qs else put_in_order names p (without_key k key qs))
    without_put key p [] h = refl
    without_put key p (q ∷ qs) h = go (cmp p.0 q.0) refl (without_put key p qs h.1)
      where
        equal : (b c : Bool) → c ≡ b → cmp p.0 q.0 ≡ Equal
            → (if c then (without_key k key qs) else p ∷ (without_key k key qs)) ≡ (if c then (if b then (without_key k key qs) else q ∷ (without_key k key qs)) else put_in_order names p (if b then (without_key k key qs) else q ∷ (without_key k key qs)))
        equal true true f e = refl
        equal true false f e = cc
        equal false true f e = cc
        equal false false f e = rw e refl

        greater : (b c : Bool) → cmp p.0 q.0 ≡ Greater → without_key k key (put_in_order names p qs) ≡ (if c then (without_key k key qs) else put_in_order names p (without_key k key qs))
            → (if b then without_key k key (put_in_order names p qs) else q ∷ without_key k key (put_in_order names p qs)) ≡ (if c then (if b then (without_key k key qs) else q ∷ (without_key k key qs)) else put_in_order names p (if b then (without_key k key qs) else q ∷ (without_key k key qs)))
        greater true true e i = i
        greater true false e i = i
        greater false true e i = ap (λ (l : List Pairing). q ∷ l) i
        greater false false e i = rw e (ap (λ (l : List Pairing). q ∷ l) i)

        go : (o : Ordering) → cmp p.0 q.0 ≡ o → without_key k key (put_in_order names p qs) ≡ (if same key p.0 then (without_key k key qs) else put_in_order names p (without_key k key qs))
            → without_key k key (placed names o p q qs (put_in_order names p qs)) ≡ (if same key p.0 then without_key k key (q ∷ qs) else put_in_order names p (without_key k key (q ∷ qs)))
        go Less e i = ap (λ (l : List Pairing). if same key p.0 then without_key k key (q ∷ qs) else l) (sym (put_first names total p (without_key k key (q ∷ qs)) (before_without key p (q ∷ qs) e h)))
        go Equal e i = equal (same key q.0) (same key p.0) (ap (same key) (object_exact names exact p.0 q.0 e)) e
        go Greater e i = greater (same key q.0) (same key p.0) e i

    pub without_normal : (key : Object S) (ps : List Pairing) → normal_pairs names (without_key k key ps) ≡ without_key k key (normal_pairs names ps)
    without_normal key [] = refl
    without_normal key (p ∷ ps) = go (same key p.0) (without_normal key ps) ∙ sym (without_put key p (normal_pairs names ps) (normal_in_order names total ps))
      where
        go : (c : Bool) → normal_pairs names (without_key k key ps) ≡ without_key k key (normal_pairs names ps)
            → normal_pairs names (if c then without_key k key ps else p ∷ without_key k key ps) ≡ (if c then without_key k key (normal_pairs names ps) else put_in_order names p (without_key k key (normal_pairs names ps)))
        go true i = i
        go false i = ap (put_in_order names p) i

    -- ---- how many keys there are

    abbrev counted : Option (Object S) → ℕ → ℕ
    counted found n = if is_some found then n else n + 1

    put_length : (p : Pairing) (qs : List Pairing) → Ordered qs → length (put_in_order names p qs) ≡ counted (value_at k p.0 qs) (length qs)
    put_length p [] h = refl
    put_length p (q ∷ qs) h = go (cmp p.0 q.0) refl (put_length p qs h.1)
      where
        more : (c : Option (Object S)) (n : ℕ) → n ≡ counted c (length qs) → n + 1 ≡ counted c (length (q ∷ qs))
        more None n e = omega (arith, e)
        more (Some v) n e = omega (arith, e)

        go : (o : Ordering) → cmp p.0 q.0 ≡ o → length (put_in_order names p qs) ≡ counted (value_at k p.0 qs) (length qs)
            → length (placed names o p q qs (put_in_order names p qs)) ≡ counted (value_at k p.0 (q ∷ qs)) (length (q ∷ qs))
        go Less e i = subst (λ (v : Option (Object S)). length (p ∷ q ∷ qs) ≡ counted v (length (q ∷ qs))) (sym (no_value p (q ∷ qs) e h)) (omega arith)
        go Equal e i = rw (equal_is_same p.0 q.0 e) refl
        go Greater e i = rw (greater_differs p.0 q.0 e) (omega (arith, more (value_at k p.0 qs) (length (put_in_order names p qs)) i))

    pub count_normal : (ps : List Pairing) → key_count k ps ≡ length (normal_pairs names ps)
    count_normal [] = refl
    count_normal (p ∷ ps) = counts (value_at k p.0 ps) (value_at k p.0 (normal_pairs names ps)) (sym (value_normal k decides names total exact p.0 ps)) (count_normal ps) ∙ sym (put_length p (normal_pairs names ps) (normal_in_order names total ps))
      where
        counts : (c d : Option (Object S)) → c ≡ d → key_count k ps ≡ length (normal_pairs names ps) → counted c (key_count k ps) ≡ counted d (length (normal_pairs names ps))
        counts c d e i = rw (e, i) refl
