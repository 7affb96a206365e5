-- How deep stobjs are nested.
use Rattle.std.specs.Prelude.{◌≡◌, ℕ, zero, suc, ◌+◌, ◌-◌, ◌≤◌, ◌<◌, List, [], ◌∷◌, map, max, min, Bool, true, false, nat_eq, cond, Option, Some, None, option_map, refl}
use Rattle.std.specs.HashMap.{HashMap, get, Updates, IsEmpty}
use Rattle.std.proofs.Common.{sym, ap, ◌∙◌, arith}
use Rattle.std.proofs.lemmas.Bool.Decides.{nat_tests}
use Rattle.model_terms.specs.Worlds as worlds
use Rattle.model_terms.specs.Accessors.{descriptor_of}
use Rattle.acl_stobj_read.specs.Nesting.{KnowsDepths}
use Rattle.model_stobjs.specs.Descriptors.{held_stobj, nesting_within, nesting_by, most_of, field_nesting}
use Rattle.acl_heap.specs.Objects.{Objects}
use Rattle.acl_terms.specs.declared.stobj.FieldDescriptor.{FieldDescriptor}
use Rattle.acl_terms.specs.Definitions.{seen_shape, seen_field, seen_descriptor}
use Rattle.acl_terms.specs.declared.stobj.Descriptor.{Descriptor}

module _ (n : ℕ → ℕ) (h : Objects) where
  abbrev deepest_of : List FieldDescriptor → ℕ
  deepest_of fs = most_of (map (field_nesting n) (map (seen_field h) fs))

  pub most_more : (f : FieldDescriptor) (rest others : List FieldDescriptor) (x k most : ℕ) → rest ≡ f ∷ others → held_stobj (seen_shape h f.shape) ≡ Some x → n x ≡ k
      → max most (deepest_of rest) ≡ max (max most k) (deepest_of others)
  most_more f rest others x k most e g i = rw (e, g, i) (omega arith)

  pub most_none : (f : FieldDescriptor) (rest others : List FieldDescriptor) (most : ℕ) → rest ≡ f ∷ others → held_stobj (seen_shape h f.shape) ≡ None
      → max most (deepest_of rest) ≡ max most (deepest_of others)
  most_none f rest others most e g = rw (e, g) (omega arith)

  pub most_end : (rest : List FieldDescriptor) (most : ℕ) → rest ≡ [] → max most (deepest_of rest) ≡ most
  most_end rest most e = rw e (omega arith)

module _ (w : worlds.World) where
  pub nested_zero : (n x : ℕ) → n ≡ 0 → nesting_within w n x ≡ 0
  unfolding nesting_within
  nested_zero n x e = rw e refl

  pub nested_none : (n x : ℕ) → 1 ≤ n → descriptor_of w x ≡ None → nesting_within w n x ≡ 0
  unfolding nesting_within
  nested_none zero x l e = refl
  nested_none (suc n) x l e = rw e refl

  pub nested_some : (n x m : ℕ) (d : worlds.Descriptor) → 1 ≤ n → descriptor_of w x ≡ Some d → most_of (map (field_nesting (nesting_within w (n - 1))) d.fields) ≡ m
      → nesting_within w n x ≡ m + 1
  unfolding nesting_within
  nested_some zero x m d l e f = absurd (omega arith)
  nested_some (suc n) x m d l e f = let k : suc n - 1 ≡ n = omega arith in rw e (ap (λ k. k + 1) (rw k at f))

  pub nested_in : (h : Objects) (n x m : ℕ) (d : Descriptor) (fs : List FieldDescriptor) → 1 ≤ n → descriptor_of w x ≡ Some (seen_descriptor h d) → fs ≡ d.fields
      → most_of (map (field_nesting (nesting_within w (n - 1))) (map (seen_field h) fs)) ≡ m → nesting_within w n x ≡ m + 1
  nested_in h n x m d fs l e i f = nested_some n x m (seen_descriptor h d) l e (rw i at f)

-- ---- depths that are known

module _ (w : worlds.World) where
  abbrev deepest_in : ℕ → List worlds.Field → ℕ
  deepest_in n fs = most_of (map (field_nesting (nesting_within w n)) fs)

  fields_bounded : (n : ℕ) → ((x : ℕ) → nesting_within w n x ≤ n) → (fs : List worlds.Field) → deepest_in n fs ≤ n
  fields_bounded n each [] = omega arith
  fields_bounded n each (f ∷ fs) =
      let later : deepest_in n fs ≤ n = fields_bounded n each fs in
      by (held_stobj f.shape) refl later
    where
      by : (o : Option ℕ) → held_stobj f.shape ≡ o → deepest_in n fs ≤ n → deepest_in n (f ∷ fs) ≤ n
      by None e later = rw e (omega (arith, later))
      by (Some x) e later = let first : nesting_within w n x ≤ n = each x in rw e (omega (arith, later, first))

  pub bounded : (n x : ℕ) → nesting_within w n x ≤ n
  unfolding nesting_within
  bounded zero x = omega arith
  bounded (suc n) x = by (descriptor_of w x) refl (λ fs. fields_bounded n (bounded n) fs)
    where
      by : (o : Option worlds.Descriptor) → descriptor_of w x ≡ o → ((fs : List worlds.Field) → deepest_in n fs ≤ n) → nesting_by (nesting_within w n) (descriptor_of w x) ≤ suc n
      by None e below = rw e (omega arith)
      by (Some d) e below = let inner : deepest_in n d.fields ≤ n = below d.fields in rw e (omega (arith, inner))

  fields_settled : (k j : ℕ) → ((x : ℕ) → nesting_within w k x < k → nesting_within w j x ≡ min j (nesting_within w k x)) → (fs : List worlds.Field) → deepest_in k fs < k
      → deepest_in j fs ≡ min j (deepest_in k fs)
  fields_settled k j each [] l = omega arith
  fields_settled k j each (f ∷ fs) l = by (held_stobj f.shape) refl (fields_settled k j each fs) l
    where
      by : (o : Option ℕ) → held_stobj f.shape ≡ o → (deepest_in k fs < k → deepest_in j fs ≡ min j (deepest_in k fs)) → deepest_in k (f ∷ fs) < k
          → deepest_in j (f ∷ fs) ≡ min j (deepest_in k (f ∷ fs))
      by None e later l =
          let m : max 0 (deepest_in k fs) < k = rw e at l in
          let rest : deepest_in j fs ≡ min j (deepest_in k fs) = later (omega (arith, m)) in
          rw e (omega (arith, rest))
      by (Some x) e later l =
          let m : max (nesting_within w k x) (deepest_in k fs) < k = rw e at l in
          let rest : deepest_in j fs ≡ min j (deepest_in k fs) = later (omega (arith, m)) in
          let first : nesting_within w j x ≡ min j (nesting_within w k x) = each x (omega (arith, m)) in
          rw e (omega (arith, rest, first))

  -- a stobj that ends before it is cut has that depth however deep it is followed
  pub settled : (k j x : ℕ) → nesting_within w k x < k → nesting_within w j x ≡ min j (nesting_within w k x)
  unfolding nesting_within
  settled zero j x l = absurd (omega (arith, l))
  settled (suc k) zero x l = omega arith
  settled (suc k) (suc j) x l = by (descriptor_of w x) refl (λ fs. fields_settled k j (λ y m. settled k j y m) fs) l
    where
      by : (o : Option worlds.Descriptor) → descriptor_of w x ≡ o → ((fs : List worlds.Field) → deepest_in k fs < k → deepest_in j fs ≡ min j (deepest_in k fs))
          → nesting_by (nesting_within w k) (descriptor_of w x) < suc k
          → nesting_by (nesting_within w j) (descriptor_of w x) ≡ min (suc j) (nesting_by (nesting_within w k) (descriptor_of w x))
      by None e below l = rw e (omega arith)
      by (Some d) e below l =
          let m : deepest_in k d.fields + 1 < suc k = rw e at l in
          let inner : deepest_in j d.fields ≡ min j (deepest_in k d.fields) = below d.fields (omega (arith, m)) in
          rw e (omega (arith, inner))

  -- the depth is all that may be left: so it is for the others too
  pub most_cut : (h : Objects) (f : FieldDescriptor) (rest others : List FieldDescriptor) (x k most left : ℕ) → rest ≡ f ∷ others → held_stobj (seen_shape h f.shape) ≡ Some x
      → nesting_within w left x ≡ k → k ≡ left → most ≤ left → max most (deepest_in left (map (seen_field h) rest)) ≡ left
  most_cut h f rest others x k most left e g i q l =
      let all : deepest_in left (map (seen_field h) others) ≤ left = fields_bounded left (bounded left) (map (seen_field h) others) in
      rw (e, g, i) (omega (arith, all, q, l))

  module _ {S : Type 0} where
    pub nested_known : (known : HashMap ℕ ℕ S) (x d left : ℕ) → KnowsDepths w known → Some d ≡ get nat_eq known x → nesting_within w left x ≡ min left d
    nested_known known x d left knows e = knows.each x d (sym e) left

    pub one_more_known : (old new : HashMap ℕ ℕ S) (x d left : ℕ) → KnowsDepths w old → nesting_within w left x ≡ d → d < left → Updates nat_eq old new x (Some d) → KnowsDepths w new
    one_more_known old new x d left knows e l u = record { each = λ y c g k. by y c k (nat_eq x y) refl (sym (u.0 y) ∙ g) }
      where
        by : (y c k : ℕ) (b : Bool) → nat_eq x y ≡ b → cond (nat_eq x y) (Some d) (get nat_eq old y) ≡ Some c → nesting_within w k y ≡ min k c
        by y c k true t g =
            let s : x ≡ y = grind (arith, nat_tests) in
            let q : Some d ≡ Some c = rw t at g in
            let r : d ≡ c = cc in
            let there : nesting_within w left x < left = omega (arith, e, l) in
            rw (sym s, sym r, sym e) (settled left k x there)
        by y c k false t g = knows.each y c (rw t at g) k

    pub none_known : (known : HashMap ℕ ℕ S) → IsEmpty known → KnowsDepths w known
    none_known known e = record { each = λ x d g k. absurd (none_there (rw e at g)) }
      where
        none_there : {d : ℕ} → None ≡ Some d → ⊥
        none_there h = cc
