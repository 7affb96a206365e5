-- Whether forms are narrow, one variant at a time.
use Rattle.std.specs.Prelude.{◌≡◌, ℕ, suc, ◌+◌, ◌-◌, ◌^◌, ◌<◌, ◌≤◌, List, [], ◌∷◌, length, max, drop, get_or, Bool, true, false, ◌&&◌, nat_le, refl}
use Rattle.std.proofs.Common.{sym, ◌∙◌, arith, add-one, drop-cons}
use Rattle.std.proofs.Math.ListN.{drop_of_length-le}
use Rattle.std.proofs.lemmas.Bool.Decides.{nat_tests}
use Rattle.acl_base.specs.declared.SymId.{SymId}
use Rattle.acl_base.specs.declared.Word.{Word}
use Rattle.acl_heap.specs.Objects.{Objects, object_of}
use Rattle.model_terms.specs.Cores as cores
use Rattle.acl_terms.specs.declared.form.Core.{Core}
use Rattle.acl_terms.specs.declared.form.Core.TheViews as views
use Rattle.acl_terms.specs.declared.form.Core.TheVariants as variants
use Rattle.acl_terms.specs.Depths.{depth_of, depth_of_all}
use Rattle.acl_terms.specs.Forms.{numbers, bound_names, seen_core, seen_cores, seen_bound}
use Rattle.acl_terms.specs.FormLaws.{seen_var, seen_const, seen_if, seen_let, seen_mv, seen_mv_let, seen_stobj_let, seen_with_local, seen_must_be_equal, seen_call}
use Rattle.acl_narrow.specs.Narrow.{breadth_of, breadth_of_all, is_narrow, are_narrow}

-- ---- tests

same : (p q : Bool) → (p ≡ true → q ≡ true) → (q ≡ true → p ≡ true) → p ≡ q
same true q f g = sym (f refl)
same false true f g = g refl
same false false f g = refl

left : (p q : Bool) → (p && q) ≡ true → p ≡ true
left true q e = refl
left false q e = e

right : (p q : Bool) → (p && q) ≡ true → q ≡ true
right true q e = e
right false q e = absurd (cc)

both : (p q : Bool) → p ≡ true → q ≡ true → (p && q) ≡ true
both p q e f = rw (e, f) refl

is_le : (n m : ℕ) → nat_le n m ≡ true → n ≤ m
is_le n m e = grind (arith, nat_tests)

le_is : (n m : ℕ) → n ≤ m → nat_le n m ≡ true
le_is n m l = grind (arith, nat_tests)

-- two numbers with their bounds
pub record Within (n d m : ℕ) : Type 0 where
  pub deep : n ≤ d
  pub wide : m ≤ 2 ^ 32

within : (n d m : ℕ) → (nat_le n d && nat_le m (2 ^ 32)) ≡ true → Within n d m
within n d m e = record { deep = is_le n d (left _ _ e); wide = is_le m (2 ^ 32) (right _ _ e) }

is_within : (n d m : ℕ) → Within n d m → (nat_le n d && nat_le m (2 ^ 32)) ≡ true
is_within n d m w = both _ _ (le_is n d w.deep) (le_is m (2 ^ 32) w.wide)

-- ---- forms

pub narrow : (d : ℕ) (f : cores.Core) → is_narrow d f ≡ true → Within (depth_of f) d (breadth_of f)
narrow d f e = within _ _ _ e

all_narrow : (d : ℕ) (fs : cores.Cores) → are_narrow d fs ≡ true → Within (depth_of_all fs) d (breadth_of_all fs)
all_narrow d fs e = within _ _ _ e

form_within : (d : ℕ) (f : cores.Core) → Within (depth_of f) d (breadth_of f) → is_narrow d f ≡ true
form_within d f w = is_within _ _ _ w

forms_within : (d : ℕ) (fs : cores.Cores) → Within (depth_of_all fs) d (breadth_of_all fs) → are_narrow d fs ≡ true
forms_within d fs w = is_within _ _ _ w

two_same : (d n m : ℕ) (a b : cores.Core) → 0 < d → n ≡ max (depth_of a) (depth_of b) + 1 → m ≡ max (breadth_of a) (breadth_of b)
    → (nat_le n d && nat_le m (2 ^ 32)) ≡ (is_narrow (d - 1) a && is_narrow (d - 1) b)
two_same d n m a b l en em = same _ _
    (λ y. let w = within n d m y in both _ _ (form_within (d - 1) a (record { deep = omega (arith, w.deep, en, l); wide = omega (arith, w.wide, em) })) (form_within (d - 1) b (record { deep = omega (arith, w.deep, en, l); wide = omega (arith, w.wide, em) })))
    (λ y. let i = narrow (d - 1) a (left _ _ y) in let j = narrow (d - 1) b (right _ _ y) in is_within n d m (record { deep = omega (arith, i.deep, j.deep, en, l); wide = omega (arith, i.wide, j.wide, em) }))

if_same : (d : ℕ) (a b c : cores.Core) → 0 < d → is_narrow d (cores.If a b c) ≡ (is_narrow (d - 1) a && (is_narrow (d - 1) b && is_narrow (d - 1) c))
if_same d a b c l = same _ _
    (λ y. let w = narrow d (cores.If a b c) y in
    both _ _ (form_within (d - 1) a (record { deep = omega (arith, w.deep, l); wide = omega (arith, w.wide) }))
    (both _ _ (form_within (d - 1) b (record { deep = omega (arith, w.deep, l); wide = omega (arith, w.wide) })) (form_within (d - 1) c (record { deep = omega (arith, w.deep, l); wide = omega (arith, w.wide) }))))
    (λ y. let i = narrow (d - 1) a (left _ _ y) in let j = narrow (d - 1) b (left _ _ (right (is_narrow (d - 1) a) _ y)) in let k = narrow (d - 1) c (right (is_narrow (d - 1) b) _ (right (is_narrow (d - 1) a) _ y)) in
    form_within d (cores.If a b c) (record { deep = omega (arith, i.deep, j.deep, k.deep, l); wide = omega (arith, i.wide, j.wide, k.wide) }))

-- a list of so many names, and two forms
named_same : (d k n m : ℕ) (a b : cores.Core) → 0 < d → n ≡ max (depth_of a) (depth_of b) + 1 → m ≡ max k (max (breadth_of a) (breadth_of b))
    → (nat_le n d && nat_le m (2 ^ 32)) ≡ (nat_le k (2 ^ 32) && (is_narrow (d - 1) a && is_narrow (d - 1) b))
named_same d k n m a b l en em = same _ _
    (λ y. let w = within n d m y in both _ _ (le_is k (2 ^ 32) (omega (arith, w.wide, em)))
    (both _ _ (form_within (d - 1) a (record { deep = omega (arith, w.deep, en, l); wide = omega (arith, w.wide, em) })) (form_within (d - 1) b (record { deep = omega (arith, w.deep, en, l); wide = omega (arith, w.wide, em) }))))
    (λ y. let f = is_le k (2 ^ 32) (left _ _ y) in let z = right (nat_le k (2 ^ 32)) _ y in let i = narrow (d - 1) a (left _ _ z) in let j = narrow (d - 1) b (right _ _ z) in
    is_within n d m (record { deep = omega (arith, i.deep, j.deep, en, l); wide = omega (arith, i.wide, j.wide, em, f) }))

-- a list of so many parts
parts_same : (d k n m : ℕ) (fs : cores.Cores) → 0 < d → n ≡ depth_of_all fs + 1 → m ≡ max k (breadth_of_all fs)
    → (nat_le n d && nat_le m (2 ^ 32)) ≡ (nat_le k (2 ^ 32) && are_narrow (d - 1) fs)
parts_same d k n m fs l en em = same _ _
    (λ y. let w = within n d m y in both _ _ (le_is k (2 ^ 32) (omega (arith, w.wide, em))) (forms_within (d - 1) fs (record { deep = omega (arith, w.deep, en, l); wide = omega (arith, w.wide, em) })))
    (λ y. let f = is_le k (2 ^ 32) (left _ _ y) in let i = all_narrow (d - 1) fs (right (nat_le k (2 ^ 32)) _ y) in
    is_within n d m (record { deep = omega (arith, i.deep, en, l); wide = omega (arith, i.wide, em, f) }))

let_same : (d k n m : ℕ) (fs : cores.Cores) (b : cores.Core) → 0 < d → n ≡ max (depth_of_all fs) (depth_of b) + 1 → m ≡ max (max k (k + 1)) (max (breadth_of_all fs) (breadth_of b))
    → (nat_le n d && nat_le m (2 ^ 32)) ≡ (nat_le (suc k) (2 ^ 32) && (are_narrow (d - 1) fs && is_narrow (d - 1) b))
let_same d k n m fs b l en em = same _ _
    (λ y. let w = within n d m y in both _ _ (le_is (suc k) (2 ^ 32) (omega (arith, w.wide, em)))
    (both _ _ (forms_within (d - 1) fs (record { deep = omega (arith, w.deep, en, l); wide = omega (arith, w.wide, em) })) (form_within (d - 1) b (record { deep = omega (arith, w.deep, en, l); wide = omega (arith, w.wide, em) }))))
    (λ y. let f = is_le (suc k) (2 ^ 32) (left _ _ y) in let z = right (nat_le (suc k) (2 ^ 32)) _ y in let i = all_narrow (d - 1) fs (left _ _ z) in let j = narrow (d - 1) b (right (are_narrow (d - 1) fs) _ z) in
    is_within n d m (record { deep = omega (arith, i.deep, j.deep, en, l); wide = omega (arith, i.wide, j.wide, em, f) }))

stobj_let_same : (d k v n m : ℕ) (fs : cores.Cores) (a b : cores.Core) → 0 < d → n ≡ max (depth_of_all fs) (max (depth_of a) (depth_of b)) + 1
    → m ≡ max (max k (max (k + 1) v)) (max (breadth_of_all fs) (max (breadth_of a) (breadth_of b)))
    → (nat_le n d && nat_le m (2 ^ 32)) ≡ (nat_le (suc k) (2 ^ 32) && (nat_le v (2 ^ 32) && (are_narrow (d - 1) fs && (is_narrow (d - 1) a && is_narrow (d - 1) b))))
stobj_let_same d k v n m fs a b l en em = same _ _
    (λ y. let w = within n d m y in both _ _ (le_is (suc k) (2 ^ 32) (omega (arith, w.wide, em))) (both _ _ (le_is v (2 ^ 32) (omega (arith, w.wide, em)))
    (both _ _ (forms_within (d - 1) fs (record { deep = omega (arith, w.deep, en, l); wide = omega (arith, w.wide, em) }))
    (both _ _ (form_within (d - 1) a (record { deep = omega (arith, w.deep, en, l); wide = omega (arith, w.wide, em) })) (form_within (d - 1) b (record { deep = omega (arith, w.deep, en, l); wide = omega (arith, w.wide, em) }))))))
    (λ y. let f = is_le (suc k) (2 ^ 32) (left _ _ y) in let z = right (nat_le (suc k) (2 ^ 32)) _ y in let g = is_le v (2 ^ 32) (left _ _ z) in let u = right (nat_le v (2 ^ 32)) _ z in
    let i = all_narrow (d - 1) fs (left _ _ u) in let t = right (are_narrow (d - 1) fs) _ u in let j = narrow (d - 1) a (left _ _ t) in let q = narrow (d - 1) b (right (is_narrow (d - 1) a) _ t) in
    is_within n d m (record { deep = omega (arith, i.deep, j.deep, q.deep, en, l); wide = omega (arith, i.wide, j.wide, q.wide, em, f, g) }))

more_same : (d : ℕ) (f : cores.Core) (fs : cores.Cores) → are_narrow d (cores.more f fs) ≡ (is_narrow d f && are_narrow d fs)
more_same d f fs = same _ _
    (λ y. let w = all_narrow d (cores.more f fs) y in both _ _ (form_within d f (record { deep = omega (arith, w.deep); wide = omega (arith, w.wide) })) (forms_within d fs (record { deep = omega (arith, w.deep); wide = omega (arith, w.wide) })))
    (λ y. let i = narrow d f (left _ _ y) in let j = all_narrow d fs (right (is_narrow d f) _ y) in forms_within d (cores.more f fs) (record { deep = omega (arith, i.deep, j.deep); wide = omega (arith, i.wide, j.wide) }))

-- ---- how many there are

length_numbers : (ns : List SymId) → length (numbers ns) ≡ length ns
length_numbers [] = refl
length_numbers (n ∷ ns) = omega (arith, length_numbers ns)

length_names : (bs : List (SymId × Core)) → length (bound_names bs) ≡ length bs
length_names [] = refl
length_names (b ∷ bs) = omega (arith, length_names bs)

count_seen : (h : Objects) (fs : List Core) → cores.count (cores.cores (seen_cores h fs)) ≡ length fs
count_seen h [] = refl
count_seen h (f ∷ fs) = let k : cores.count (cores.cores (seen_cores h fs)) ≡ length fs = count_seen h fs in omega (arith, k)

count_bound : (h : Objects) (bs : List (SymId × Core)) → cores.count (cores.cores (seen_bound h bs)) ≡ length bs
count_bound h [] = refl
count_bound h (b ∷ bs) = let k : cores.count (cores.cores (seen_bound h bs)) ≡ length bs = count_bound h bs in omega (arith, k)

-- ---- variants

pub no_levels : (f : cores.Core) → is_narrow 0 f ≡ false
no_levels f = deep (is_narrow 0 f) (λ e. narrow 0 f e) where
  deep : (p : Bool) → (p ≡ true → Within (depth_of f) 0 (breadth_of f)) → p ≡ false
  deep false g = refl
  deep true g = absurd (some f (g refl).deep) where
    some : (f : cores.Core) → depth_of f ≤ 0 → ⊥
    some (cores.Var x) l = omega (arith, l)
    some (cores.Const o) l = omega (arith, l)
    some (cores.If a b c) l = omega (arith, l)
    some (cores.Let names bound body) l = omega (arith, l)
    some (cores.Mv parts) l = omega (arith, l)
    some (cores.MvLet names bound body) l = omega (arith, l)
    some (cores.StobjLet names bound vars producer consumer) l = omega (arith, l)
    some (cores.WithLocal stobj names producer body) l = omega (arith, l)
    some (cores.MustBeEqual logic exec) l = omega (arith, l)
    some (cores.Call g actuals) l = omega (arith, l)

module _ (h : Objects) (d : ℕ) (l : 0 < d) where
  pub var_narrow : (core : Core) (x : SymId) → core ≡ variants.Var x → is_narrow d (seen_core h core) ≡ true
  var_narrow core x s = rw (s, seen_var h x) (form_within d (cores.Var x.0) (record { deep = omega (arith, l); wide = omega arith }))

  pub const_narrow : (core : Core) (w : Word) → core ≡ variants.Const w → is_narrow d (seen_core h core) ≡ true
  const_narrow core w s = rw (s, seen_const h w) (form_within d (cores.Const (object_of h w)) (record { deep = omega (arith, l); wide = omega arith }))

  pub if_narrow : (core a b c : Core) (p q : Bool) → core ≡ views.If a b c → p ≡ is_narrow (d - 1) (seen_core h a) → q ≡ (is_narrow (d - 1) (seen_core h b) && is_narrow (d - 1) (seen_core h c))
      → (p && q) ≡ is_narrow d (seen_core h core)
  if_narrow core a b c p q s ep eq = rw (ep, eq, s, seen_if h a b c) (sym (if_same d (seen_core h a) (seen_core h b) (seen_core h c) l))

  pub let_narrow : (core b : Core) (bs : List (SymId × Core)) (p q r : Bool) → core ≡ views.Let bs b → p ≡ nat_le (suc (length bs)) (2 ^ 32) → q ≡ are_narrow (d - 1) (cores.cores (seen_bound h bs)) → r ≡ is_narrow (d - 1) (seen_core h b)
      → (p && (q && r)) ≡ is_narrow d (seen_core h core)
  let_narrow core b bs p q r s ep eq er =
      rw (ep, eq, er, s, seen_let h bs b) (sym (let_same d (length bs) _ _ (cores.cores (seen_bound h bs)) (seen_core h b) l refl (omega (arith, length_names bs, count_bound h bs))))

  pub mv_narrow : (core : Core) (fs : List Core) (p q : Bool) → core ≡ views.Mv fs → p ≡ nat_le (length fs) (2 ^ 32) → q ≡ are_narrow (d - 1) (cores.cores (seen_cores h fs)) → (p && q) ≡ is_narrow d (seen_core h core)
  mv_narrow core fs p q s ep eq = rw (ep, eq, s, seen_mv h fs) (sym (parts_same d (length fs) _ _ (cores.cores (seen_cores h fs)) l refl (omega (arith, count_seen h fs))))

  pub call_narrow : (core : Core) (f : SymId) (fs : List Core) (p q : Bool) → core ≡ views.Call f fs → p ≡ nat_le (length fs) (2 ^ 32) → q ≡ are_narrow (d - 1) (cores.cores (seen_cores h fs)) → (p && q) ≡ is_narrow d (seen_core h core)
  call_narrow core f fs p q s ep eq = rw (ep, eq, s, seen_call h f fs) (sym (parts_same d (length fs) _ _ (cores.cores (seen_cores h fs)) l refl (omega (arith, count_seen h fs))))

  pub mv_let_narrow : (core a b : Core) (ns : List SymId) (p q : Bool) → core ≡ views.MvLet ns a b → p ≡ nat_le (length ns) (2 ^ 32) → q ≡ (is_narrow (d - 1) (seen_core h a) && is_narrow (d - 1) (seen_core h b))
      → (p && q) ≡ is_narrow d (seen_core h core)
  mv_let_narrow core a b ns p q s ep eq = rw (ep, eq, s, seen_mv_let h ns a b) (sym (named_same d (length ns) _ _ (seen_core h a) (seen_core h b) l refl (omega (arith, length_numbers ns))))

  pub local_narrow : (core a b : Core) (x : SymId) (ns : List SymId) (p q : Bool) → core ≡ views.WithLocal x ns a b → p ≡ nat_le (length ns) (2 ^ 32) → q ≡ (is_narrow (d - 1) (seen_core h a) && is_narrow (d - 1) (seen_core h b))
      → (p && q) ≡ is_narrow d (seen_core h core)
  local_narrow core a b x ns p q s ep eq = rw (ep, eq, s, seen_with_local h x ns a b) (sym (named_same d (length ns) _ _ (seen_core h a) (seen_core h b) l refl (omega (arith, length_numbers ns))))

  pub equal_narrow : (core a b : Core) → core ≡ views.MustBeEqual a b → (is_narrow (d - 1) (seen_core h a) && is_narrow (d - 1) (seen_core h b)) ≡ is_narrow d (seen_core h core)
  equal_narrow core a b s = rw (s, seen_must_be_equal h a b) (sym (two_same d _ _ (seen_core h a) (seen_core h b) l refl refl))

  pub stobj_let_narrow : (core a b : Core) (bs : List (SymId × Core)) (vs : List SymId) (p q r t : Bool) → core ≡ views.StobjLet bs vs a b → p ≡ nat_le (suc (length bs)) (2 ^ 32) → q ≡ nat_le (length vs) (2 ^ 32)
      → r ≡ are_narrow (d - 1) (cores.cores (seen_bound h bs)) → t ≡ (is_narrow (d - 1) (seen_core h a) && is_narrow (d - 1) (seen_core h b)) → (p && (q && (r && t))) ≡ is_narrow d (seen_core h core)
  stobj_let_narrow core a b bs vs p q r t s ep eq er et =
      rw (ep, eq, er, et, s, seen_stobj_let h bs vs a b)
      (sym (stobj_let_same d (length bs) (length vs) _ _ (cores.cores (seen_bound h bs)) (seen_core h a) (seen_core h b) l refl (omega (arith, length_names bs, count_bound h bs, length_numbers vs))))

-- ---- forms in a row

module _ (h : Objects) (d : ℕ) where
  parts_at : (fs : List Core) (i : ℕ) (x : Core) → i < length fs → x ≡ get_or fs i x
      → are_narrow d (cores.cores (seen_cores h (drop i fs))) ≡ (is_narrow d (seen_core h x) && are_narrow d (cores.cores (seen_cores h (drop (i + 1) fs))))
  parts_at fs i x l e = rw (add-one i, drop-cons fs i x l, sym e) (more_same d (seen_core h x) _)

  pub part_stops : (fs : List Core) (i : ℕ) (x : Core) → i < length fs → x ≡ get_or fs i x → false ≡ is_narrow d (seen_core h x) → are_narrow d (cores.cores (seen_cores h (drop i fs))) ≡ false
  part_stops fs i x l e k = parts_at fs i x l e ∙ rw (sym k) refl

  pub part_goes : (fs : List Core) (i : ℕ) (x : Core) → i < length fs → x ≡ get_or fs i x → true ≡ is_narrow d (seen_core h x)
      → are_narrow d (cores.cores (seen_cores h (drop i fs))) ≡ are_narrow d (cores.cores (seen_cores h (drop (i + 1) fs)))
  part_goes fs i x l e k = parts_at fs i x l e ∙ rw (sym k) refl

  pub parts_past : (fs : List Core) (i : ℕ) → length fs ≤ i → are_narrow d (cores.cores (seen_cores h (drop i fs))) ≡ true
  parts_past fs i l = rw (drop_of_length-le fs l) (forms_within d cores.none (record { deep = omega arith; wide = omega arith }))

  bound_at : (bs : List (SymId × Core)) (i : ℕ) (x : SymId × Core) → i < length bs → x ≡ get_or bs i x
      → are_narrow d (cores.cores (seen_bound h (drop i bs))) ≡ (is_narrow d (seen_core h x.1) && are_narrow d (cores.cores (seen_bound h (drop (i + 1) bs))))
  bound_at bs i x l e = rw (add-one i, drop-cons bs i x l, sym e) (more_same d (seen_core h x.1) _)

  pub binding_stops : (bs : List (SymId × Core)) (i : ℕ) (x : SymId × Core) → i < length bs → x ≡ get_or bs i x → false ≡ is_narrow d (seen_core h x.1) → are_narrow d (cores.cores (seen_bound h (drop i bs))) ≡ false
  binding_stops bs i x l e k = bound_at bs i x l e ∙ rw (sym k) refl

  pub binding_goes : (bs : List (SymId × Core)) (i : ℕ) (x : SymId × Core) → i < length bs → x ≡ get_or bs i x → true ≡ is_narrow d (seen_core h x.1)
      → are_narrow d (cores.cores (seen_bound h (drop i bs))) ≡ are_narrow d (cores.cores (seen_bound h (drop (i + 1) bs)))
  binding_goes bs i x l e k = bound_at bs i x l e ∙ rw (sym k) refl

  pub bound_past : (bs : List (SymId × Core)) (i : ℕ) → length bs ≤ i → are_narrow d (cores.cores (seen_bound h (drop i bs))) ≡ true
  bound_past bs i l = rw (drop_of_length-le bs l) (forms_within d cores.none (record { deep = omega arith; wide = omega arith }))
