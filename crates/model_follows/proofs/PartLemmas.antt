-- Where a form ends in the logic, its parts end.
use Rattle.std.proofs.Common.{◌≡◌, ℕ, zero, suc, ◌+◌, List, [], ◌∷◌, ◌++◌, Bool, true, false, Option, Some, None, refl, sym, ap, ◌∙◌, subst, inl, inr}
use Rattle.std.specs.Prelude.{◌⊎◌, nat_le, if◌then◌else◌}
use Rattle.std.proofs.lemmas.List.{append_assoc}
use Rattle.model_prims.specs.Kinds.{by_name, is_nil}
use Rattle.model_prims.specs.Applied.{value_of}
use Rattle.model_prims.specs.Rows.{Row}
use Rattle.model_terms.specs.Cores.{Core, Cores, If, Call, none, more}
use Rattle.model_terms.specs.Worlds.{Definition, Primitive, definition}
use Rattle.model_logic.specs.Logic.{Theory, Thing, Values, Found, then_found, found, spending, form_value, form_values, defined_value, logic_of_abstract, call_within, EndsWith, CallEndsWith}
use Rattle.model_follows.specs.PartLaw.{AllEnd, PartsEnd}
use Rattle.model_follows.proofs.EarlierLemmas.{form_anywhere, call_anywhere}

none_found : (v : Thing) (n : ℕ) → ◌≡◌ {A = Option Found} None (found v n) → ⊥
none_found v n e = cc

append_none : (os : List Thing) → os ++ [] ≡ os
append_none [] = refl
append_none (o ∷ os) = ap (λ (ps : List Thing). o ∷ ps) (append_none os)

module _ (b : Theory) (k nest : ℕ) (values : Values) (f : ℕ) (v : Thing) (n : ℕ) where
  values_end : (forms : Cores) (done : List Thing) (start : ℕ) → form_values b k (call_within b k nest) forms values done (call_within b k nest f) start ≡ found v n
      → (os : List Thing) × AllEnd b forms values os × ((m : ℕ) × (call_within b k nest f (done ++ os) m ≡ found v n))
  unfolding form_values
  values_end none done start e = ([], tt, (start, ap (λ (os : List Thing). call_within b k nest f os start) (append_none done) ∙ e))
  values_end (more form forms) done start e =
      by_value (form_value b k (call_within b k nest) form values start) refl e (λ u c g. values_end forms (done ++ u ∷ []) c g)
    where
      by_value : (x : Option Found) → form_value b k (call_within b k nest) form values start ≡ x
          → then_found x (λ u c. form_values b k (call_within b k nest) forms values (done ++ u ∷ []) (call_within b k nest f) c) ≡ found v n
          → ((u : Thing) (c : ℕ) → form_values b k (call_within b k nest) forms values (done ++ u ∷ []) (call_within b k nest f) c ≡ found v n
          → (os : List Thing) × AllEnd b forms values os × ((m : ℕ) × (call_within b k nest f ((done ++ u ∷ []) ++ os) m ≡ found v n)))
          → (os : List Thing) × AllEnd b (more form forms) values os × ((m : ℕ) × (call_within b k nest f (done ++ os) m ≡ found v n))
      by_value None g i later = absurd (none_found v n i)
      by_value (Some r) g i later =
          let rest : (os : List Thing) × AllEnd b forms values os × ((m : ℕ) × (call_within b k nest f ((done ++ r.value ∷ []) ++ os) m ≡ found v n)) = later r.value r.calls i in (
            r.value ∷ rest.0,
            (form_anywhere b k nest start form values r.value r.calls g, rest.1),
            (rest.2.0, ap (λ (os : List Thing). call_within b k nest f os rest.2.0) (sym (append_assoc done (r.value ∷ []) rest.0)) ∙ rest.2.1),
          )

call_parts : (b : Theory) (f : ℕ) (actuals : Cores) (values : Values) (v : Thing) → EndsWith b (Call f actuals) values v → (os : List Thing) × AllEnd b actuals values os × CallEndsWith b f os v
unfolding form_value
call_parts b f actuals values v e =
    let parts : (os : List Thing) × AllEnd b actuals values os × ((m : ℕ) × (call_within b e.0 e.0 f os m ≡ found v e.1)) = values_end b e.0 e.0 values f v e.1 actuals [] 0 e.2 in
    (parts.0, parts.1, call_anywhere b e.0 e.0 parts.2.0 f parts.0 v e.1 parts.2.1)

if_parts : (b : Theory) (test first other : Core) (values : Values) (v : Thing) → EndsWith b (If test first other) values v
    → (t : Thing) × EndsWith b test values t × (((is_nil by_name t ≡ false) × EndsWith b first values v) ⊎ ((is_nil by_name t ≡ true) × EndsWith b other values v))
unfolding form_value
if_parts b test first other values v e = by_value (form_value b e.0 (call_within b e.0 e.0) test values 0) refl e.2
  where
    by_test : (t : Thing) (c : ℕ) (q : Bool) → is_nil by_name t ≡ q
        → (if q then form_value b e.0 (call_within b e.0 e.0) other values c else form_value b e.0 (call_within b e.0 e.0) first values c) ≡ found v e.1
        → ((is_nil by_name t ≡ false) × EndsWith b first values v) ⊎ ((is_nil by_name t ≡ true) × EndsWith b other values v)
    by_test t c true g i = inr (g, form_anywhere b e.0 e.0 c other values v e.1 i)
    by_test t c false g i = inl (g, form_anywhere b e.0 e.0 c first values v e.1 i)

    by_value : (x : Option Found) → form_value b e.0 (call_within b e.0 e.0) test values 0 ≡ x
        → then_found x (λ t c. if is_nil by_name t then form_value b e.0 (call_within b e.0 e.0) other values c else form_value b e.0 (call_within b e.0 e.0) first values c) ≡ found v e.1
        → (t : Thing) × EndsWith b test values t × (((is_nil by_name t ≡ false) × EndsWith b first values v) ⊎ ((is_nil by_name t ≡ true) × EndsWith b other values v))
    by_value None g i = absurd (none_found v e.1 i)
    by_value (Some r) g i = (r.value, form_anywhere b e.0 e.0 0 test values r.value r.calls g, by_test r.value r.calls (is_nil by_name r.value) refl i)

primitive_value : (b : Theory) (f name : ℕ) (row : Row) (os : List Thing) (v : Thing) → definition b.world f ≡ Some (Primitive name row) → CallEndsWith b f os v → v ≡ value_of b.packages row.prim os
unfolding call_within
primitive_value b f name row os v there e = by_depth e.0 e.0 e.2
  where
    of_value : (c : ℕ) (q : Bool) → (if q then found (value_of b.packages row.prim os) c else None) ≡ found v e.1 → v ≡ value_of b.packages row.prim os
    of_value c true g = sym (ap value_or g)
      where
        value_or : Option Found → Thing
        value_or None = v
        value_or (Some z) = z.value
    of_value c false g = absurd (none_found v e.1 g)

    by_depth : (budget depth : ℕ) → call_within b budget depth f os 0 ≡ found v e.1 → v ≡ value_of b.packages row.prim os
    by_depth budget zero g = absurd (none_found v e.1 g)
    by_depth budget (suc m) g =
        of_value (0 + 1) (nat_le (0 + 1) budget)
        (subst (λ (d : Option Definition). spending budget 1 0 (defined_value b budget (call_within b budget m) (logic_of_abstract b budget (call_within b budget m)) d os) ≡ found v e.1) there g)

pub parts_end : PartsEnd
parts_end = record { calls = call_parts; ifs = if_parts; primitives = primitive_value }
