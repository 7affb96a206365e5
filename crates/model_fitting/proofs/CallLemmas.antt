-- The stobjs among the outputs of a call are variables in scope.
use Rattle.std.proofs.Common.{◌≡◌, ℕ, List, [], ◌∷◌, map, length, Bool, true, false, Option, Some, None, refl, sym, ap, ◌∙◌, subst, arith}
use Rattle.std.specs.Prelude.{◌||◌, nat_eq, unwrap_or, option_map, option_and_then, if◌then◌else◌}
use Rattle.std.specs.Option.{option_map_or}
use Rattle.std.specs.List.{filter_map, zip}
use Rattle.std.specs.Map.{lookup}
use Rattle.std.proofs.lemmas.Bool.{eqb-true}
use Rattle.model_terms.specs.declared.rule.Rule.TheVariants.{S1}
use Rattle.model_terms.specs.declared.rule.Mode.TheVariants.{Executable}
use Rattle.model_terms.specs.Cores.{Cores, none, more, variable, count}
use Rattle.model_terms.specs.Worlds.{World, Definition, definition, Out, Ordinary, Signature, Scope}
use Rattle.model_terms.specs.Worlds as worlds
use Rattle.model_terms.specs.Classes.{has, repeats, stobjs, congruent, all_congruent, instance_of, actual_of, renamed_out}
use Rattle.model_terms.specs.Scopes.{kind_in, kind_of}
use Rattle.model_terms.specs.Outputs.{stobj_actuals, all_there, call_outs}
use Rattle.model_terms.specs.Nested.{is_stobj, stands_for}
use Rattle.model_eval_laws.proofs.Lists.{same_number}
use Rattle.model_accepted.specs.StobjScopes.{IsStobj}
use Rattle.model_accepted.specs.Accepted.{ActualsAccepted}
use Rattle.model_accepted.proofs.AcceptLemmas.{false_true, both_true, not_false}
use Rattle.model_accepted.proofs.ScopeLemmas.{some_same, none_some}
use Rattle.model_fitting.specs.Giving.{GivesOnlyGiven, HasOwnNames}

-- ---- renamed outputs

pub holds_after : (a b : Bool) → b ≡ true → (a || b) ≡ true
holds_after true b h = refl
holds_after false b h = h

pub holds_first : (a b : Bool) → a ≡ true → (a || b) ≡ true
holds_first true b h = refl
holds_first false b h = false_true h

-- the actual of a formal is one of the actuals
actual_there : (w : World) (formals actuals : List ℕ) (x : ℕ) → all_congruent w formals actuals ≡ true → has formals x ≡ true → has actuals (actual_of (zip formals actuals) x) ≡ true
actual_there w [] actuals x a h = false_true h
actual_there w (f ∷ formals) [] x a h = false_true a
actual_there w (f ∷ formals) (y ∷ actuals) x a h =
    go (nat_eq x f) h (λ i. actual_there w formals actuals x (both_true (congruent w f y) (all_congruent w formals actuals) a).1 i)
  where
    go : (b : Bool) → (b || has formals x) ≡ true → (has formals x ≡ true → has actuals (actual_of (zip formals actuals) x) ≡ true) → has (y ∷ actuals) (unwrap_or (if b then Some y else lookup (nat_eq x) (zip formals actuals)) x) ≡ true
    go true h later = holds_first (nat_eq y y) (has actuals y) (same_number y)
    go false h later = holds_after (nat_eq (actual_of (zip formals actuals) x) y) (has actuals (actual_of (zip formals actuals) x)) (later h)

-- a stobj among renamed outputs is the actual of one among the outputs
abbrev IsRenamed : List (ℕ × ℕ) → List Out → ℕ → Type 0
IsRenamed pairs outs x = (z : ℕ) × (has (stobjs outs) z ≡ true) × (x ≡ actual_of pairs z)

renamed_from : (pairs : List (ℕ × ℕ)) (outs : List Out) (x : ℕ) → has (stobjs (map (renamed_out pairs) outs)) x ≡ true → IsRenamed pairs outs x
renamed_from pairs [] x h = false_true h
renamed_from pairs (Ordinary ∷ outs) x h = renamed_from pairs outs x h
renamed_from pairs (worlds.Stobj y ∷ outs) x h = go (nat_eq x (actual_of pairs y)) refl h (renamed_from pairs outs x)
  where
    go : (b : Bool) → nat_eq x (actual_of pairs y) ≡ b → (b || has (stobjs (map (renamed_out pairs) outs)) x) ≡ true
        → (has (stobjs (map (renamed_out pairs) outs)) x ≡ true → IsRenamed pairs outs x) → IsRenamed pairs (worlds.Stobj y ∷ outs) x
    go true e h later = (y, holds_first (nat_eq y y) (has (stobjs outs) y) (same_number y), eqb-true x (actual_of pairs y) e)
    go false e h later = let i : IsRenamed pairs outs x = later h in (i.0, holds_after (nat_eq i.0 y) (has (stobjs outs) i.0) i.1, i.2)

-- ---- actuals

pub all_of : (vs : List (Option ℕ)) (xs : List ℕ) → all_there vs ≡ Some xs → filter_map (λ v. v) vs ≡ xs
all_of [] xs e = some_same e
all_of (None ∷ vs) xs e = none_some e
all_of (Some x ∷ vs) xs e = go (all_there vs) refl e (all_of vs)
  where
    go : (a : Option (List ℕ)) → all_there vs ≡ a → option_map (λ ys. x ∷ ys) a ≡ Some xs → ((ys : List ℕ) → all_there vs ≡ Some ys → filter_map (λ v. v) vs ≡ ys) → x ∷ filter_map (λ v. v) vs ≡ xs
    go None f g later = none_some g
    go (Some ys) f g later = ap (λ (zs : List ℕ). x ∷ zs) (later ys f) ∙ some_same g

pub one_there : (v : Option ℕ) (x : ℕ) (vs : List (Option ℕ)) (xs : List ℕ) → v ≡ Some x → all_there vs ≡ Some xs → all_there (v ∷ vs) ≡ Some (x ∷ xs)
one_there v x vs xs p q = rw (p, q) refl

module _ (w : World) (scope : Scope) (own : HasOwnNames scope) where
  -- a variable whose kind is a stobj is one in scope
  pub kind_there : (y x : ℕ) → has (stobjs (kind_of scope y ∷ [])) x ≡ true → (x ≡ y) × IsStobj scope x
  kind_there y x h = go (kind_in scope y) refl h
    where
      go : (k : Option Out) → kind_in scope y ≡ k → has (stobjs (unwrap_or k Ordinary ∷ [])) x ≡ true → (x ≡ y) × IsStobj scope x
      go None e h = false_true h
      go (Some Ordinary) e h = false_true h
      go (Some (worlds.Stobj z)) e h = by_name (nat_eq x z) refl h
        where
          by_name : (b : Bool) → nat_eq x z ≡ b → (b || false) ≡ true → (x ≡ y) × IsStobj scope x
          by_name true i h =
              let first : x ≡ z = eqb-true x z i in
              let same : x ≡ y = first ∙ own.each y z e in
              (same, subst (λ (u : ℕ). kind_in scope u ≡ Some (worlds.Stobj x)) (sym same) (e ∙ ap (λ (u : ℕ). Some (worlds.Stobj u)) (sym first)))
          by_name false i h = false_true h

  abbrev pub IsActual : ℕ → Option ℕ → Type 0
  IsActual o v = (x : ℕ) × (v ≡ Some x) × IsStobj scope x × (congruent w o x ≡ true)

  pub actual_is : (o : ℕ) (v : Option ℕ) → option_map_or (λ x. stands_for w scope x o) v false ≡ true → IsActual o v
  actual_is o None h = false_true h
  actual_is o (Some x) h =
      let both : (is_stobj (kind_of scope x) ≡ true) × (congruent w o x ≡ true) = both_true (is_stobj (kind_of scope x)) (congruent w o x) h in
      go (kind_in scope x) refl both.0 both.1
    where
      go : (k : Option Out) → kind_in scope x ≡ k → is_stobj (unwrap_or k Ordinary) ≡ true → congruent w o x ≡ true → IsActual o (Some x)
      go None e i j = false_true i
      go (Some Ordinary) e i j = false_true i
      go (Some (worlds.Stobj z)) e i j = (x, refl, e ∙ ap (λ (u : ℕ). Some (worlds.Stobj u)) (own.each x z e), j)

  -- what stands in the stobj positions of a call
  record Chosen (ins : List Out) (fs : Cores) : Type 0 where
    names : List ℕ
    there : all_there (stobj_actuals ins fs) ≡ Some names
    alike : all_congruent w (stobjs ins) names ≡ true
    around : (x : ℕ) → has names x ≡ true → IsStobj scope x

  chosen : (ins : List Out) (fs : Cores) → length ins ≡ count fs → ActualsAccepted w Executable scope ins fs → Chosen ins fs
  chosen [] none n a = record { names = []; there = refl; alike = refl; around = λ x h. false_true h }
  chosen [] (more f fs) n a = absurd (omega (arith, n))
  chosen (k ∷ ins) none n a = absurd (omega (arith, n))
  chosen (Ordinary ∷ ins) (more f fs) n a =
      let r : Chosen ins fs = chosen ins fs (omega (arith, n)) a.1 in record { names = r.names; there = r.there; alike = r.alike; around = r.around }
  chosen (worlds.Stobj o ∷ ins) (more f fs) n a =
      let r : Chosen ins fs = chosen ins fs (omega (arith, n)) a.1 in
      let i : IsActual o (variable f) = actual_is o (variable f) (not_false (option_map_or (λ x. stands_for w scope x o) (variable f) false) (a.0.0 S1)) in
      record {
        names = i.0 ∷ r.names;
        there = one_there (variable f) i.0 (stobj_actuals ins fs) r.names i.1 r.there;
        alike = rw (i.3, r.alike) refl;
        around = λ x h. around x i.0 i.2 r.names r.around h;
      }
    where
      around : (x y : ℕ) → IsStobj scope y → (ns : List ℕ) → ((z : ℕ) → has ns z ≡ true → IsStobj scope z) → has (y ∷ ns) x ≡ true → IsStobj scope x
      around x y s ns r h = go (nat_eq x y) refl h
        where
          go : (b : Bool) → nat_eq x y ≡ b → (b || has ns x) ≡ true → IsStobj scope x
          go true e h = subst (λ (z : ℕ). IsStobj scope z) (sym (eqb-true x y e)) s
          go false e h = r x h

  -- the outputs of a call, where the function gives only what it is given
  pub call_gives : (s : Signature) (fs : Cores) → GivesOnlyGiven s → length s.ins ≡ count fs → ActualsAccepted w Executable scope s.ins fs → repeats (filter_map (λ v. v) (stobj_actuals s.ins fs)) ≡ false
      → (x : ℕ) → has (stobjs (call_outs w s fs)) x ≡ true → IsStobj scope x
  call_gives s fs g n a once x h =
      let r : Chosen s.ins fs = chosen s.ins fs n a in
      let different : repeats r.names ≡ false = subst (λ (xs : List ℕ). repeats xs ≡ false) (all_of (stobj_actuals s.ins fs) r.names r.there) once in
      let pairs : List (ℕ × ℕ) = zip (stobjs s.ins) r.names in
      let outs : call_outs w s fs ≡ map (renamed_out pairs) s.outs
      = ap (λ (xs : Option (List ℕ)). option_map_or (λ (i : Signature). i.outs) (option_and_then (instance_of w s) xs) s.outs) r.there ∙ rw (r.alike, different) refl in
      let i : IsRenamed pairs s.outs x = renamed_from pairs s.outs x (subst (λ (os : List Out). has (stobjs os) x ≡ true) outs h) in
      r.around x (subst (λ (y : ℕ). has r.names y ≡ true) (sym i.2) (actual_there w (stobjs s.ins) r.names i.0 r.alike (g.each i.0 i.1)))
