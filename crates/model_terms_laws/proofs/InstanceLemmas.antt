-- Instances of signatures.
use Rattle.std.proofs.Common.{◌≡◌, ℕ, List, [], ◌∷◌, refl, ap, sym, ◌∙◌}
use Rattle.std.specs.Prelude.{Option, Some, None, Bool, true, false, ◌&&◌, ◌||◌, not, nat_eq, map, if◌then◌else◌}
use Rattle.std.specs.List.{zip, AllByRecursion}
use Rattle.std.proofs.lemmas.Bool.{eqb-true, eq-eqb}
use Rattle.model_terms.specs.Worlds.{World, Out, Ordinary, Stobj, Signature}
use Rattle.model_terms.specs.Classes.{is_stobj_name, congruent, stobjs, has, repeats, all_congruent, actual_of, renamed_out, renamed, instance_of}
use Rattle.model_terms_laws.specs.Laws.{IsInstance}
use Rattle.model_terms_laws.proofs.ClassLemmas.{is_equivalence, eq_swap}

false_true : {A : Type 0} → false ≡ true → A
false_true e = cc

some_none : (s : Signature) → ◌≡◌ {A = Option Signature} (Some s) None → ⊥
some_none s e = cc

none_some : (s : Signature) → ◌≡◌ {A = Option Signature} None (Some s) → ⊥
none_some s e = cc

some_same : (s i : Signature) → Some s ≡ Some i → s ≡ i
some_same s i e = cc

missing_when : (b : Bool) (s : Signature) → (◌≡◌ {A = Option Signature} (if b then Some s else None) None → b ≡ false) × (b ≡ false → (if b then Some s else None) ≡ None)
missing_when true s = (λ e. absurd (some_none s e), λ e. cc)
missing_when false s = (λ e. refl, λ e. refl)

there_when : (b : Bool) (s i : Signature) → (if b then Some s else None) ≡ Some i → (b ≡ true) × (s ≡ i)
there_when true s i e = (refl, some_same s i e)
there_when false s i e = absurd (none_some i e)

-- ---- the formals of an instance

both_true : (a b : Bool) → (a && b) ≡ true → (a ≡ true) × (b ≡ true)
both_true true true e = (refl, refl)
both_true true false e = false_true e
both_true false b e = false_true e

neither : (a b : Bool) → (a || b) ≡ false → (a ≡ false) × (b ≡ false)
neither true b e = cc
neither false b e = (refl, e)

-- a name that is not among the formals before it is renamed by what comes after
later_actual : (f a : ℕ) (pairs : List (ℕ × ℕ)) (x : ℕ) → nat_eq x f ≡ false → actual_of ((f, a) ∷ pairs) x ≡ actual_of pairs x
later_actual f a pairs x e = rw e refl

first_actual : (f a : ℕ) (pairs : List (ℕ × ℕ)) → actual_of ((f, a) ∷ pairs) f ≡ a
first_actual f a pairs = rw (eq-eqb f f refl) refl

later_all : (f a : ℕ) (pairs : List (ℕ × ℕ)) (xs : List ℕ) → has xs f ≡ false → map (actual_of ((f, a) ∷ pairs)) xs ≡ map (actual_of pairs) xs
later_all f a pairs [] h = refl
later_all f a pairs (x ∷ xs) h =
    let apart : (nat_eq f x ≡ false) × (has xs f ≡ false) = neither (nat_eq f x) (has xs f) h in
    rw (later_actual f a pairs x (eq_swap x f ∙ apart.0), later_all f a pairs xs apart.1) refl

actuals_of : (w : World) (formals actuals : List ℕ) → all_congruent w formals actuals ≡ true → repeats formals ≡ false → map (actual_of (zip formals actuals)) formals ≡ actuals
actuals_of w [] [] c r = refl
actuals_of w [] (a ∷ actuals) c r = false_true c
actuals_of w (f ∷ formals) [] c r = false_true c
actuals_of w (f ∷ formals) (a ∷ actuals) c r =
    let apart : (has formals f ≡ false) × (repeats formals ≡ false) = neither (has formals f) (repeats formals) r in
    let congruents : (congruent w f a ≡ true) × (all_congruent w formals actuals ≡ true) = both_true (congruent w f a) (all_congruent w formals actuals) c in
    rw (first_actual f a (zip formals actuals), later_all f a (zip formals actuals) formals apart.0, actuals_of w formals actuals congruents.1 apart.1) refl

objects_renamed : (pairs : List (ℕ × ℕ)) (kinds : List Out) → stobjs (map (renamed_out pairs) kinds) ≡ map (actual_of pairs) (stobjs kinds)
objects_renamed pairs [] = refl
objects_renamed pairs (Ordinary ∷ kinds) = objects_renamed pairs kinds
objects_renamed pairs (Stobj x ∷ kinds) = ap (λ xs. actual_of pairs x ∷ xs) (objects_renamed pairs kinds)

ins_are : (w : World) (s i : Signature) (actuals : List ℕ) → repeats (stobjs s.ins) ≡ false → instance_of w s actuals ≡ Some i → stobjs i.ins ≡ actuals
ins_are w s i actuals r e =
    let there : ((all_congruent w (stobjs s.ins) actuals && not (repeats actuals)) ≡ true) × (renamed (zip (stobjs s.ins) actuals) s ≡ i) = there_when _ _ i e in
    let congruents : (all_congruent w (stobjs s.ins) actuals ≡ true) × (not (repeats actuals) ≡ true) = both_true _ _ there.0 in
    ap (λ (i : Signature). stobjs i.ins) (sym there.1) ∙ (objects_renamed (zip (stobjs s.ins) actuals) s.ins ∙ actuals_of w (stobjs s.ins) actuals congruents.0 r)

outs_are : (w : World) (s i : Signature) (actuals : List ℕ) → instance_of w s actuals ≡ Some i → i.outs ≡ map (renamed_out (zip (stobjs s.ins) actuals)) s.outs
outs_are w s i actuals e =
    let there : ((all_congruent w (stobjs s.ins) actuals && not (repeats actuals)) ≡ true) × (renamed (zip (stobjs s.ins) actuals) s ≡ i) = there_when _ _ i e in
    ap (λ (i : Signature). i.outs) (sym there.1)

-- ---- the instance at the formals themselves

congruent_to_themselves : (w : World) (xs : List ℕ) → AllByRecursion (λ x. is_stobj_name w x ≡ true) xs → all_congruent w xs xs ≡ true
congruent_to_themselves w [] all = refl
congruent_to_themselves w (x ∷ xs) all = rw (is_equivalence.reflexive w x all.0, congruent_to_themselves w xs all.1) refl

stays_in : (f : ℕ) (xs : List ℕ) (x : ℕ) → actual_of (zip xs xs) x ≡ x → (b : Bool) → nat_eq x f ≡ b → actual_of ((f, f) ∷ zip xs xs) x ≡ x
stays_in f xs x later true h = rw h (sym (eqb-true x f h))
stays_in f xs x later false h = rw h later

stays : (xs : List ℕ) (x : ℕ) → actual_of (zip xs xs) x ≡ x
stays [] x = refl
stays (f ∷ xs) x = stays_in f xs x (stays xs x) (nat_eq x f) refl

kinds_stay : (xs : List ℕ) (kinds : List Out) → map (renamed_out (zip xs xs)) kinds ≡ kinds
kinds_stay xs [] = refl
kinds_stay xs (Ordinary ∷ kinds) = ap (λ ks. Ordinary ∷ ks) (kinds_stay xs kinds)
kinds_stay xs (Stobj x ∷ kinds) = rw (stays xs x, kinds_stay xs kinds) refl

itself_is : (w : World) (s : Signature) → AllByRecursion (λ x. is_stobj_name w x ≡ true) (stobjs s.ins) → repeats (stobjs s.ins) ≡ false → instance_of w s (stobjs s.ins) ≡ Some s
itself_is w s all r = rw (congruent_to_themselves w (stobjs s.ins) all, r, kinds_stay (stobjs s.ins) s.ins, kinds_stay (stobjs s.ins) s.outs) refl

pub is_instance : IsInstance
is_instance =
    record {
      missing = λ w s actuals. missing_when (all_congruent w (stobjs s.ins) actuals && not (repeats actuals)) (renamed (zip (stobjs s.ins) actuals) s);
      ins = ins_are;
      outs = outs_are;
      itself = itself_is;
    }
