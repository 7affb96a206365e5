-- Formals in L beside those of C, and what comes back from a call.
use Rattle.std.proofs.Common.{◌≡◌, ℕ, ◌<◌, List, [], ◌∷◌, map, length, Bool, true, false, Option, Some, None, refl, sym, ap, ◌∙◌, subst, inl, inr}
use Rattle.std.specs.Prelude.{◌≢◌, ◌⊎◌, ◌||◌, nat_eq, if◌then◌else◌}
use Rattle.std.specs.Option.{option_or}
use Rattle.std.proofs.lemmas.Bool.{eqb-true}
use Rattle.model_objects.specs.Object.{Symbol}
use Rattle.model_symbols.specs.Symbols.{QualifiedName, symbol_at}
use Rattle.model_symbols.specs.Opening.{nil, nil_name}
use Rattle.model_symbols.proofs.NameLemmas.{symbol_at-is}
use Rattle.model_prims.specs.Kinds.{by_number}
use Rattle.model_lists.specs.Lists.{StobjList, as_object}
use Rattle.model_lists.specs.Layouts.{Layout, recognizes}
use Rattle.model_terms.specs.Worlds.{World, Out, Ordinary, Scope}
use Rattle.model_terms.specs.Worlds as worlds
use Rattle.model_terms.specs.Classes.{has, repeats}
use Rattle.model_terms.specs.Scopes.{kind_in}
use Rattle.model_eval.specs.Outcomes.{Shown, Plain, StobjNamed, Stobjs}
use Rattle.model_eval.specs.Keeping.{outer_value}
use Rattle.model_eval.specs.Variables.{variable_in, inner_variables, list_of, with_list}
use Rattle.model_logic.specs.Logic.{Thing, value_in, bind}
use Rattle.model_eval_laws.proofs.Lists.{same_number}
use Rattle.model_accepted.specs.Threaded.{layout_of, AreFormals, formal_entries}
use Rattle.model_accepted.specs.StobjScopes.{IsStobj, AreOutputs}
use Rattle.model_in_place.specs.Calls.{Pairs, pairs_of, firsts, seconds, actual, lists_for, writes_out, AreArguments}
use Rattle.model_in_place.specs.Writes.{Write, stobjs_after, AreWrites}
use Rattle.model_accepted.proofs.AcceptLemmas.{false_true, true_false, neither}
use Rattle.model_in_place.proofs.ObjectLemmas.{equal_or_not, list_other}
use Rattle.model_in_place.proofs.CallLemmas.{actual_for_is, list_for, pair_object}
use Rattle.model_in_place.proofs.FormalLemmas.{pairs_are, formal_first}
use Rattle.model_follows.specs.FollowedWorlds.{KnowsList}
use Rattle.model_follows.specs.Follows.{KnowsShown, KnowsAll, table_of, IsSound}
use Rattle.model_follows.proofs.HeldThings.{Ground, Held, held, all_held, AreHeld, Kin, AreKin, kin_alike}
use Rattle.model_follows.proofs.ThingLemmas.{knows_nil}

-- ---- the variables of a body

inner_named : (xs : List ℕ) (vs : List (Shown ℕ)) (x q : ℕ) → variable_in by_number (inner_variables xs vs) x ≡ StobjNamed q → q ≡ x
inner_named [] vs x q e = cc
inner_named (y ∷ ys) [] x q e = cc
inner_named (y ∷ ys) (Plain o ∷ vs) x q e = go (nat_eq x y) e (inner_named ys vs x q)
  where
    go : (b : Bool) → (if b then Plain o else variable_in by_number (inner_variables ys vs) x) ≡ StobjNamed q → (variable_in by_number (inner_variables ys vs) x ≡ StobjNamed q → q ≡ x) → q ≡ x
    go true f later = plain_is f
      where
        plain_is : Plain o ≡ StobjNamed q → q ≡ x
        plain_is g = cc
    go false f later = later f
inner_named (y ∷ ys) (StobjNamed z ∷ vs) x q e = go (nat_eq x y) refl e (inner_named ys vs x q)
  where
    same : ◌≡◌ {A = Shown ℕ} (StobjNamed y) (StobjNamed q) → q ≡ y
    same g = cc

    go : (b : Bool) → nat_eq x y ≡ b → (if b then StobjNamed y else variable_in by_number (inner_variables ys vs) x) ≡ StobjNamed q → (variable_in by_number (inner_variables ys vs) x ≡ StobjNamed q → q ≡ x) → q ≡ x
    go true g f later = same f ∙ sym (eqb-true x y g)
    go false g f later = later f

-- the lists of L in a call, by its formals
abbrev pub held_for : Pairs → Held → Held
held_for ps lists = λ x. lists (actual ps x)

-- the lists of L after a call, from those of its formals
abbrev pub held_back : Pairs → Held → Held → Held
held_back [] inside lists = lists
held_back (p ∷ ps) inside lists = λ y. if nat_eq y p.1 then inside p.0 else held_back ps inside lists y

module _ (symbols : List QualifiedName) (lists : Held) (at_nil : symbol_at symbols nil ≡ nil_name) where
  pub formal_thing : (xs : List ℕ) (vs : List (Shown ℕ)) (x : ℕ)
      → value_in (bind xs (all_held symbols lists vs) []) x ≡ held symbols (held_for (pairs_of xs vs) lists) (variable_in by_number (inner_variables xs vs) x)
  formal_thing [] vs x = ap Symbol (sym at_nil)
  formal_thing (y ∷ ys) [] x = ap Symbol (sym at_nil)
  formal_thing (y ∷ ys) (Plain o ∷ vs) x = go (nat_eq x y) (formal_thing ys vs x)
    where
      go : (b : Bool) → value_in (bind ys (all_held symbols lists vs) []) x ≡ held symbols (held_for (pairs_of ys vs) lists) (variable_in by_number (inner_variables ys vs) x)
          → (if b then held symbols lists (Plain o) else value_in (bind ys (all_held symbols lists vs) []) x) ≡ held symbols (held_for (pairs_of ys vs) lists) (if b then Plain o else variable_in by_number (inner_variables ys vs) x)
      go true later = refl
      go false later = later
  formal_thing (y ∷ ys) (StobjNamed z ∷ vs) x = go (nat_eq x y) refl (formal_thing ys vs x)
    where
      more : Held
      more = held_for ((y, z) ∷ pairs_of ys vs) lists

      passed : (v : Shown ℕ) → ((q : ℕ) → v ≡ StobjNamed q → nat_eq q y ≡ false) → held symbols more v ≡ held symbols (held_for (pairs_of ys vs) lists) v
      passed (Plain o) d = refl
      passed (StobjNamed q) d = rw (d q refl) refl

      go : (b : Bool) → nat_eq x y ≡ b → value_in (bind ys (all_held symbols lists vs) []) x ≡ held symbols (held_for (pairs_of ys vs) lists) (variable_in by_number (inner_variables ys vs) x)
          → (if b then held symbols lists (StobjNamed z) else value_in (bind ys (all_held symbols lists vs) []) x) ≡ held symbols more (if b then StobjNamed y else variable_in by_number (inner_variables ys vs) x)
      go true e later = rw (same_number y) refl
      go false e later =
          later ∙ sym (passed (variable_in by_number (inner_variables ys vs) x) (λ q f. ap (λ (u : ℕ). nat_eq u y) (inner_named ys vs x q f) ∙ e))

pub formal_known : (n : ℕ) (xs : List ℕ) (vs : List (Shown ℕ)) (x : ℕ) → nil < n → KnowsAll n vs → KnowsShown n (variable_in by_number (inner_variables xs vs) x)
formal_known n [] vs x l k = l
formal_known n (y ∷ ys) [] x l k = l
formal_known n (y ∷ ys) (Plain o ∷ vs) x l k = go (nat_eq x y) (formal_known n ys vs x l k.1)
  where
    go : (b : Bool) → KnowsShown n (variable_in by_number (inner_variables ys vs) x) → KnowsShown n (if b then Plain o else variable_in by_number (inner_variables ys vs) x)
    go true later = k.0
    go false later = later
formal_known n (y ∷ ys) (StobjNamed z ∷ vs) x l k = go (nat_eq x y) (formal_known n ys vs x l k.1)
  where
    go : (b : Bool) → KnowsShown n (variable_in by_number (inner_variables ys vs) x) → KnowsShown n (if b then StobjNamed y else variable_in by_number (inner_variables ys vs) x)
    go true later = tt
    go false later = later

-- ---- writes that go out

pub written_or_not : (w : World) (ps : Pairs) (Now : ℕ → Type 0) (us : List Write) (stobjs : Stobjs ℕ) (y : ℕ) → AreWrites w Now us
    → ((x : ℕ) × Now x × (y ≡ actual ps x)) ⊎ (list_of (stobjs_after (writes_out ps us) stobjs) y ≡ list_of stobjs y)
written_or_not w ps Now [] stobjs y a = inr refl
written_or_not w ps Now (u ∷ us) stobjs y a = go (written_or_not w ps Now us (with_list (actual ps u.0) u.1 stobjs) y a.2) (equal_or_not y (actual ps u.0))
  where
    go : ((x : ℕ) × Now x × (y ≡ actual ps x)) ⊎ (list_of (stobjs_after (writes_out ps us) (with_list (actual ps u.0) u.1 stobjs)) y ≡ list_of (with_list (actual ps u.0) u.1 stobjs) y)
        → (y ≡ actual ps u.0) ⊎ (y ≢ actual ps u.0)
        → ((x : ℕ) × Now x × (y ≡ actual ps x)) ⊎ (list_of (stobjs_after (writes_out ps us) (with_list (actual ps u.0) u.1 stobjs)) y ≡ list_of stobjs y)
    go (inl h) d = inl h
    go (inr h) (inl e) = inl (u.0, a.0, e)
    go (inr h) (inr d) = inr (h ∙ list_other y (actual ps u.0) u.1 stobjs d)

-- ---- lists that go out

pub actual_second : (ps : Pairs) (x : ℕ) → has (firsts ps) x ≡ true → has (seconds ps) (actual ps x) ≡ true
actual_second [] x h = false_true h
actual_second (p ∷ ps) x h = go (nat_eq x p.0) h (actual_second ps x)
  where
    or_true : (b : Bool) → (b || true) ≡ true
    or_true true = refl
    or_true false = refl

    go : (b : Bool) → (b || has (firsts ps) x) ≡ true → (has (firsts ps) x ≡ true → has (seconds ps) (actual ps x) ≡ true)
        → (nat_eq (if b then p.1 else actual ps x) p.1 || has (seconds ps) (if b then p.1 else actual ps x)) ≡ true
    go true e later = ap (λ (b : Bool). b || has (seconds ps) p.1) (same_number p.1)
    go false e later = ap (λ (b : Bool). nat_eq (actual ps x) p.1 || b) (later e) ∙ or_true (nat_eq (actual ps x) p.1)

pub back_at : (ps : Pairs) (inside lists : Held) (x : ℕ) → repeats (seconds ps) ≡ false → has (firsts ps) x ≡ true → held_back ps inside lists (actual ps x) ≡ inside x
back_at [] inside lists x r h = false_true h
back_at (p ∷ ps) inside lists x r h =
    let both : (has (seconds ps) p.1 ≡ false) × (repeats (seconds ps) ≡ false) = neither (has (seconds ps) p.1) (repeats (seconds ps)) r in
    go both.0 (nat_eq x p.0) refl h (back_at ps inside lists x both.1)
  where
    other : has (seconds ps) p.1 ≡ false → has (firsts ps) x ≡ true → (b : Bool) → nat_eq (actual ps x) p.1 ≡ b → b ≡ false
    other n e true f = true_false (sym (actual_second ps x e) ∙ (ap (has (seconds ps)) (eqb-true (actual ps x) p.1 f) ∙ n))
    other n e false f = refl

    go : has (seconds ps) p.1 ≡ false → (b : Bool) → nat_eq x p.0 ≡ b → (b || has (firsts ps) x) ≡ true → (has (firsts ps) x ≡ true → held_back ps inside lists (actual ps x) ≡ inside x)
        → (if nat_eq (if b then p.1 else actual ps x) p.1 then inside p.0 else held_back ps inside lists (if b then p.1 else actual ps x)) ≡ inside x
    go n true e h later = ap (λ (b : Bool). if b then inside p.0 else held_back ps inside lists p.1) (same_number p.1) ∙ ap inside (sym (eqb-true x p.0 e))
    go n false e h later = ap (λ (b : Bool). if b then inside p.0 else held_back ps inside lists (actual ps x)) (other n h (nat_eq (actual ps x) p.1) refl) ∙ later h

pub back_other : (ps : Pairs) (inside lists : Held) (y : ℕ) → has (seconds ps) y ≡ false → held_back ps inside lists y ≡ lists y
back_other [] inside lists y h = refl
back_other (p ∷ ps) inside lists y h =
    let both : (nat_eq y p.1 ≡ false) × (has (seconds ps) y ≡ false) = neither (nat_eq y p.1) (has (seconds ps) y) h in
    ap (λ (b : Bool). if b then inside p.0 else held_back ps inside lists y) both.0 ∙ back_other ps inside lists y both.1

-- a stobj is the actual of a formal, or of none
pub actual_or_not : (ps : Pairs) (y : ℕ) → repeats (firsts ps) ≡ false → ((x : ℕ) × (has (firsts ps) x ≡ true) × (y ≡ actual ps x)) ⊎ (has (seconds ps) y ≡ false)
actual_or_not [] y r = inr refl
actual_or_not (p ∷ ps) y r =
    let both : (has (firsts ps) p.0 ≡ false) × (repeats (firsts ps) ≡ false) = neither (has (firsts ps) p.0) (repeats (firsts ps)) r in
    go both.0 (nat_eq y p.1) refl (actual_or_not ps y both.1)
  where
    passed : (x : ℕ) → has (firsts ps) p.0 ≡ false → has (firsts ps) x ≡ true → (b : Bool) → nat_eq x p.0 ≡ b → b ≡ false
    passed x n h true e = true_false (sym h ∙ (ap (has (firsts ps)) (eqb-true x p.0 e) ∙ n))
    passed x n h false e = refl

    go : has (firsts ps) p.0 ≡ false → (b : Bool) → nat_eq y p.1 ≡ b → ((x : ℕ) × (has (firsts ps) x ≡ true) × (y ≡ actual ps x)) ⊎ (has (seconds ps) y ≡ false)
        → ((x : ℕ) × ((nat_eq x p.0 || has (firsts ps) x) ≡ true) × (y ≡ (if nat_eq x p.0 then p.1 else actual ps x))) ⊎ ((b || has (seconds ps) y) ≡ false)
    go n true e later =
        inl (p.0, ap (λ (b : Bool). b || has (firsts ps) p.0) (same_number p.0), eqb-true y p.1 e ∙ sym (ap (λ (b : Bool). if b then p.1 else actual ps p.0) (same_number p.0)))
    go n false e (inr h) = inr h
    go n false e (inl h) =
        inl (h.0, ap (λ (b : Bool). b || has (firsts ps) h.0) (passed h.0 n h.1 (nat_eq h.0 p.0) refl) ∙ h.1, h.2 ∙ sym (ap (λ (b : Bool). if b then p.1 else actual ps h.0) (passed h.0 n h.1 (nat_eq h.0 p.0) refl)))

-- ---- formals and actuals are seen alike

abbrev pub AreSeen : Ground → (ℕ → ℕ) → List Out → List (Shown ℕ) → Type 0
AreSeen g seen_as [] vs = Unit {0}
AreSeen g seen_as (k ∷ ks) [] = Unit {0}
AreSeen g seen_as (Ordinary ∷ ks) (v ∷ vs) = AreSeen g seen_as ks vs
AreSeen g seen_as (worlds.Stobj x ∷ ks) (Plain o ∷ vs) = AreSeen g seen_as ks vs
AreSeen g seen_as (worlds.Stobj x ∷ ks) (StobjNamed y ∷ vs) = (g.view x ≡ g.view (seen_as y)) × AreSeen g seen_as ks vs

pub formal_seen : (w : World) (g : Ground) (seen_as : ℕ → ℕ) (scope : Scope) (xs : List ℕ) (ks : List Out) (vs : List (Shown ℕ)) (x : ℕ) → AreFormals xs ks → AreArguments w scope ks vs → AreSeen g seen_as ks vs
    → has (firsts (pairs_of xs vs)) x ≡ true → g.view x ≡ g.view (seen_as (actual (pairs_of xs vs) x))
formal_seen w g seen_as scope [] ks vs x f a s h = false_true h
formal_seen w g seen_as scope (y ∷ ys) [] vs x f a s h = absurd f
formal_seen w g seen_as scope (y ∷ ys) (k ∷ ks) [] x f a s h = absurd a
formal_seen w g seen_as scope (y ∷ ys) (Ordinary ∷ ks) (Plain o ∷ vs) x f a s h = formal_seen w g seen_as scope ys ks vs x f a.1 s h
formal_seen w g seen_as scope (y ∷ ys) (Ordinary ∷ ks) (StobjNamed z ∷ vs) x f a s h = absurd a.0
formal_seen w g seen_as scope (y ∷ ys) (worlds.Stobj q ∷ ks) (Plain o ∷ vs) x f a s h = absurd a.0
formal_seen w g seen_as scope (y ∷ ys) (worlds.Stobj q ∷ ks) (StobjNamed z ∷ vs) x f a s h = go (nat_eq x y) refl h (formal_seen w g seen_as scope ys ks vs x f.1 a.1 s.1)
  where
    go : (b : Bool) → nat_eq x y ≡ b → (b || has (firsts (pairs_of ys vs)) x) ≡ true → (has (firsts (pairs_of ys vs)) x ≡ true → g.view x ≡ g.view (seen_as (actual (pairs_of ys vs) x)))
        → g.view x ≡ g.view (seen_as (if b then z else actual (pairs_of ys vs) x))
    go true e i later = ap g.view (eqb-true x y e ∙ sym f.0) ∙ s.0
    go false e i later = later i

-- a stobj among the formals
formal_among : (xs : List ℕ) (vs : List (Shown ℕ)) (x : ℕ) → has (firsts (pairs_of xs vs)) x ≡ true → has xs x ≡ true
formal_among [] vs x h = false_true h
formal_among (y ∷ ys) [] x h = false_true h
formal_among (y ∷ ys) (Plain o ∷ vs) x h = go (nat_eq x y) (formal_among ys vs x h)
  where
    go : (b : Bool) → has ys x ≡ true → (b || has ys x) ≡ true
    go true e = refl
    go false e = e
formal_among (y ∷ ys) (StobjNamed z ∷ vs) x h = go (nat_eq x y) h (formal_among ys vs x)
  where
    go : (b : Bool) → (b || has (firsts (pairs_of ys vs)) x) ≡ true → (has (firsts (pairs_of ys vs)) x ≡ true → has ys x ≡ true) → (b || has ys x) ≡ true
    go true e later = refl
    go false e later = later e

no_kind : (xs : List ℕ) (ks : List Out) (x : ℕ) → has xs x ≡ false → kind_in (formal_entries xs ks) x ≡ None
no_kind [] ks x h = refl
no_kind (y ∷ ys) [] x h = refl
no_kind (y ∷ ys) (k ∷ ks) x h =
    let both : (nat_eq x y ≡ false) × (has ys x ≡ false) = neither (nat_eq x y) (has ys x) h in
    rw (no_kind ys ks x both.1, both.0) refl

pub formal_stobj : (w : World) (scope : Scope) (xs : List ℕ) (ks : List Out) (vs : List (Shown ℕ)) (x : ℕ) → AreFormals xs ks → repeats xs ≡ false → AreArguments w scope ks vs
    → has (firsts (pairs_of xs vs)) x ≡ true → IsStobj (formal_entries xs ks) x
formal_stobj w scope [] ks vs x f r a h = false_true h
formal_stobj w scope (y ∷ ys) [] vs x f r a h = absurd f
formal_stobj w scope (y ∷ ys) (k ∷ ks) [] x f r a h = absurd a
formal_stobj w scope (y ∷ ys) (Ordinary ∷ ks) (StobjNamed z ∷ vs) x f r a h = absurd a.0
formal_stobj w scope (y ∷ ys) (worlds.Stobj q ∷ ks) (Plain o ∷ vs) x f r a h = absurd a.0
formal_stobj w scope (y ∷ ys) (Ordinary ∷ ks) (Plain o ∷ vs) x f r a h =
    let both : (has ys y ≡ false) × (repeats ys ≡ false) = neither (has ys y) (repeats ys) r in
    go (formal_stobj w scope ys ks vs x f both.1 a.1 h)
  where
    go : IsStobj (formal_entries ys ks) x → option_or (kind_in (formal_entries ys ks) x) (if nat_eq x y then Some Ordinary else None) ≡ Some (worlds.Stobj x)
    go later = ap (λ (k : Option Out). option_or k (if nat_eq x y then Some Ordinary else None)) later
formal_stobj w scope (y ∷ ys) (worlds.Stobj q ∷ ks) (StobjNamed z ∷ vs) x f r a h =
    let both : (has ys y ≡ false) × (repeats ys ≡ false) = neither (has ys y) (repeats ys) r in
    go (nat_eq x y) refl h both.0 (formal_stobj w scope ys ks vs x f.1 both.1 a.1)
  where
    go : (b : Bool) → nat_eq x y ≡ b → (b || has (firsts (pairs_of ys vs)) x) ≡ true → has ys y ≡ false → (has (firsts (pairs_of ys vs)) x ≡ true → IsStobj (formal_entries ys ks) x)
        → option_or (kind_in (formal_entries ys ks) x) (if b then Some (worlds.Stobj q) else None) ≡ Some (worlds.Stobj x)
    go true e i n later =
        ap (λ (k : Option Out). option_or k (Some (worlds.Stobj q))) (no_kind ys ks x (ap (has ys) (eqb-true x y e) ∙ n)) ∙ ap (λ (z : ℕ). Some (worlds.Stobj z)) (f.0 ∙ sym (eqb-true x y e))
    go false e i n later = ap (λ (k : Option Out). option_or k None) (later i)

-- ---- scopes

module _ (w : World) (base : Ground) (scope : Scope) (xs : List ℕ) (ks : List Out) (vs : List (Shown ℕ)) (f : AreFormals xs ks) (a : AreArguments w scope ks vs) where
  abbrev pub inner : Scope
  inner = formal_entries xs ks

  pub list_inside : (stobjs : Stobjs ℕ) (x : ℕ) → IsStobj inner x → list_of (lists_for (pairs_of xs vs) stobjs) x ≡ list_of stobjs (actual (pairs_of xs vs) x)
  list_inside stobjs x i = list_for (pairs_of xs vs) stobjs x (formal_first w scope xs ks vs x f a i)

  pub actual_object : (x : ℕ) → IsStobj inner x → IsStobj scope (actual (pairs_of xs vs) x) × (layout_of w x ≡ layout_of w (actual (pairs_of xs vs) x))
  actual_object x i = pair_object w scope (pairs_of xs vs) x (pairs_are w scope xs ks vs f a) (formal_first w scope xs ks vs x f a i)

  pub sound_inside : (symbols : List QualifiedName) (stobjs : Stobjs ℕ) → IsSound w base.table scope symbols stobjs → IsSound w base.table inner symbols (lists_for (pairs_of xs vs) stobjs)
  sound_inside symbols stobjs h = record {
    table = h.table;
    truth = h.truth;
    grown = h.grown;
    known = λ x i. subst (KnowsList (length symbols)) (sym (list_inside stobjs x i)) (h.known (actual (pairs_of xs vs) x) (actual_object x i).0);
    recognized = λ x i.
        ap (λ (l : StobjList ℕ). recognizes by_number (layout_of w x) (as_object by_number l)) (list_inside stobjs x i)
        ∙ (ap (λ (m : Layout ℕ). recognizes by_number m (as_object by_number (list_of stobjs (actual (pairs_of xs vs) x)))) (actual_object x i).1 ∙ h.recognized (actual (pairs_of xs vs) x) (actual_object x i).0);
  }

  pub named_inside : (symbols : List QualifiedName) (stobjs : Stobjs ℕ) (lists : Held) → IsSound w base.table scope symbols stobjs → KnowsAll (length symbols) vs
      → AreHeld inner (inner_variables xs vs) symbols (held_for (pairs_of xs vs) lists) (bind xs (all_held symbols lists vs) [])
  named_inside symbols stobjs lists h k = record {
    known = λ x m e. formal_known (length symbols) xs vs x (knows_nil (table_of base.table.packages symbols) h.truth) k;
    same = λ x m e. formal_thing symbols lists (symbol_at-is symbols nil nil_name h.truth.at_nil) xs vs x;
  }

  -- the lists of formals belong together as those of their actuals do
  pub kin_inside : (seen_as : ℕ → ℕ) (symbols : List QualifiedName) (stobjs : Stobjs ℕ) (lists : Held) → AreSeen base seen_as ks vs → AreKin w base seen_as scope symbols stobjs lists
      → AreKin w base (λ x. x) inner symbols (lists_for (pairs_of xs vs) stobjs) (held_for (pairs_of xs vs) lists)
  kin_inside seen_as symbols stobjs lists seen k = record {
    each = λ x i.
        subst (λ (l : StobjList ℕ). Kin w base symbols x l (lists (actual (pairs_of xs vs) x))) (sym (list_inside stobjs x i))
        (kin_alike w base symbols (seen_as (actual (pairs_of xs vs) x)) x (list_of stobjs (actual (pairs_of xs vs) x)) (lists (actual (pairs_of xs vs) x))
        (sym (formal_seen w base seen_as scope xs ks vs x f a seen (formal_first w scope xs ks vs x f a i))) (k.each (actual (pairs_of xs vs) x) (actual_object x i).0));
  }

  -- values of a body, and the same values outside
  pub things_outside : (symbols : List QualifiedName) (lists : Held) (outs : List Out) (values : List (Shown ℕ)) → AreOutputs inner outs values
      → all_held symbols lists (map (outer_value xs vs) values) ≡ all_held symbols (held_for (pairs_of xs vs) lists) values
  things_outside symbols lists [] [] h = refl
  things_outside symbols lists [] (v ∷ values) h = absurd h
  things_outside symbols lists (k ∷ outs) [] h = absurd h
  things_outside symbols lists (Ordinary ∷ outs) (Plain o ∷ values) h = ap (λ (os : List Thing). held symbols lists (Plain o) ∷ os) (things_outside symbols lists outs values h.1)
  things_outside symbols lists (Ordinary ∷ outs) (StobjNamed y ∷ values) h = absurd h.0
  things_outside symbols lists (worlds.Stobj x ∷ outs) (Plain o ∷ values) h = absurd h.0
  things_outside symbols lists (worlds.Stobj x ∷ outs) (StobjNamed y ∷ values) h =
      rw (actual_for_is xs vs y, things_outside symbols lists outs values h.1) refl

  pub known_outside : (n : ℕ) (values : List (Shown ℕ)) → KnowsAll n values → KnowsAll n (map (outer_value xs vs) values)
  known_outside n [] k = tt
  known_outside n (Plain o ∷ values) k = (k.0, known_outside n values k.1)
  known_outside n (StobjNamed y ∷ values) k = (tt, known_outside n values k.1)
