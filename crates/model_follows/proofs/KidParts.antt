-- The rule on `STOBJ-LET`, loans among some variables, and the values of the variables.
use Rattle.std.proofs.Common.{◌≡◌, ℕ, arith, List, [], ◌∷◌, ◌++◌, length, Bool, true, false, Some, refl, sym, ap, ◌∙◌}
use Rattle.std.specs.Prelude.{◌&&◌, ◌||◌, not, nat_eq, if◌then◌else◌}
use Rattle.std.proofs.lemmas.Bool.{eqb-true}
use Rattle.model_terms.specs.Worlds.{World, Out, Scope}
use Rattle.model_terms.specs.Classes.{has}
use Rattle.model_logic.specs.Logic.{Thing, Values, value_in, bind, parts_for}
use Rattle.model_eval_laws.specs.Scope.{names}
use Rattle.model_in_place.specs.Writes.{Write, AreWrites, writes_beside}
use Rattle.model_accepted.proofs.AcceptLemmas.{false_true, true_false, both_true}
use Rattle.model_in_place.proofs.CallMeeting.{May}
use Rattle.model_terms.specs.Cores.{Cores}
use Rattle.model_terms.specs.Nested.{BoundChild, bound_children, have_parent, have_names, have_indices, bind_twice, are_vars, parent_expected, children_hold, bindings_hold, stobj_let_holds}
use Rattle.model_eval.specs.Keeping.{Loan}
use Rattle.model_accepted.specs.Loans.{children, HaveParent, loans_among}
use Rattle.model_follows.specs.Follows.{one_thing}
use Rattle.model_follows.proofs.PartThings.{elements_are}

-- ---- what the rule says of indices

pub indices_hold : (c : World) (scope : Scope) (expected : List Out) (names : List ℕ) (forms : Cores) (vars : List ℕ) (bs : List BoundChild) → bound_children c names forms ≡ Some bs → stobj_let_holds c scope expected names forms vars ≡ true
    → have_indices scope vars bs ≡ true
unfolding stobj_let_holds
indices_hold c scope expected names forms vars [] e h = refl
indices_hold c scope expected names forms vars (b ∷ bs) e h =
    let all : children_hold c scope expected names vars b.parent (b ∷ bs) ≡ true = ap (bindings_hold c scope expected names vars) (sym e) ∙ h in
    let first : (have_parent c scope b.parent (b ∷ bs) ≡ true)
    × ((have_names c b.parent (b ∷ bs) && (have_indices scope vars (b ∷ bs) && (not (bind_twice (b ∷ bs)) && (are_vars c names vars && parent_expected names vars b.parent expected)))) ≡ true)
    = both_true (have_parent c scope b.parent (b ∷ bs)) (have_names c b.parent (b ∷ bs) && (have_indices scope vars (b ∷ bs) && (not (bind_twice (b ∷ bs)) && (are_vars c names vars && parent_expected names vars b.parent expected)))) all in
    let second : (have_names c b.parent (b ∷ bs) ≡ true) × ((have_indices scope vars (b ∷ bs) && (not (bind_twice (b ∷ bs)) && (are_vars c names vars && parent_expected names vars b.parent expected))) ≡ true)
    = both_true (have_names c b.parent (b ∷ bs)) (have_indices scope vars (b ∷ bs) && (not (bind_twice (b ∷ bs)) && (are_vars c names vars && parent_expected names vars b.parent expected))) first.1 in
    (both_true (have_indices scope vars (b ∷ bs)) (not (bind_twice (b ∷ bs)) && (are_vars c names vars && parent_expected names vars b.parent expected)) second.1).0

-- ---- loans among some variables

pub among_has : (vars : List ℕ) (ls : List (Loan ℕ)) (x : ℕ) → has (children (loans_among vars ls)) x ≡ true → (has vars x ≡ true) × (has (children ls) x ≡ true)
among_has vars [] x h = false_true h
among_has vars (l ∷ ls) x h = go (has vars l.child) refl (nat_eq x l.child) refl h (among_has vars ls x)
  where
    go : (b : Bool) → has vars l.child ≡ b → (a : Bool) → nat_eq x l.child ≡ a → has (children (if b then l ∷ loans_among vars ls else loans_among vars ls)) x ≡ true
        → (has (children (loans_among vars ls)) x ≡ true → (has vars x ≡ true) × (has (children ls) x ≡ true)) → (has vars x ≡ true) × ((a || has (children ls) x) ≡ true)
    go true e true g i later = (ap (has vars) (eqb-true x l.child g) ∙ e, refl)
    go true e false g i later = later (ap (λ (b : Bool). b || has (children (loans_among vars ls)) x) (sym g) ∙ i)
    go false e true g i later = ((later i).0, refl)
    go false e false g i later = later i

pub parents_among : (p : ℕ) (vars : List ℕ) (ls : List (Loan ℕ)) → HaveParent p ls → HaveParent p (loans_among vars ls)
parents_among p vars [] h = tt
parents_among p vars (l ∷ ls) h = go (has vars l.child) (parents_among p vars ls h.1)
  where
    go : (b : Bool) → HaveParent p (loans_among vars ls) → HaveParent p (if b then l ∷ loans_among vars ls else loans_among vars ls)
    go true i = (h.0, i)
    go false i = i

pub beside_allowed : (w : World) (ns : List ℕ) (May : ℕ → Type 0) (us : List Write) → AreWrites w May us → AreWrites w (λ y. (has ns y ≡ false) × May y) (writes_beside ns us)
beside_allowed w ns May [] a = tt
beside_allowed w ns May (u ∷ us) a = go (has ns u.0) refl (beside_allowed w ns May us a.2)
  where
    go : (b : Bool) → has ns u.0 ≡ b → AreWrites w (λ y. (has ns y ≡ false) × May y) (writes_beside ns us) → AreWrites w (λ y. (has ns y ≡ false) × May y) (if b then writes_beside ns us else u ∷ writes_beside ns us)
    go true e later = later
    go false e later = ((e, a.0), a.1, later)

-- ---- values of the variables

pub parts_are : (vars : List ℕ) (os : List Thing) → length vars ≡ length os → parts_for vars (one_thing os) ≡ os
parts_are [] [] e = refl
parts_are [] (o ∷ os) e = absurd (omega (arith, e))
parts_are (x ∷ []) [] e = absurd (omega (arith, e))
parts_are (x ∷ []) (o ∷ []) e = refl
parts_are (x ∷ []) (o ∷ (p ∷ os)) e = absurd (omega (arith, e))
parts_are (x ∷ (y ∷ xs)) [] e = absurd (omega (arith, e))
parts_are (x ∷ (y ∷ xs)) (o ∷ []) e = absurd (omega (arith, e))
parts_are (x ∷ (y ∷ xs)) (o ∷ (p ∷ os)) e = elements_are (x ∷ (y ∷ xs)) (o ∷ (p ∷ os)) e

pub bound_before : (xs : List ℕ) (os : List Thing) (values : Values) → bind xs os [] ++ values ≡ bind xs os values
bound_before [] os values = refl
bound_before (x ∷ xs) [] values = refl
bound_before (x ∷ xs) (o ∷ os) values = ap (λ (vs : Values). (x, o) ∷ vs) (bound_before xs os values)

pub not_bound : (xs : List ℕ) (os : List Thing) (values : Values) (x : ℕ) → has xs x ≡ false → value_in (bind xs os values) x ≡ value_in values x
not_bound [] os values x h = refl
not_bound (y ∷ ys) [] values x h = refl
not_bound (y ∷ ys) (o ∷ os) values x h = go (nat_eq x y) h (not_bound ys os values x)
  where
    go : (b : Bool) → (b || has ys x) ≡ false → (has ys x ≡ false → value_in (bind ys os values) x ≡ value_in values x) → (if b then o else value_in (bind ys os values) x) ≡ value_in values x
    go true e later = true_false e
    go false e later = later e
