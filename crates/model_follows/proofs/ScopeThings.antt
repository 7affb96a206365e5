-- Variables of L beside those of C, as names are bound.
use Rattle.std.proofs.Common.{◌≡◌, ℕ, List, [], ◌∷◌, length, Bool, true, false, Option, Some, refl, sym, ap, ◌∙◌, subst}
use Rattle.std.specs.Prelude.{◌||◌, nat_eq, if◌then◌else◌}
use Rattle.std.proofs.lemmas.Bool.{eqb-true}
use Rattle.model_symbols.specs.Symbols.{QualifiedName, Table}
use Rattle.model_symbols.specs.Growth.{Extends}
use Rattle.model_prims.specs.Kinds.{by_number}
use Rattle.model_terms.specs.Worlds.{World, Out, Ordinary, Scope}
use Rattle.model_terms.specs.Worlds as worlds
use Rattle.model_terms.specs.Classes.{has, is_stobj_name}
use Rattle.model_terms.specs.Scopes.{kind_in, name_kind, name_kinds, binding}
use Rattle.model_eval.specs.Outcomes.{Shown, Plain, StobjNamed}
use Rattle.model_eval.specs.Variables.{Variables, variable_in, bound}
use Rattle.model_logic.specs.Logic.{Values, value_in, bind}
use Rattle.model_accepted.specs.StobjScopes.{IsStobj, IsOfKind, AreVariables, IsOutput, AreOutputs}
use Rattle.model_accepted.proofs.AcceptLemmas.{false_true, true_false}
use Rattle.model_accepted.proofs.ScopeLemmas.{kind_bound, bound_skips, ordinary_not, output_object}
use Rattle.model_follows.specs.Follows.{KnowsShown, KnowsAll}
use Rattle.model_follows.proofs.HeldThings.{Held, held, all_held, AreHeld}
use Rattle.model_follows.proofs.ThingLemmas.{thing_stays, shown_stays}

-- ---- as symbols are added, and lists change

shown_is : (scope : Scope) (x y : ℕ) (k : Out) (v : Shown ℕ) → kind_in scope x ≡ Some k → IsOfKind x k v → v ≡ StobjNamed y → (y ≡ x) × IsStobj scope x
shown_is scope x y Ordinary (Plain o) e i f = cc
shown_is scope x y Ordinary (StobjNamed z) e i f = absurd i
shown_is scope x y (worlds.Stobj z) v e i f = (same (sym f ∙ i.1), e ∙ ap (λ (u : ℕ). Some (worlds.Stobj u)) i.0)
  where
    same : ◌≡◌ {A = Shown ℕ} (StobjNamed y) (StobjNamed x) → y ≡ x
    same g = cc

module _ (old new : Table) (grown : Extends old new) (scope : Scope) (variables : Variables ℕ) (values : Values) (before after : Held) (are : AreVariables scope variables) (named : AreHeld scope variables old.symbols before values) where
  pub named_one : (x : ℕ) (k : Out) → kind_in scope x ≡ Some k → (IsStobj scope x → after x ≡ before x) → value_in values x ≡ held new.symbols after (variable_in by_number variables x)
  named_one x k e u =
      named.same x k e
      ∙ sym (thing_stays old new grown (variable_in by_number variables x) before after (named.known x k e)
      (λ y g. let is : (y ≡ x) × IsStobj scope x = shown_is scope x y k (variable_in by_number variables x) e (are.each x k e) g in
      ap after is.0 ∙ (u is.1 ∙ ap before (sym is.0))))

  pub known_one : (x : ℕ) (k : Out) → kind_in scope x ≡ Some k → KnowsShown (length new.symbols) (variable_in by_number variables x)
  known_one x k e = shown_stays old new grown (variable_in by_number variables x) (named.known x k e)

  -- no list has changed
  pub named_kept : ((x : ℕ) → IsStobj scope x → after x ≡ before x) → AreHeld scope variables new.symbols after values
  named_kept u = record { known = known_one; same = λ x k e. named_one x k e (u x) }

-- ---- names that are bound

output_named : (c : World) (inside : Scope) (y z : ℕ) → IsOutput inside (name_kind c y) (StobjNamed z) → (is_stobj_name c y ≡ true) × (z ≡ y)
output_named c inside y z i = go (is_stobj_name c y) refl i
  where
    go : (b : Bool) → is_stobj_name c y ≡ b → IsOutput inside (if b then worlds.Stobj y else Ordinary) (StobjNamed z) → (is_stobj_name c y ≡ true) × (z ≡ y)
    go true e j = (e, j.0)
    go false e j = absurd j

module _ (c : World) (inside : Scope) (symbols : List QualifiedName) (lists : Held) (variables : Variables ℕ) (values : Values) where
  pub bound_thing : (names : List ℕ) (vs : List (Shown ℕ)) → AreOutputs inside (name_kinds c names) vs → (x : ℕ)
      → (has names x ≡ false → value_in values x ≡ held symbols lists (variable_in by_number variables x))
      → (has names x ≡ true → is_stobj_name c x ≡ true → variable_in by_number variables x ≡ StobjNamed x)
      → value_in (bind names (all_held symbols lists vs) values) x ≡ held symbols lists (variable_in by_number (bound names vs variables) x)
  bound_thing [] vs a x n o = n refl
  bound_thing (y ∷ ys) [] a x n o = absurd a
  bound_thing (y ∷ ys) (Plain p ∷ vs) a x n o = go (nat_eq x y) refl n o (bound_thing ys vs a.1 x)
    where
      go : (b : Bool) → nat_eq x y ≡ b
          → ((b || has ys x) ≡ false → value_in values x ≡ held symbols lists (variable_in by_number variables x))
          → ((b || has ys x) ≡ true → is_stobj_name c x ≡ true → variable_in by_number variables x ≡ StobjNamed x)
          → ((has ys x ≡ false → value_in values x ≡ held symbols lists (variable_in by_number variables x))
          → (has ys x ≡ true → is_stobj_name c x ≡ true → variable_in by_number variables x ≡ StobjNamed x)
          → value_in (bind ys (all_held symbols lists vs) values) x ≡ held symbols lists (variable_in by_number (bound ys vs variables) x))
          → (if b then held symbols lists (Plain p) else value_in (bind ys (all_held symbols lists vs) values) x)
          ≡ held symbols lists (if b then Plain p else variable_in by_number (bound ys vs variables) x)
      go true e f g later = refl
      go false e f g later = later f g
  bound_thing (y ∷ ys) (StobjNamed z ∷ vs) a x n o = go (nat_eq x y) refl n o (bound_thing ys vs a.1 x)
    where
      is : (is_stobj_name c y ≡ true) × (z ≡ y)
      is = output_named c inside y z a.0

      go : (b : Bool) → nat_eq x y ≡ b
          → ((b || has ys x) ≡ false → value_in values x ≡ held symbols lists (variable_in by_number variables x))
          → ((b || has ys x) ≡ true → is_stobj_name c x ≡ true → variable_in by_number variables x ≡ StobjNamed x)
          → ((has ys x ≡ false → value_in values x ≡ held symbols lists (variable_in by_number variables x))
          → (has ys x ≡ true → is_stobj_name c x ≡ true → variable_in by_number variables x ≡ StobjNamed x)
          → value_in (bind ys (all_held symbols lists vs) values) x ≡ held symbols lists (variable_in by_number (bound ys vs variables) x))
          → (if b then held symbols lists (StobjNamed z) else value_in (bind ys (all_held symbols lists vs) values) x)
          ≡ held symbols lists (variable_in by_number (bound ys vs variables) x)
      go true e f g later =
          let same : x ≡ y = eqb-true x y e in
          let stobj : is_stobj_name c x ≡ true = ap (is_stobj_name c) same ∙ is.0 in
          ap (λ (u : ℕ). held symbols lists (StobjNamed u)) (is.1 ∙ sym same)
          ∙ sym (ap (held symbols lists) (bound_skips c inside ys vs variables x a.1 (ordinary_not c ys x stobj) ∙ g refl stobj))
      go false e f g later = later f g

  pub bound_known : (n : ℕ) (names : List ℕ) (vs : List (Shown ℕ)) → KnowsAll n vs → (x : ℕ) → (KnowsShown n (variable_in by_number variables x)) → KnowsShown n (variable_in by_number (bound names vs variables) x)
  bound_known n [] vs k x h = h
  bound_known n (y ∷ ys) [] k x h = h
  bound_known n (y ∷ ys) (Plain p ∷ vs) k x h = go (nat_eq x y) (bound_known n ys vs k.1 x h)
    where
      go : (b : Bool) → KnowsShown n (variable_in by_number (bound ys vs variables) x) → KnowsShown n (if b then Plain p else variable_in by_number (bound ys vs variables) x)
      go true i = k.0
      go false i = i
  bound_known n (y ∷ ys) (StobjNamed z ∷ vs) k x h = bound_known n ys vs k.1 x h

  -- a name that has no variable before counts as known only where it is bound to an ordinary value
  pub bound_known_here : (n : ℕ) (names : List ℕ) (vs : List (Shown ℕ)) → AreOutputs inside (name_kinds c names) vs → KnowsAll n vs → (x : ℕ) → has names x ≡ true → (is_stobj_name c x ≡ true → variable_in by_number variables x ≡ StobjNamed x)
      → KnowsShown n (variable_in by_number (bound names vs variables) x)
  bound_known_here n [] vs a k x h o = false_true h
  bound_known_here n (y ∷ ys) [] a k x h o = absurd a
  bound_known_here n (y ∷ ys) (Plain p ∷ vs) a k x h o = go (nat_eq x y) h (bound_known_here n ys vs a.1 k.1 x)
    where
      go : (b : Bool) → (b || has ys x) ≡ true → (has ys x ≡ true → (is_stobj_name c x ≡ true → variable_in by_number variables x ≡ StobjNamed x) → KnowsShown n (variable_in by_number (bound ys vs variables) x))
          → KnowsShown n (if b then Plain p else variable_in by_number (bound ys vs variables) x)
      go true e later = k.0
      go false e later = later e o
  bound_known_here n (y ∷ ys) (StobjNamed z ∷ vs) a k x h o = go (nat_eq x y) refl h (bound_known_here n ys vs a.1 k.1 x)
    where
      go : (b : Bool) → nat_eq x y ≡ b → (b || has ys x) ≡ true → (has ys x ≡ true → (is_stobj_name c x ≡ true → variable_in by_number variables x ≡ StobjNamed x) → KnowsShown n (variable_in by_number (bound ys vs variables) x))
          → KnowsShown n (variable_in by_number (bound ys vs variables) x)
      go true e f later =
          let stobj : is_stobj_name c x ≡ true = ap (is_stobj_name c) (eqb-true x y e) ∙ (output_named c inside y z a.0).0 in
          subst (KnowsShown n) (sym (bound_skips c inside ys vs variables x a.1 (ordinary_not c ys x stobj) ∙ o stobj)) tt
      go false e f later = later f o

-- the scope inside a `LET`
pub named_bound : (c : World) (scope : Scope) (names : List ℕ) (vs : List (Shown ℕ)) (variables : Variables ℕ) (symbols : List QualifiedName) (lists : Held) (values : Values)
    → AreOutputs scope (name_kinds c names) vs → AreVariables scope variables → KnowsAll (length symbols) vs
    → ((x : ℕ) (k : Out) → kind_in scope x ≡ Some k → has names x ≡ false → value_in values x ≡ held symbols lists (variable_in by_number variables x))
    → ((x : ℕ) (k : Out) → kind_in scope x ≡ Some k → KnowsShown (length symbols) (variable_in by_number variables x))
    → AreHeld (binding c scope names) (bound names vs variables) symbols lists (bind names (all_held symbols lists vs) values)
named_bound c scope names vs variables symbols lists values a are k same known = record {
  known = λ x m h. known_by x m (has names x) refl (subst (λ (q : Option Out). q ≡ Some m) (kind_bound c scope names x) h);
  same = λ x m h. same_by x m (has names x) refl (subst (λ (q : Option Out). q ≡ Some m) (kind_bound c scope names x) h);
}
  where
    object_shown : (x : ℕ) → has names x ≡ true → is_stobj_name c x ≡ true → variable_in by_number variables x ≡ StobjNamed x
    object_shown x h o = (are.each x (worlds.Stobj x) (output_object c scope names vs x a h o)).1

    known_by : (x : ℕ) (m : Out) (b : Bool) → has names x ≡ b → (if b then Some (name_kind c x) else kind_in scope x) ≡ Some m → KnowsShown (length symbols) (variable_in by_number (bound names vs variables) x)
    known_by x m true e h = bound_known_here c scope symbols lists variables values (length symbols) names vs a k x e (object_shown x e)
    known_by x m false e h = bound_known c scope symbols lists variables values (length symbols) names vs k x (known x m h)

    same_by : (x : ℕ) (m : Out) (b : Bool) → has names x ≡ b → (if b then Some (name_kind c x) else kind_in scope x) ≡ Some m
        → value_in (bind names (all_held symbols lists vs) values) x ≡ held symbols lists (variable_in by_number (bound names vs variables) x)
    same_by x m true e h = bound_thing c scope symbols lists variables values names vs a x (λ f. true_false (sym e ∙ f)) (λ f o. object_shown x f o)
    same_by x m false e h = bound_thing c scope symbols lists variables values names vs a x (λ f. same x m h f) (λ f o. object_shown x f o)
