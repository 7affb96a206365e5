-- Scopes of the rules, and the variables that go with them.
use Rattle.std.proofs.Common.{◌≡◌, ℕ, List, [], ◌∷◌, ◌++◌, map, Bool, true, false, Option, Some, None, refl, sym, ap, ◌∙◌, subst, inl, inr}
use Rattle.std.specs.Prelude.{◌≢◌, ◌⊎◌, ◌&&◌, ◌||◌, not, nat_eq, if◌then◌else◌}
use Rattle.std.specs.Option.{option_or}
use Rattle.std.specs.List.{list_all}
use Rattle.std.proofs.lemmas.Bool.{eqb-true}
use Rattle.model_prims.specs.Kinds.{by_number}
use Rattle.model_terms.specs.Worlds.{World, Out, Ordinary, Entry, Scope}
use Rattle.model_terms.specs.Worlds as worlds
use Rattle.model_terms.specs.Classes as classes
use Rattle.model_terms.specs.Classes.{has, is_stobj_name}
use Rattle.model_terms.specs.Scopes.{kind_in, name_kind, name_kinds, entry, binding, without, ordinary_names, other_names, local_scope, body_scope}
use Rattle.model_eval.specs.Outcomes.{Shown, Plain, StobjNamed}
use Rattle.model_eval.specs.Variables.{Variables, variable_in, bound}
use Rattle.model_eval_laws.proofs.Lists.{same_number}
use Rattle.model_accepted.specs.StobjScopes.{IsStobj, IsOfKind, AreVariables, IsOutput, AreOutputs}
use Rattle.model_accepted.proofs.AcceptLemmas.{false_true, true_false}

-- ---- kinds

or_again : (a b d : Option Out) → option_or (option_or a b) d ≡ option_or a (option_or b d)
or_again None b d = refl
or_again (Some k) b d = refl

pub kind_append : (a b : Scope) (x : ℕ) → kind_in (a ++ b) x ≡ option_or (kind_in b x) (kind_in a x)
kind_append [] b x = go (kind_in b x)
  where
    go : (k : Option Out) → k ≡ option_or k None
    go None = refl
    go (Some k) = refl
kind_append (e ∷ es) b x =
    ap (λ (k : Option Out). option_or k (if nat_eq x e.name then Some e.kind else None)) (kind_append es b x)
    ∙ or_again (kind_in b x) (kind_in es x) (if nat_eq x e.name then Some e.kind else None)

pub kind_entries : (c : World) (names : List ℕ) (x : ℕ) → kind_in (map (entry c) names) x ≡ (if has names x then Some (name_kind c x) else None)
kind_entries c [] x = refl
kind_entries c (y ∷ ys) x = rw (kind_entries c ys x) (go (has ys x) (nat_eq x y) refl)
  where
    go : (a b : Bool) → nat_eq x y ≡ b → option_or (if a then Some (name_kind c x) else None) (if b then Some (name_kind c y) else None) ≡ (if b || a then Some (name_kind c x) else None)
    go true true e = refl
    go true false e = refl
    go false true e = rw (eqb-true x y e) refl
    go false false e = refl

pub kind_without : (names : List ℕ) (scope : Scope) (x : ℕ) → kind_in (without names scope) x ≡ (if has names x then None else kind_in scope x)
kind_without names [] x = go (has names x)
  where
    go : (b : Bool) → ◌≡◌ {A = Option Out} None (if b then None else None)
    go true = refl
    go false = refl
kind_without names (e ∷ es) x = go (nat_eq x e.name) refl (has names e.name) refl (has names x) refl (kind_without names es x)
  where
    go : (a : Bool) → nat_eq x e.name ≡ a → (b : Bool) → has names e.name ≡ b → (d : Bool) → has names x ≡ d → kind_in (without names es) x ≡ (if d then None else kind_in es x)
        → kind_in (if not b then e ∷ without names es else without names es) x ≡ (if d then None else option_or (kind_in es x) (if a then Some e.kind else None))
    go true f true g true h i = i
    go true f true g false h i = true_false (sym g ∙ (ap (has names) (sym (eqb-true x e.name f)) ∙ h))
    go true f false g true h i = true_false (sym h ∙ (ap (has names) (eqb-true x e.name f) ∙ g))
    go true f false g false h i = rw (f, i) refl
    go false f true g true h i = i
    go false f true g false h i = rw i (nothing_more (kind_in es x))
      where
        nothing_more : (k : Option Out) → k ≡ option_or k None
        nothing_more None = refl
        nothing_more (Some k) = refl
    go false f false g true h i = rw (f, i) refl
    go false f false g false h i = rw (f, i) refl

pub kind_bound : (c : World) (scope : Scope) (names : List ℕ) (x : ℕ) → kind_in (binding c scope names) x ≡ (if has names x then Some (name_kind c x) else kind_in scope x)
kind_bound c scope names x = kind_append scope (map (entry c) names) x ∙ rw (kind_entries c names x) (go (has names x))
  where
    go : (b : Bool) → option_or (if b then Some (name_kind c x) else None) (kind_in scope x) ≡ (if b then Some (name_kind c x) else kind_in scope x)
    go true = refl
    go false = refl

-- ---- names that are bound

pub name_is_object : (c : World) (x : ℕ) → is_stobj_name c x ≡ true → name_kind c x ≡ worlds.Stobj x
name_is_object c x e = rw e refl

pub name_is_ordinary : (c : World) (x : ℕ) → is_stobj_name c x ≡ false → name_kind c x ≡ Ordinary
name_is_ordinary c x e = rw e refl

pub has_ordinary : (c : World) (names : List ℕ) (x : ℕ) → has (ordinary_names c names) x ≡ (has names x && not (is_stobj_name c x))
has_ordinary c [] x = refl
has_ordinary c (y ∷ ys) x = go (is_stobj_name c y) refl (nat_eq x y) refl (is_stobj_name c x) refl (has_ordinary c ys x)
  where
    go : (a : Bool) → is_stobj_name c y ≡ a → (b : Bool) → nat_eq x y ≡ b → (d : Bool) → is_stobj_name c x ≡ d → has (ordinary_names c ys) x ≡ (has ys x && not d)
        → has (if not a then y ∷ ordinary_names c ys else ordinary_names c ys) x ≡ ((b || has ys x) && not d)
    go true f true g true h i = i ∙ nothing (has ys x)
      where
        nothing : (b : Bool) → (b && false) ≡ false
        nothing true = refl
        nothing false = refl
    go true f true g false h i = true_false (sym f ∙ (ap (is_stobj_name c) (sym (eqb-true x y g)) ∙ h))
    go true f false g d h i = i
    go false f true g true h i = true_false (sym h ∙ (ap (is_stobj_name c) (eqb-true x y g) ∙ f))
    go false f true g false h i = rw g refl
    go false f false g d h i = rw g i

-- ---- values that are bound

-- a stobj among the outputs of names is in the scope
pub output_object : (c : World) (scope : Scope) (names : List ℕ) (values : List (Shown ℕ)) (x : ℕ) → AreOutputs scope (name_kinds c names) values → has names x ≡ true → is_stobj_name c x ≡ true → IsStobj scope x
output_object c scope [] values x a h o = false_true h
output_object c scope (y ∷ ys) [] x a h o = absurd a
output_object c scope (y ∷ ys) (v ∷ vs) x a h o = go (nat_eq x y) refl h (output_object c scope ys vs x a.1)
  where
    here : (v : Shown ℕ) → IsOutput scope (worlds.Stobj x) v → IsStobj scope x
    here (Plain p) i = absurd i
    here (StobjNamed z) i = i.1

    go : (b : Bool) → nat_eq x y ≡ b → (b || has ys x) ≡ true → (has ys x ≡ true → is_stobj_name c x ≡ true → IsStobj scope x) → IsStobj scope x
    go true e g later = here v (subst (λ (k : Out). IsOutput scope k v) (name_is_object c x o) (subst (λ (z : ℕ). IsOutput scope (name_kind c z) v) (sym (eqb-true x y e)) a.0))
    go false e g later = later g o

pub kind_or : (c : World) (x : ℕ) → (is_stobj_name c x ≡ true) ⊎ (is_stobj_name c x ≡ false)
kind_or c x = go (is_stobj_name c x) refl
  where
    go : (b : Bool) → is_stobj_name c x ≡ b → (is_stobj_name c x ≡ true) ⊎ (is_stobj_name c x ≡ false)
    go true e = inl e
    go false e = inr e

-- a name that is not bound, or is a stobj's, keeps its variable
pub bound_skips : (c : World) (scope : Scope) (names : List ℕ) (values : List (Shown ℕ)) (variables : Variables ℕ) (x : ℕ) → AreOutputs scope (name_kinds c names) values
    → has (ordinary_names c names) x ≡ false → variable_in by_number (bound names values variables) x ≡ variable_in by_number variables x
bound_skips c scope [] values variables x a h = refl
bound_skips c scope (y ∷ ys) [] variables x a h = refl
bound_skips c scope (y ∷ ys) (StobjNamed z ∷ vs) variables x a h = bound_skips c scope ys vs variables x a.1 (go (is_stobj_name c y) refl h)
  where
    go : (b : Bool) → is_stobj_name c y ≡ b → has (if not b then y ∷ ordinary_names c ys else ordinary_names c ys) x ≡ false → has (ordinary_names c ys) x ≡ false
    go true e g = g
    go false e g = absurd (subst (λ (k : Out). IsOutput scope k (StobjNamed z)) (name_is_ordinary c y e) a.0)
bound_skips c scope (y ∷ ys) (Plain o ∷ vs) variables x a h = go (is_stobj_name c y) refl (nat_eq x y) refl h (bound_skips c scope ys vs variables x a.1)
  where
    go : (b : Bool) → is_stobj_name c y ≡ b → (d : Bool) → nat_eq x y ≡ d → has (if not b then y ∷ ordinary_names c ys else ordinary_names c ys) x ≡ false
        → (has (ordinary_names c ys) x ≡ false → variable_in by_number (bound ys vs variables) x ≡ variable_in by_number variables x)
        → (if d then Plain o else variable_in by_number (bound ys vs variables) x) ≡ variable_in by_number variables x
    go true e d f g later = absurd (subst (λ (k : Out). IsOutput scope k (Plain o)) (name_is_object c y e) a.0)
    go false e true f g later = true_false (ap (λ (b : Bool). b || has (ordinary_names c ys) x) (sym f) ∙ g)
    go false e false f g later = later (ap (λ (b : Bool). b || has (ordinary_names c ys) x) (sym f) ∙ g)

-- an ordinary name has an ordinary value
pub bound_ordinary : (c : World) (scope : Scope) (names : List ℕ) (values : List (Shown ℕ)) (variables : Variables ℕ) (x : ℕ) → AreOutputs scope (name_kinds c names) values
    → has (ordinary_names c names) x ≡ true → IsOfKind x Ordinary (variable_in by_number (bound names values variables) x)
bound_ordinary c scope [] values variables x a h = false_true h
bound_ordinary c scope (y ∷ ys) [] variables x a h = absurd a
bound_ordinary c scope (y ∷ ys) (StobjNamed z ∷ vs) variables x a h = bound_ordinary c scope ys vs variables x a.1 (go (is_stobj_name c y) refl h)
  where
    go : (b : Bool) → is_stobj_name c y ≡ b → has (if not b then y ∷ ordinary_names c ys else ordinary_names c ys) x ≡ true → has (ordinary_names c ys) x ≡ true
    go true e g = g
    go false e g = absurd (subst (λ (k : Out). IsOutput scope k (StobjNamed z)) (name_is_ordinary c y e) a.0)
bound_ordinary c scope (y ∷ ys) (Plain o ∷ vs) variables x a h = go (is_stobj_name c y) refl (nat_eq x y) refl h (bound_ordinary c scope ys vs variables x a.1)
  where
    go : (b : Bool) → is_stobj_name c y ≡ b → (d : Bool) → nat_eq x y ≡ d → has (if not b then y ∷ ordinary_names c ys else ordinary_names c ys) x ≡ true
        → (has (ordinary_names c ys) x ≡ true → IsOfKind x Ordinary (variable_in by_number (bound ys vs variables) x))
        → IsOfKind x Ordinary (if d then Plain o else variable_in by_number (bound ys vs variables) x)
    go true e d f g later = absurd (subst (λ (k : Out). IsOutput scope k (Plain o)) (name_is_object c y e) a.0)
    go false e true f g later = tt
    go false e false f g later = later (ap (λ (b : Bool). b || has (ordinary_names c ys) x) (sym f) ∙ g)

-- ---- the scope inside a `LET`

pub some_same : {X : Type 0} {a b : X} → Some a ≡ Some b → a ≡ b
some_same e = cc

pub none_some : {X : Type 0} {a : X} {A : Type 0} → ◌≡◌ {A = Option X} None (Some a) → A
none_some e = cc

pub ordinary_is : (c : World) (names : List ℕ) (x : ℕ) → has names x ≡ true → is_stobj_name c x ≡ false → has (ordinary_names c names) x ≡ true
ordinary_is c names x h o = has_ordinary c names x ∙ rw (h, o) refl

pub ordinary_not : (c : World) (names : List ℕ) (x : ℕ) → is_stobj_name c x ≡ true → has (ordinary_names c names) x ≡ false
ordinary_not c names x o = has_ordinary c names x ∙ rw o (nothing (has names x))
  where
    nothing : (b : Bool) → (b && false) ≡ false
    nothing true = refl
    nothing false = refl

pub ordinary_none : (c : World) (names : List ℕ) (x : ℕ) → has names x ≡ false → has (ordinary_names c names) x ≡ false
ordinary_none c names x h = has_ordinary c names x ∙ rw h refl

module _ (c : World) (scope : Scope) (names : List ℕ) (values : List (Shown ℕ)) (variables : Variables ℕ) (a : AreOutputs scope (name_kinds c names) values) where
  pub bound_objects : (x : ℕ) → IsStobj (binding c scope names) x → IsStobj scope x
  bound_objects x h = go (has names x) refl (subst (λ (k : Option Out). k ≡ Some (worlds.Stobj x)) (kind_bound c scope names x) h)
    where
      go : (b : Bool) → has names x ≡ b → (if b then Some (name_kind c x) else kind_in scope x) ≡ Some (worlds.Stobj x) → IsStobj scope x
      go true e f = by_kind (kind_or c x)
        where
          by_kind : (is_stobj_name c x ≡ true) ⊎ (is_stobj_name c x ≡ false) → IsStobj scope x
          by_kind (inl o) = output_object c scope names values x a e o
          by_kind (inr o) = ordinary_not_object (some_same (ap (λ (k : Out). Some k) (sym (name_is_ordinary c x o)) ∙ f))
            where
              ordinary_not_object : Ordinary ≡ worlds.Stobj x → IsStobj scope x
              ordinary_not_object g = cc
      go false e f = f

  pub bound_variables : AreVariables scope variables → AreVariables (binding c scope names) (bound names values variables)
  bound_variables v = record { each = λ x k h. go x k (has names x) refl (subst (λ (m : Option Out). m ≡ Some k) (kind_bound c scope names x) h) }
    where
      go : (x : ℕ) (k : Out) (b : Bool) → has names x ≡ b → (if b then Some (name_kind c x) else kind_in scope x) ≡ Some k → IsOfKind x k (variable_in by_number (bound names values variables) x)
      go x k true e f = by_kind (kind_or c x)
        where
          by_kind : (is_stobj_name c x ≡ true) ⊎ (is_stobj_name c x ≡ false) → IsOfKind x k (variable_in by_number (bound names values variables) x)
          by_kind (inl o) =
              subst (λ (m : Out). IsOfKind x m (variable_in by_number (bound names values variables) x)) (sym (name_is_object c x o) ∙ some_same f)
              (subst (λ (u : Shown ℕ). IsOfKind x (worlds.Stobj x) u) (sym (bound_skips c scope names values variables x a (ordinary_not c names x o)))
              (v.each x (worlds.Stobj x) (output_object c scope names values x a e o)))
          by_kind (inr o) =
              subst (λ (m : Out). IsOfKind x m (variable_in by_number (bound names values variables) x)) (sym (name_is_ordinary c x o) ∙ some_same f)
              (bound_ordinary c scope names values variables x a (ordinary_is c names x e o))
      go x k false e f = subst (λ (u : Shown ℕ). IsOfKind x k u) (sym (bound_skips c scope names values variables x a (ordinary_none c names x e))) (v.each x k f)

-- ---- stobjs among names

pub has_object : (c : World) (names : List ℕ) (x : ℕ) → has (classes.stobjs (name_kinds c names)) x ≡ (has names x && is_stobj_name c x)
has_object c [] x = refl
has_object c (y ∷ ys) x = go (is_stobj_name c y) refl (nat_eq x y) refl (is_stobj_name c x) refl (has_object c ys x)
  where
    go : (a : Bool) → is_stobj_name c y ≡ a → (b : Bool) → nat_eq x y ≡ b → (d : Bool) → is_stobj_name c x ≡ d → has (classes.stobjs (name_kinds c ys)) x ≡ (has ys x && d)
        → has (classes.stobjs ((if a then worlds.Stobj y else Ordinary) ∷ name_kinds c ys)) x ≡ ((b || has ys x) && d)
    go true f true g true h i = rw g refl
    go true f true g false h i = true_false (sym f ∙ (ap (is_stobj_name c) (sym (eqb-true x y g)) ∙ h))
    go true f false g d h i = rw g i
    go false f true g true h i = true_false (sym h ∙ (ap (is_stobj_name c) (eqb-true x y g) ∙ f))
    go false f true g false h i = i ∙ nothing (has ys x)
      where
        nothing : (b : Bool) → (b && false) ≡ false
        nothing true = refl
        nothing false = refl
    go false f false g d h i = i

pub all_has : (P : ℕ → Bool) (xs : List ℕ) (x : ℕ) → list_all P xs ≡ true → has xs x ≡ true → P x ≡ true
all_has P [] x a h = false_true h
all_has P (y ∷ ys) x a h = go (P y) refl (nat_eq x y) refl a h (all_has P ys x)
  where
    go : (a : Bool) → P y ≡ a → (b : Bool) → nat_eq x y ≡ b → (a && list_all P ys) ≡ true → (b || has ys x) ≡ true → (list_all P ys ≡ true → has ys x ≡ true → P x ≡ true) → P x ≡ true
    go true e true f g i later = subst (λ (z : ℕ). P z ≡ true) (sym (eqb-true x y f)) e
    go true e false f g i later = later g i
    go false e b f g i later = false_true g

pub has_other : (stobj : ℕ) (names : List ℕ) (x : ℕ) → has (other_names stobj names) x ≡ (has names x && not (nat_eq x stobj))
has_other stobj [] x = refl
has_other stobj (y ∷ ys) x = go (nat_eq y stobj) refl (nat_eq x y) refl (nat_eq x stobj) refl (has_other stobj ys x)
  where
    go : (a : Bool) → nat_eq y stobj ≡ a → (b : Bool) → nat_eq x y ≡ b → (d : Bool) → nat_eq x stobj ≡ d → has (other_names stobj ys) x ≡ (has ys x && not d)
        → has (if not a then y ∷ other_names stobj ys else other_names stobj ys) x ≡ ((b || has ys x) && not d)
    go true f true g true h i = i ∙ nothing (has ys x)
      where
        nothing : (b : Bool) → (b && false) ≡ false
        nothing true = refl
        nothing false = refl
    go true f true g false h i = true_false (sym f ∙ (ap (λ (z : ℕ). nat_eq z stobj) (sym (eqb-true x y g)) ∙ h))
    go true f false g d h i = i
    go false f true g true h i = true_false (sym h ∙ (ap (λ (z : ℕ). nat_eq z stobj) (eqb-true x y g) ∙ f))
    go false f true g false h i = rw g refl
    go false f false g d h i = rw g i

-- ---- the scopes of a local stobj

module _ (c : World) (scope : Scope) (stobj : ℕ) where
  -- a stobj of the producer's scope is the local one, or one around it
  pub local_object : (x : ℕ) → IsStobj (local_scope c scope stobj) x → (x ≡ stobj) ⊎ ((x ≢ stobj) × IsStobj scope x)
  local_object x h = go (nat_eq x stobj) refl (subst (λ (k : Option Out). k ≡ Some (worlds.Stobj x)) (kind_bound c scope (stobj ∷ []) x) h)
    where
      go : (b : Bool) → nat_eq x stobj ≡ b → (if b || false then Some (name_kind c x) else kind_in scope x) ≡ Some (worlds.Stobj x) → (x ≡ stobj) ⊎ ((x ≢ stobj) × IsStobj scope x)
      go true e f = inl (eqb-true x stobj e)
      go false e f = inr (different, f)
        where
          different : x ≢ stobj
          different g = true_false (sym (same_number stobj) ∙ (ap (λ (z : ℕ). nat_eq z stobj) (sym g) ∙ e))

  pub local_variables : (variables : Variables ℕ) → is_stobj_name c stobj ≡ true → AreVariables scope variables → AreVariables (local_scope c scope stobj) ((stobj, StobjNamed stobj) ∷ variables)
  local_variables variables o v = record { each = λ x k h. go x k (nat_eq x stobj) refl (subst (λ (m : Option Out). m ≡ Some k) (kind_bound c scope (stobj ∷ []) x) h) }
    where
      go : (x : ℕ) (k : Out) (b : Bool) → nat_eq x stobj ≡ b → (if b || false then Some (name_kind c x) else kind_in scope x) ≡ Some k → IsOfKind x k (if b then StobjNamed stobj else variable_in by_number variables x)
      go x k true e f =
          subst (λ (m : Out). IsOfKind x m (StobjNamed stobj)) (ap (name_kind c) (sym (eqb-true x stobj e)) ∙ some_same f)
          (subst (λ (m : Out). IsOfKind x m (StobjNamed stobj)) (sym (name_is_object c stobj o)) (sym (eqb-true x stobj e), ap StobjNamed (sym (eqb-true x stobj e))))
      go x k false e f = v.each x k f

  -- the scope after it
  module _ (names : List ℕ) (values : List (Shown ℕ)) (variables : Variables ℕ) (a : AreOutputs (local_scope c scope stobj) (name_kinds c names) values) where
    without_object : (x : ℕ) (k : Out) → kind_in (without (stobj ∷ []) scope) x ≡ Some k → (nat_eq x stobj ≡ false) × (kind_in scope x ≡ Some k)
    without_object x k h = go (nat_eq x stobj) refl (subst (λ (m : Option Out). m ≡ Some k) (kind_without (stobj ∷ []) scope x) h)
      where
        go : (b : Bool) → nat_eq x stobj ≡ b → (if b || false then None else kind_in scope x) ≡ Some k → (nat_eq x stobj ≡ false) × (kind_in scope x ≡ Some k)
        go true e f = none_some f
        go false e f = (e, f)

    bound_outside : (x : ℕ) → has (other_names stobj names) x ≡ true → is_stobj_name c x ≡ true → IsStobj scope x
    bound_outside x h o = go (has names x) refl (nat_eq x stobj) refl (subst (λ (b : Bool). b ≡ true) (has_other stobj names x) h)
      where
        go : (b : Bool) → has names x ≡ b → (d : Bool) → nat_eq x stobj ≡ d → (b && not d) ≡ true → IsStobj scope x
        go true e true f g = false_true g
        go true e false f g = by_place (local_object x (output_object c (local_scope c scope stobj) names values x a e o))
          where
            by_place : (x ≡ stobj) ⊎ ((x ≢ stobj) × IsStobj scope x) → IsStobj scope x
            by_place (inl i) = true_false (sym (same_number stobj) ∙ (ap (λ (z : ℕ). nat_eq z stobj) (sym i) ∙ f))
            by_place (inr i) = i.1
        go false e d f g = false_true g

    has_names : (x : ℕ) → has (other_names stobj names) x ≡ true → has names x ≡ true
    has_names x h = go (has names x) refl (nat_eq x stobj) (subst (λ (b : Bool). b ≡ true) (has_other stobj names x) h)
      where
        go : (b : Bool) → has names x ≡ b → (d : Bool) → (b && not d) ≡ true → has names x ≡ true
        go true e d g = e
        go false e d g = false_true g

    has_no_name : (x : ℕ) → has (other_names stobj names) x ≡ false → nat_eq x stobj ≡ false → has names x ≡ false
    has_no_name x h i = go (has names x) refl (subst (λ (b : Bool). b ≡ false) (has_other stobj names x ∙ rw i refl) h)
      where
        go : (b : Bool) → has names x ≡ b → (b && true) ≡ false → has names x ≡ false
        go true e g = true_false g
        go false e g = e

    pub body_objects : (x : ℕ) → IsStobj (body_scope c scope stobj names) x → IsStobj scope x
    body_objects x h = go (has (other_names stobj names) x) refl (subst (λ (k : Option Out). k ≡ Some (worlds.Stobj x)) (kind_bound c (without (stobj ∷ []) scope) (other_names stobj names) x) h)
      where
        go : (b : Bool) → has (other_names stobj names) x ≡ b → (if b then Some (name_kind c x) else kind_in (without (stobj ∷ []) scope) x) ≡ Some (worlds.Stobj x) → IsStobj scope x
        go true e f = by_kind (kind_or c x)
          where
            by_kind : (is_stobj_name c x ≡ true) ⊎ (is_stobj_name c x ≡ false) → IsStobj scope x
            by_kind (inl o) = bound_outside x e o
            by_kind (inr o) = ordinary_not_object (some_same (ap (λ (k : Out). Some k) (sym (name_is_ordinary c x o)) ∙ f))
              where
                ordinary_not_object : Ordinary ≡ worlds.Stobj x → IsStobj scope x
                ordinary_not_object g = cc
        go false e f = (without_object x (worlds.Stobj x) f).1

    pub body_variables : AreVariables scope variables → AreVariables (body_scope c scope stobj names) (bound names values variables)
    body_variables v = record { each = λ x k h. go x k (has (other_names stobj names) x) refl (subst (λ (m : Option Out). m ≡ Some k) (kind_bound c (without (stobj ∷ []) scope) (other_names stobj names) x) h) }
      where
        go : (x : ℕ) (k : Out) (b : Bool) → has (other_names stobj names) x ≡ b → (if b then Some (name_kind c x) else kind_in (without (stobj ∷ []) scope) x) ≡ Some k
            → IsOfKind x k (variable_in by_number (bound names values variables) x)
        go x k true e f = by_kind (kind_or c x)
          where
            by_kind : (is_stobj_name c x ≡ true) ⊎ (is_stobj_name c x ≡ false) → IsOfKind x k (variable_in by_number (bound names values variables) x)
            by_kind (inl o) =
                subst (λ (m : Out). IsOfKind x m (variable_in by_number (bound names values variables) x)) (sym (name_is_object c x o) ∙ some_same f)
                (subst (λ (u : Shown ℕ). IsOfKind x (worlds.Stobj x) u) (sym (bound_skips c (local_scope c scope stobj) names values variables x a (ordinary_not c names x o)))
                (v.each x (worlds.Stobj x) (bound_outside x e o)))
            by_kind (inr o) =
                subst (λ (m : Out). IsOfKind x m (variable_in by_number (bound names values variables) x)) (sym (name_is_ordinary c x o) ∙ some_same f)
                (bound_ordinary c (local_scope c scope stobj) names values variables x a (ordinary_is c names x (has_names x e) o))
        go x k false e f =
            let around : (nat_eq x stobj ≡ false) × (kind_in scope x ≡ Some k) = without_object x k f in
            subst (λ (u : Shown ℕ). IsOfKind x k u) (sym (bound_skips c (local_scope c scope stobj) names values variables x a (ordinary_none c names x (has_no_name x e around.0)))) (v.each x k around.1)
