-- The scopes of a `STOBJ-LET`.
use Rattle.std.proofs.Common.{◌≡◌, ℕ, List, [], ◌∷◌, ◌++◌, map, Bool, true, false, Option, Some, None, refl, sym, ap, ◌∙◌, subst, inl, inr}
use Rattle.std.specs.Prelude.{◌≢◌, ◌||◌, ◌&&◌, not, nat_eq, is_some, if◌then◌else◌}
use Rattle.std.proofs.lemmas.Bool.{eqb-true}
use Rattle.model_prims.specs.Kinds.{by_number}
use Rattle.model_terms.specs.Worlds.{World, Out, Ordinary, Scope}
use Rattle.model_terms.specs.Worlds as worlds
use Rattle.model_terms.specs.Classes.{has, is_stobj_name, class_of, same_class, congruent}
use Rattle.model_terms.specs.Scopes.{kind_in, name_kind, name_kinds, without, ordinary_names, producer_scope, consumer_scope}
use Rattle.model_terms.specs.Nested.{BoundChild, child_stobj}
use Rattle.model_eval.specs.Outcomes.{Shown, StobjNamed}
use Rattle.model_eval.specs.Keeping.{Loan}
use Rattle.model_eval.specs.Variables.{Variables, variable_in, bound}
use Rattle.model_eval_laws.proofs.Lists.{same_number}
use Rattle.model_accepted.specs.StobjScopes.{IsStobj, IsOfKind, AreVariables, AreOutputs}
use Rattle.model_accepted.specs.Loans.{children, IsInside}
use Rattle.model_accepted.proofs.AcceptLemmas.{false_true, true_false, neither}
use Rattle.model_accepted.proofs.ScopeLemmas.{kind_bound, kind_without, name_is_object, name_is_ordinary, has_ordinary, bound_skips, bound_ordinary, some_same, none_some}
use Rattle.model_accepted.proofs.KidLemmas.{AreBound}

-- what is congruent to a stobj is one
congruent_object : (c : World) (x y : ℕ) → congruent c x y ≡ true → is_stobj_name c y ≡ true
congruent_object c x y e = go (class_of c x) (class_of c y) e
  where
    go : (a b : Option ℕ) → same_class a b ≡ true → is_some b ≡ true
    go None b h = false_true h
    go (Some a) None h = false_true h
    go (Some a) (Some b) h = refl

pub bound_names : (c : World) (p : ℕ) (bs : List BoundChild) (x : ℕ) → AreBound c p bs → has (map (λ (b : BoundChild). b.name) bs) x ≡ true → is_stobj_name c x ≡ true
bound_names c p [] x h i = false_true i
bound_names c p (b ∷ bs) x h i = go (nat_eq x b.name) refl i (bound_names c p bs x h.3)
  where
    go : (a : Bool) → nat_eq x b.name ≡ a → (a || has (map (λ (b : BoundChild). b.name) bs) x) ≡ true → (has (map (λ (b : BoundChild). b.name) bs) x ≡ true → is_stobj_name c x ≡ true) → is_stobj_name c x ≡ true
    go true e f later = subst (λ (z : ℕ). is_stobj_name c z ≡ true) (sym (eqb-true x b.name e)) (congruent_object c (child_stobj b.accessor.holds) b.name h.2)
    go false e f later = later f

pub loaned_kid : (ls : List (Loan ℕ)) (variables : Variables ℕ) (x : ℕ) → has (children ls) x ≡ true → variable_in by_number (map (λ (l : Loan ℕ). (l.child, StobjNamed l.child)) ls ++ variables) x ≡ StobjNamed x
loaned_kid [] variables x h = false_true h
loaned_kid (l ∷ ls) variables x h = go (nat_eq x l.child) refl h (loaned_kid ls variables x)
  where
    go : (b : Bool) → nat_eq x l.child ≡ b → (b || has (children ls) x) ≡ true → (has (children ls) x ≡ true → variable_in by_number (map (λ (l : Loan ℕ). (l.child, StobjNamed l.child)) ls ++ variables) x ≡ StobjNamed x)
        → (if b then StobjNamed l.child else variable_in by_number (map (λ (l : Loan ℕ). (l.child, StobjNamed l.child)) ls ++ variables) x) ≡ StobjNamed x
    go true e f later = ap StobjNamed (sym (eqb-true x l.child e))
    go false e f later = later f

pub loaned_other : (ls : List (Loan ℕ)) (variables : Variables ℕ) (x : ℕ) → has (children ls) x ≡ false → variable_in by_number (map (λ (l : Loan ℕ). (l.child, StobjNamed l.child)) ls ++ variables) x ≡ variable_in by_number variables x
loaned_other [] variables x h = refl
loaned_other (l ∷ ls) variables x h =
    let parts : (nat_eq x l.child ≡ false) × (has (children ls) x ≡ false) = neither (nat_eq x l.child) (has (children ls) x) h in
    rw parts.0 (loaned_other ls variables x parts.1)

module _ (c : World) (scope : Scope) (p : ℕ) (names : List ℕ) (ls : List (Loan ℕ)) (same : children ls ≡ names) where
  -- ---- the producer

  around : (x : ℕ) (k : Out) → kind_in (without (p ∷ []) scope) x ≡ Some k → (x ≢ p) × (kind_in scope x ≡ Some k)
  around x k h = go (nat_eq x p) refl (subst (λ (m : Option Out). m ≡ Some k) (kind_without (p ∷ []) scope x) h)
    where
      go : (b : Bool) → nat_eq x p ≡ b → (if b || false then None else kind_in scope x) ≡ Some k → (x ≢ p) × (kind_in scope x ≡ Some k)
      go true e f = none_some f
      go false e f = ((λ g. true_false (sym (same_number p) ∙ (ap (λ (z : ℕ). nat_eq z p) (sym g) ∙ e))), f)

  pub producer_objects : (x : ℕ) → IsStobj (producer_scope c scope (Some p) names) x → IsInside scope p ls x
  producer_objects x h = go (has names x) refl (subst (λ (m : Option Out). m ≡ Some (worlds.Stobj x)) (kind_bound c (without (p ∷ []) scope) names x) h)
    where
      go : (b : Bool) → has names x ≡ b → (if b then Some (name_kind c x) else kind_in (without (p ∷ []) scope) x) ≡ Some (worlds.Stobj x) → IsInside scope p ls x
      go true e f = inl (ap (λ (ns : List ℕ). has ns x) same ∙ e)
      go false e f = let out : (x ≢ p) × (kind_in scope x ≡ Some (worlds.Stobj x)) = around x (worlds.Stobj x) f in inr (ap (λ (ns : List ℕ). has ns x) same ∙ e, out.0, out.1)

  pub producer_variables : (variables : Variables ℕ) → ((x : ℕ) → has names x ≡ true → is_stobj_name c x ≡ true) → AreVariables scope variables
      → AreVariables (producer_scope c scope (Some p) names) (map (λ (l : Loan ℕ). (l.child, StobjNamed l.child)) ls ++ variables)
  producer_variables variables stobjs v = record { each = λ x k h. go x k (has names x) refl (subst (λ (m : Option Out). m ≡ Some k) (kind_bound c (without (p ∷ []) scope) names x) h) }
    where
      go : (x : ℕ) (k : Out) (b : Bool) → has names x ≡ b → (if b then Some (name_kind c x) else kind_in (without (p ∷ []) scope) x) ≡ Some k → IsOfKind x k (variable_in by_number (map (λ (l : Loan ℕ). (l.child, StobjNamed l.child)) ls ++ variables) x)
      go x k true e f =
          subst (λ (m : Out). IsOfKind x m (variable_in by_number (map (λ (l : Loan ℕ). (l.child, StobjNamed l.child)) ls ++ variables) x)) (sym (name_is_object c x (stobjs x e)) ∙ some_same f)
          (subst (λ (u : Shown ℕ). IsOfKind x (worlds.Stobj x) u) (sym (loaned_kid ls variables x (ap (λ (ns : List ℕ). has ns x) same ∙ e))) (refl, refl))
      go x k false e f =
          subst (λ (u : Shown ℕ). IsOfKind x k u) (sym (loaned_other ls variables x (ap (λ (ns : List ℕ). has ns x) same ∙ e))) (v.each x k (around x k f).1)

  -- ---- the consumer

  module _ (inside : Scope) (vars : List ℕ) (values : List (Shown ℕ)) (variables : Variables ℕ) (a : AreOutputs inside (name_kinds c vars) values) where
    outside : (x : ℕ) (k : Out) → kind_in (without names scope) x ≡ Some k → kind_in scope x ≡ Some k
    outside x k h = go (has names x) (subst (λ (m : Option Out). m ≡ Some k) (kind_without names scope x) h)
      where
        go : (b : Bool) → (if b then None else kind_in scope x) ≡ Some k → kind_in scope x ≡ Some k
        go true f = none_some f
        go false f = f

    ordinary_name : (x : ℕ) → has (ordinary_names c vars) x ≡ true → is_stobj_name c x ≡ false
    ordinary_name x h = go (has vars x) (is_stobj_name c x) (sym (has_ordinary c vars x) ∙ h)
      where
        go : (b d : Bool) → (b && not d) ≡ true → d ≡ false
        go true true f = false_true f
        go true false f = refl
        go false d f = false_true f

    pub consumer_objects : (x : ℕ) → IsStobj (consumer_scope c scope names vars) x → IsStobj scope x
    consumer_objects x h = go (has (ordinary_names c vars) x) refl (subst (λ (m : Option Out). m ≡ Some (worlds.Stobj x)) (kind_bound c (without names scope) (ordinary_names c vars) x) h)
      where
        go : (b : Bool) → has (ordinary_names c vars) x ≡ b → (if b then Some (name_kind c x) else kind_in (without names scope) x) ≡ Some (worlds.Stobj x) → IsStobj scope x
        go true e f = not_object (some_same (ap (λ (k : Out). Some k) (sym (name_is_ordinary c x (ordinary_name x e))) ∙ f))
          where
            not_object : Ordinary ≡ worlds.Stobj x → IsStobj scope x
            not_object g = cc
        go false e f = outside x (worlds.Stobj x) f

    pub consumer_variables : AreVariables scope variables → AreVariables (consumer_scope c scope names vars) (bound vars values variables)
    consumer_variables v = record { each = λ x k h. go x k (has (ordinary_names c vars) x) refl (subst (λ (m : Option Out). m ≡ Some k) (kind_bound c (without names scope) (ordinary_names c vars) x) h) }
      where
        go : (x : ℕ) (k : Out) (b : Bool) → has (ordinary_names c vars) x ≡ b → (if b then Some (name_kind c x) else kind_in (without names scope) x) ≡ Some k → IsOfKind x k (variable_in by_number (bound vars values variables) x)
        go x k true e f =
            subst (λ (m : Out). IsOfKind x m (variable_in by_number (bound vars values variables) x)) (sym (name_is_ordinary c x (ordinary_name x e)) ∙ some_same f)
            (bound_ordinary c inside vars values variables x a e)
        go x k false e f = subst (λ (u : Shown ℕ). IsOfKind x k u) (sym (bound_skips c inside vars values variables x a e)) (v.each x k (outside x k f))
