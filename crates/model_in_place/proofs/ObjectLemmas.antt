-- Lists by the names of their stobjs.
use Rattle.std.proofs.Common.{◌≡◌, ℕ, [], ◌∷◌, Bool, true, false, refl, sym, ap, ◌∙◌, subst, inl, inr}
use Rattle.std.specs.Prelude.{◌≢◌, ◌⊎◌, nat_eq, ◌||◌, if◌then◌else◌}
use Rattle.std.proofs.lemmas.Bool.{eqb-true}
use Rattle.model_lists.specs.Lists.{StobjList}
use Rattle.model_eval.specs.Outcomes.{Stobjs}
use Rattle.model_eval.specs.Variables.{list_of, with_list}
use Rattle.model_eval_laws.specs.Scope.{names, is_among}
use Rattle.model_eval_laws.proofs.Lists.{same_number}

-- ---- numbers

pub equal_or_not : (x y : ℕ) → (x ≡ y) ⊎ (x ≢ y)
equal_or_not x y = go (nat_eq x y) refl
  where
    go : (b : Bool) → nat_eq x y ≡ b → (x ≡ y) ⊎ (x ≢ y)
    go true e = inl (eqb-true x y e)
    go false e = inr (λ f. differ (subst (λ (z : ℕ). nat_eq x z ≡ false) (sym f) e))
      where
        differ : nat_eq x x ≡ false → ⊥
        differ g = true_false (sym (same_number x) ∙ g)
          where
            true_false : true ≡ false → ⊥
            true_false h = cc

pub not_equal : (x y : ℕ) → x ≢ y → nat_eq x y ≡ false
not_equal x y d = go (nat_eq x y) refl
  where
    go : (b : Bool) → nat_eq x y ≡ b → nat_eq x y ≡ false
    go true e = absurd (d (eqb-true x y e))
    go false e = e

-- ---- one write

pub list_written : (x : ℕ) (l : StobjList ℕ) (os : Stobjs ℕ) → is_among x (names os) ≡ true → list_of (with_list x l os) x ≡ l
list_written x l [] h = cc
list_written x l (o ∷ os) h = go (nat_eq x o.0) refl (list_written x l os) h
  where
    go : (b : Bool) → nat_eq x o.0 ≡ b → (is_among x (names os) ≡ true → list_of (with_list x l os) x ≡ l) → (b || is_among x (names os)) ≡ true
        → list_of (if b then (o.0, l) ∷ os else o ∷ with_list x l os) x ≡ l
    go true e f g = rw e refl
    go false e f g = rw e (f g)

pub list_other : (y x : ℕ) (l : StobjList ℕ) (os : Stobjs ℕ) → y ≢ x → list_of (with_list x l os) y ≡ list_of os y
list_other y x l [] d = refl
list_other y x l (o ∷ os) d = go (nat_eq x o.0) refl (nat_eq y o.0) refl (list_other y x l os d)
  where
    go : (b : Bool) → nat_eq x o.0 ≡ b → (c : Bool) → nat_eq y o.0 ≡ c → list_of (with_list x l os) y ≡ list_of os y
        → list_of (if b then (o.0, l) ∷ os else o ∷ with_list x l os) y ≡ (if c then o.1 else list_of os y)
    go true e true f i = absurd (d (eqb-true y o.0 f ∙ sym (eqb-true x o.0 e)))
    go true e false f i = rw f refl
    go false e true f i = rw f refl
    go false e false f i = rw f i

pub written_twice : (x : ℕ) (l m : StobjList ℕ) (os : Stobjs ℕ) → with_list x l (with_list x m os) ≡ with_list x l os
written_twice x l m [] = refl
written_twice x l m (o ∷ os) = go (nat_eq x o.0) refl (written_twice x l m os)
  where
    go : (b : Bool) → nat_eq x o.0 ≡ b → with_list x l (with_list x m os) ≡ with_list x l os
        → with_list x l (if b then (o.0, m) ∷ os else o ∷ with_list x m os) ≡ (if b then (o.0, l) ∷ os else o ∷ with_list x l os)
    go true e i = rw e refl
    go false e i = rw e (ap (λ (ps : Stobjs ℕ). o ∷ ps) i)

pub written_same : (x : ℕ) (os : Stobjs ℕ) → with_list x (list_of os x) os ≡ os
written_same x [] = refl
written_same x (o ∷ os) = go (nat_eq x o.0) (written_same x os)
  where
    go : (b : Bool) → with_list x (list_of os x) os ≡ os
        → (if b then (o.0, if b then o.1 else list_of os x) ∷ os else o ∷ with_list x (if b then o.1 else list_of os x) os) ≡ o ∷ os
    go true i = refl
    go false i = ap (λ (ps : Stobjs ℕ). o ∷ ps) i

pub written_commutes : (x y : ℕ) (l m : StobjList ℕ) (os : Stobjs ℕ) → x ≢ y → with_list x l (with_list y m os) ≡ with_list y m (with_list x l os)
written_commutes x y l m [] d = refl
written_commutes x y l m (o ∷ os) d = go (nat_eq x o.0) refl (nat_eq y o.0) refl (written_commutes x y l m os d)
  where
    go : (b : Bool) → nat_eq x o.0 ≡ b → (c : Bool) → nat_eq y o.0 ≡ c → with_list x l (with_list y m os) ≡ with_list y m (with_list x l os)
        → with_list x l (if c then (o.0, m) ∷ os else o ∷ with_list y m os) ≡ with_list y m (if b then (o.0, l) ∷ os else o ∷ with_list x l os)
    go true e true f i = absurd (d (eqb-true x o.0 e ∙ sym (eqb-true y o.0 f)))
    go true e false f i = rw (e, f) refl
    go false e true f i = rw (e, f) refl
    go false e false f i = rw (e, f) (ap (λ (ps : Stobjs ℕ). o ∷ ps) i)
