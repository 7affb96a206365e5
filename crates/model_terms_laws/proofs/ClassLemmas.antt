-- Congruence.
use Rattle.std.proofs.Common.{◌≡◌, ℕ, [], ◌∷◌, ◌++◌, refl, ap, sym, ◌∙◌}
use Rattle.std.specs.Prelude.{Option, Some, None, Bool, true, false, nat_eq, map, is_some, option_and_then}
use Rattle.std.specs.List.{AllByRecursion}
use Rattle.std.proofs.lemmas.Map.Keys.{IsDistinct-head, IsDistinct-tail}
use Rattle.std.proofs.lemmas.Bool.{eqb-true, eq-eqb}
use Rattle.model_terms.specs.Worlds.{World, HasDistinctNames, Definition, Primitive, Concrete, Abstract, Descriptor, AbstractDescriptor, definition_name, definition}
use Rattle.model_terms.specs.Classes.{class_in, class_of, same_class}
use Rattle.model_terms_laws.specs.Laws.{FindsByName, IsEquivalence, HasConcreteClasses, IsAlone}

false_true : {A : Type 0} → false ≡ true → A
false_true e = cc

class_self : (a : Option ℕ) → is_some a ≡ true → same_class a a ≡ true
class_self None e = e
class_self (Some c) e = eq-eqb c c refl

pub eq_swap : (m n : ℕ) → nat_eq m n ≡ nat_eq n m
eq_swap m n = go (nat_eq m n) refl (nat_eq n m) refl
  where
    go : (b : Bool) → nat_eq m n ≡ b → (c : Bool) → nat_eq n m ≡ c → nat_eq m n ≡ nat_eq n m
    go true h true k = h ∙ sym k
    go false h false k = h ∙ sym k
    go true h false k = let e : m ≡ n = eqb-true m n h in false_true (sym k ∙ eq-eqb n m (sym e))
    go false h true k = let e : n ≡ m = eqb-true n m k in false_true (sym h ∙ eq-eqb m n (sym e))

class_swap : (a b : Option ℕ) → same_class a b ≡ same_class b a
class_swap None None = refl
class_swap None (Some d) = refl
class_swap (Some c) None = refl
class_swap (Some c) (Some d) = eq_swap c d

class_through : (a b c : Option ℕ) → same_class a b ≡ true → same_class b c ≡ true → same_class a c ≡ true
class_through None b c h k = h
class_through (Some m) None c h k = false_true h
class_through (Some m) (Some n) None h k = k
class_through (Some m) (Some n) (Some o) h k = eq-eqb m o (eqb-true m n h ∙ eqb-true n o k)

class_there : (a b : Option ℕ) → same_class a b ≡ true → is_some a ≡ true
class_there None b h = h
class_there (Some m) b h = refl

pub is_equivalence : IsEquivalence
is_equivalence =
    record {
      reflexive = λ w x e. class_self (class_of w x) e;
      symmetric = λ w x y. class_swap (class_of w x) (class_of w y);
      transitive = λ w x y z h k. class_through (class_of w x) (class_of w y) (class_of w z) h k;
      of_objects = λ w x y h. class_there (class_of w x) (class_of w y) h;
    }

-- ---- abstract stobjs

some_same : (d e : Definition) → Some d ≡ Some e → d ≡ e
some_same d e h = cc

none_some : (e : Definition) → ◌≡◌ {A = Option Definition} None (Some e) → ⊥
none_some e h = cc

pub found_name : (w : World) (x : ℕ) (e : Definition) → definition w x ≡ Some e → x ≡ definition_name e
found_name [] x e h = absurd (none_some e h)
found_name (d ∷ w) x e h = go (nat_eq x (definition_name d)) refl (found_name w x e)
  where
    go : (b : Bool) → nat_eq x (definition_name d) ≡ b → (definition w x ≡ Some e → x ≡ definition_name e) → x ≡ definition_name e
    go true t later = let same : d ≡ e = some_same d e (rw t at h) in eqb-true x (definition_name d) t ∙ ap definition_name same
    go false t later = later (rw t at h)

not_both : (d : Descriptor) (c : ℕ) (e : AbstractDescriptor) → ◌≡◌ {A = Option Definition} (Some (Abstract e)) (Some (Concrete d c)) → ⊥
not_both d c e h = cc

-- the other name, by what defines it
other_is : (w : World) (x y : ℕ) (d : AbstractDescriptor) → HasConcreteClasses w → definition w x ≡ Some (Abstract d) → x ≡ d.name
    → (e : Definition) → definition w y ≡ Some e → same_class (Some d.name) (class_in e) ≡ true → x ≡ y
other_is w x y d all h at (Concrete k c) g same =
    let first : (e : Descriptor) × (n : ℕ) × (definition w c ≡ Some (Concrete e n)) = all y c k g in
    let one : x ≡ c = at ∙ eqb-true d.name c same in
    absurd (not_both first.0 first.1 d (sym h ∙ (ap (definition w) one ∙ first.2)))
other_is w x y d all h at (Abstract k) g same = at ∙ (eqb-true d.name k.name same ∙ sym (found_name w y (Abstract k) g))
other_is w x y d all h at (Primitive name row) g same = false_true same
other_is w x y d all h at e g same = false_true same

other_of : (w : World) (x y : ℕ) (d : AbstractDescriptor) → HasConcreteClasses w → definition w x ≡ Some (Abstract d) → x ≡ d.name
    → (o : Option Definition) → definition w y ≡ o → same_class (Some d.name) (option_and_then class_in o) ≡ true → x ≡ y
other_of w x y d all h at None g same = false_true same
other_of w x y d all h at (Some e) g same = other_is w x y d all h at e g same

pub is_alone : IsAlone
is_alone =
    record {
      alone = λ w x y d all h same.
          other_of w x y d all h (found_name w x (Abstract d) h) (definition w y) refl (rw h at same);
    }

-- ---- worlds

differs : (x : ℕ) (before after : World) (d : Definition) → AllByRecursion (λ y. nat_eq x y ≡ false) (map definition_name (before ++ d ∷ after)) → nat_eq x (definition_name d) ≡ false
differs x [] after d all = all.0
differs x (e ∷ before) after d all = differs x before after d all.1

found : (before after : World) (d : Definition) → HasDistinctNames (before ++ d ∷ after) → definition (before ++ d ∷ after) (definition_name d) ≡ Some d
found [] after d distinct = rw (eq-eqb (definition_name d) (definition_name d) refl) refl
found (e ∷ before) after d distinct =
    let apart : nat_eq (definition_name d) (definition_name e) ≡ false = eq_swap (definition_name d) (definition_name e) ∙ differs (definition_name e) before after d (IsDistinct-head nat_eq (definition_name e) (map definition_name (before ++ d ∷ after)) distinct) in
    rw apart (found before after d (IsDistinct-tail nat_eq (definition_name e) (map definition_name (before ++ d ∷ after)) distinct))

pub finds_by_name : FindsByName
finds_by_name = record { named = found_name; found = found }
