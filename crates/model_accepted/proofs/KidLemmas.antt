-- What the rule of `STOBJ-LET` says of the children that are lent.
use Rattle.std.proofs.Common.{◌≡◌, ℕ, zero, suc, ◌+◌, ◌<◌, List, [], ◌∷◌, map, Bool, true, false, Option, Some, None, refl, sym, ap, ◌∙◌, subst, arith, inl, inr}
use Rattle.std.specs.Prelude.{◌⊎◌, ◌||◌, ◌&&◌, not, pos, negsuc, nat_eq, option_map, option_and_then, if◌then◌else◌}
use Rattle.std.specs.List.{list_any, list_all}
use Rattle.std.proofs.lemmas.Bool.{eqb-true, ltb-true}
use Rattle.std.proofs.lemmas.Bool.Decides.{Decides-int_eq}
use Rattle.model_objects.specs.Object.{Object, Integer, Symbol, Text, Pair}
use Rattle.model_prims.specs.Kinds.{by_number}
use Rattle.model_lists.specs.Lists.{StobjList, Value, Pairs, End, Item, size, item, with_item}
use Rattle.model_lists.specs.Layouts.{Layout, Scalar, Array, Hash, Children, NoField, Field}
use Rattle.model_lists.specs.Effects.{is_index}
use Rattle.model_lists.specs.LiveLists.{HasFields, AllItems}
use Rattle.model_terms.specs.Cores.{Core, Cores, none, more, Reached, reached}
use Rattle.model_terms.specs.Worlds.{World, Definition, definition, Primitive, Defined, Macro, Constant, Concrete, Generated, Abstract, OfAbstract, Named, Signed, Out, Ordinary, Scope}
use Rattle.model_terms.specs.Worlds as worlds
use Rattle.model_terms.specs.Classes as classes
use Rattle.model_terms.specs.Classes.{has, repeats, congruent, is_stobj_name}
use Rattle.model_terms.specs.Scopes.{kind_of}
use Rattle.model_terms.specs.Accessors.{HeldStobjs, One, Many, ChildAccessor, child_accessor}
use Rattle.model_terms.specs.Sites.{parent_in}
use Rattle.model_terms.specs.Nested.{BoundChild, takes_index, bound_child_by, bound_child, with_bound_child, bound_children, child_stobj, is_stobj, stands_for, have_parent, have_names, have_indices, same_child, same_constant_index, bind_twice, are_vars, parent_expected, bindings_hold, stobj_let_holds}
use Rattle.model_eval.specs.Keeping.{Loan}
use Rattle.model_eval.specs.StobjLayouts.{layout_within, defined_layout, fields_layout, most_nested}
use Rattle.model_eval.specs.PlacesKeeping.{index_path, list_under, with_under}
use Rattle.model_eval.specs.Lending as eval
use Rattle.model_eval.specs.Lending.{field_number, is_reached, are_twins}
use Rattle.model_eval_laws.proofs.Lists.{same_number}
use Rattle.model_places.specs.Places.{ArePathsApart, IsPath}
use Rattle.model_accepted.specs.Threaded.{layout_of, IsField, Fits}
use Rattle.model_accepted.specs.Loans.{children, path_of, path_for, HaveParent, IsApartFrom, HaveApartPaths, AreLent}
use Rattle.model_accepted.proofs.AcceptLemmas.{false_true, true_false, both_true, neither, not_true}
use Rattle.model_accepted.proofs.ScopeLemmas.{some_same, none_some, all_has}

-- ---- layouts

field_there : (n : ℕ) (whole field : Layout ℕ) (l : StobjList ℕ) → IsField n whole field → HasFields whole l → (n < size l) × HasFields field (item n l)
field_there n (Scalar t o) field l i h = absurd i
field_there n (Array t o m resizable) field l i h = absurd i
field_there n (Hash test) field l i h = absurd i
field_there n (Children m child) field l i h = absurd i
field_there n NoField field l i h = absurd i
field_there n (Field first others) field (Value o) i h = absurd h
field_there n (Field first others) field (Pairs ps) i h = absurd h
field_there n (Field first others) field End i h = absurd h
field_there zero (Field first others) field (Item l ls) i h = let some : 0 < size ls + 1 = omega arith in (some, subst (λ (k : Layout ℕ). HasFields k l) i h.0)
field_there (suc n) (Field first others) field (Item l ls) i h =
    let rest : (n < size ls) × HasFields field (item n ls) = field_there n others field ls i h.1 in
    let below : n < size ls = rest.0 in
    let more : suc n < size ls + 1 = omega (arith, below) in
    (more, rest.1)

field_kept : (n : ℕ) (whole field : Layout ℕ) (new l : StobjList ℕ) → IsField n whole field → HasFields whole l → HasFields field new → HasFields whole (with_item n new l)
field_kept n (Scalar t o) field new l i h k = absurd i
field_kept n (Array t o m resizable) field new l i h k = absurd i
field_kept n (Hash test) field new l i h k = absurd i
field_kept n (Children m child) field new l i h k = absurd i
field_kept n NoField field new l i h k = absurd i
field_kept n (Field first others) field new (Value o) i h k = absurd h
field_kept n (Field first others) field new (Pairs ps) i h k = absurd h
field_kept n (Field first others) field new End i h k = absurd h
field_kept zero (Field first others) field new (Item l ls) i h k = (subst (λ (q : Layout ℕ). HasFields q new) (sym i) k, h.1)
field_kept (suc n) (Field first others) field new (Item l ls) i h k = (h.0, field_kept n others field new ls i h.1 k)

field_one : (n : ℕ) (whole a b : Layout ℕ) → IsField n whole a → IsField n whole b → a ≡ b
field_one n (Scalar t o) a b i j = absurd i
field_one n (Array t o m resizable) a b i j = absurd i
field_one n (Hash test) a b i j = absurd i
field_one n (Children m child) a b i j = absurd i
field_one n NoField a b i j = absurd i
field_one zero (Field first others) a b i j = sym i ∙ j
field_one (suc n) (Field first others) a b i j = field_one n others a b i j

items_at : (Is : StobjList ℕ → Type 0) (n : ℕ) (l : StobjList ℕ) → AllItems Is l → n < size l → Is (item n l)
items_at Is n (Value o) h i = absurd h
items_at Is n (Pairs ps) h i = absurd h
items_at Is n End h i = absurd (omega (arith, i))
items_at Is zero (Item first rest) h i = h.0
items_at Is (suc n) (Item first rest) h i = let below : n < size rest = omega (arith, i) in items_at Is n rest h.1 below

items_kept : (Is : StobjList ℕ → Type 0) (n : ℕ) (new l : StobjList ℕ) → Is new → AllItems Is l → AllItems Is (with_item n new l)
items_kept Is n new (Value o) k h = absurd h
items_kept Is n new (Pairs ps) k h = absurd h
items_kept Is n new End k h = tt
items_kept Is zero new (Item first rest) k h = (k, h.1)
items_kept Is (suc n) new (Item first rest) k h = (h.0, items_kept Is n new rest k h.1)

-- the layout of a stobj is no array of children
IsWhole : Layout ℕ → Type 0
IsWhole (Scalar t o) = ⊥
IsWhole (Array t o m resizable) = ⊥
IsWhole (Hash test) = ⊥
IsWhole (Children m child) = ⊥
IsWhole NoField = Unit {0}
IsWhole (Field first others) = Unit {0}

whole_defined : (w : World) (child : ℕ → Layout ℕ) (d : Option Definition) → ((x : ℕ) → IsWhole (child x)) → IsWhole (defined_layout (λ (o : Object ℕ). o) child d)
unfolding IsWhole
whole_defined w child None h = tt
whole_defined w child (Some (Primitive name row)) h = tt
whole_defined w child (Some (Defined f)) h = tt
whole_defined w child (Some (Macro name formals body)) h = tt
whole_defined w child (Some (Constant name value)) h = tt
whole_defined w child (Some (Concrete d class)) h = go d.fields
  where
    go : (fs : List worlds.Field) → IsWhole (fields_layout (λ (o : Object ℕ). o) child fs)
    go [] = tt
    go (f ∷ fs) = tt
whole_defined w child (Some (Generated f)) h = tt
whole_defined w child (Some (Abstract d)) h = h d.foundation
whole_defined w child (Some (OfAbstract f)) h = tt
whole_defined w child (Some (Named name formals)) h = tt
whole_defined w child (Some (Signed name formals signature executable)) h = tt

whole_within : (w : World) (d : ℕ) (x : ℕ) → IsWhole (layout_within (λ (o : Object ℕ). o) w d x)
unfolding layout_within IsWhole
whole_within w zero x = tt
whole_within w (suc d) x = whole_defined w (layout_within (λ (o : Object ℕ). o) w d) (definition w x) (whole_within w d)

not_children : (w : World) (x m : ℕ) (child : Layout ℕ) → layout_of w x ≡ Children m child → ⊥
unfolding IsWhole
not_children w x m child e = subst IsWhole e (whole_within w (suc most_nested) x)

-- ---- bound children

-- an index in the array of children of a field
abbrev pub IsIndexed : World → StobjList ℕ → Loan ℕ → Layout ℕ → Type 0
IsIndexed w parent l field = (n : ℕ) × (m : ℕ) × (l.index ≡ Some (Integer (pos n))) × (n < size (item l.field parent)) × (field ≡ Children m (layout_of w l.child))

-- a loan of a bound child of stobj p, which has this list
pub record IsLoan (w : World) (p : ℕ) (parent : StobjList ℕ) (b : BoundChild) (l : Loan ℕ) : Type 0 where
  pub child : l.child ≡ b.name
  pub from : l.parent ≡ p
  pub number : l.field ≡ b.accessor.field
  pub field : Layout ℕ
  pub there : IsField l.field (layout_of w p) field
  pub kind : ((l.index ≡ None) × (b.index ≡ None) × (field ≡ layout_of w l.child)) ⊎ IsIndexed w parent l field

abbrev pub AreLoans : World → ℕ → StobjList ℕ → List BoundChild → List (Loan ℕ) → Type 0
AreLoans w p parent [] [] = Unit {0}
AreLoans w p parent [] (l ∷ ls) = ⊥
AreLoans w p parent (b ∷ bs) [] = ⊥
AreLoans w p parent (b ∷ bs) (l ∷ ls) = IsLoan w p parent b l × AreLoans w p parent bs ls

module _ (w : World) (p : ℕ) (parent : StobjList ℕ) (fits : Fits w p parent) where
  pub loan_path : (b : BoundChild) (l : Loan ℕ) → IsLoan w p parent b l → IsPath (path_of l) parent × Fits w l.child (list_under (path_of l) parent)
  loan_path b l i =
      let there : (l.field < size parent) × HasFields i.field (item l.field parent) = field_there l.field (layout_of w p) i.field parent i.there fits in
      go there i.kind
    where
      go : (l.field < size parent) × HasFields i.field (item l.field parent) → ((l.index ≡ None) × (b.index ≡ None) × (i.field ≡ layout_of w l.child)) ⊎ IsIndexed w parent l i.field
          → IsPath (l.field ∷ index_path l.index) parent × Fits w l.child (list_under (l.field ∷ index_path l.index) parent)
      go there (inl e) =
          rw e.0 ((there.0, tt), subst (λ (k : Layout ℕ). HasFields k (item l.field parent)) e.2 there.1)
      go there (inr e) =
          rw e.2 (
            (there.0, (e.3, tt)),
            items_at (HasFields (layout_of w l.child)) e.0 (item l.field parent) (subst (λ (k : Layout ℕ). HasFields k (item l.field parent)) e.4 there.1) e.3,
          )

  pub loan_keeps : (b : BoundChild) (l : Loan ℕ) → IsLoan w p parent b l → (m new : StobjList ℕ) → Fits w p m → Fits w l.child new → Fits w p (with_under (path_of l) new m)
  loan_keeps b l i m new f g = go i.kind
    where
      go : ((l.index ≡ None) × (b.index ≡ None) × (i.field ≡ layout_of w l.child)) ⊎ IsIndexed w parent l i.field → Fits w p (with_under (l.field ∷ index_path l.index) new m)
      go (inl e) = rw e.0 (field_kept l.field (layout_of w p) i.field new m i.there f (subst (λ (k : Layout ℕ). HasFields k new) (sym e.2) g))
      go (inr e) =
          rw e.2
          (field_kept l.field (layout_of w p) i.field (with_item e.0 new (item l.field m)) m i.there f
          (subst (λ (k : Layout ℕ). HasFields k (with_item e.0 new (item l.field m))) (sym e.4)
          (items_kept (HasFields (layout_of w l.child)) e.0 new (item l.field m) g
          (subst (λ (k : Layout ℕ). HasFields k (item l.field m)) e.4 (field_there l.field (layout_of w p) i.field m i.there f).1))))

  -- ---- of all of them

  pub loan_parents : (bs : List BoundChild) (ls : List (Loan ℕ)) → AreLoans w p parent bs ls → HaveParent p ls
  loan_parents [] [] h = tt
  loan_parents [] (l ∷ ls) h = absurd h
  loan_parents (b ∷ bs) [] h = absurd h
  loan_parents (b ∷ bs) (l ∷ ls) h = (h.0.from, loan_parents bs ls h.1)

  pub loan_names : (bs : List BoundChild) (ls : List (Loan ℕ)) → AreLoans w p parent bs ls → children ls ≡ map (λ (b : BoundChild). b.name) bs
  loan_names [] [] h = refl
  loan_names [] (l ∷ ls) h = absurd h
  loan_names (b ∷ bs) [] h = absurd h
  loan_names (b ∷ bs) (l ∷ ls) h = rw (h.0.child, loan_names bs ls h.1) refl

  -- what the list of a child of this name is
  abbrev IsChild : ℕ → List ℕ → Type 0
  IsChild x path = IsPath path parent × Fits w x (list_under path parent) × ((m new : StobjList ℕ) → Fits w p m → Fits w x new → Fits w p (with_under path new m))

  loan_child : (bs : List BoundChild) (ls : List (Loan ℕ)) (x : ℕ) → AreLoans w p parent bs ls → has (children ls) x ≡ true → IsChild x (path_for ls x)
  loan_child [] [] x h i = false_true i
  loan_child [] (l ∷ ls) x h i = absurd h
  loan_child (b ∷ bs) [] x h i = absurd h
  loan_child (b ∷ bs) (l ∷ ls) x h i = go (nat_eq x l.child) refl i (loan_child bs ls x h.1)
    where
      go : (a : Bool) → nat_eq x l.child ≡ a → (a || has (children ls) x) ≡ true → (has (children ls) x ≡ true → IsChild x (path_for ls x)) → IsChild x (if a then path_of l else path_for ls x)
      go true e f later =
          subst (λ (z : ℕ). IsChild z (path_of l)) (sym (eqb-true x l.child e))
          (let first : IsPath (path_of l) parent × Fits w l.child (list_under (path_of l) parent) = loan_path b l h.0 in (first.0, first.1, loan_keeps b l h.0))
      go false e f later = later f

  -- two loans are of different children
  two_apart : (b d : BoundChild) (l m : Loan ℕ) → IsLoan w p parent b l → IsLoan w p parent d m → same_child b d ≡ false → (nat_eq l.field m.field && eval.same_index by_number l.index m.index) ≡ false → ArePathsApart (path_of l) (path_of m)
  two_apart b d l m i j s t = go (nat_eq l.field m.field) refl
    where
      go : (a : Bool) → nat_eq l.field m.field ≡ a → ArePathsApart (path_of l) (path_of m)
      go false e = inl (λ f. true_false (sym (same_number l.field) ∙ (ap (nat_eq l.field) f ∙ e)))
      go true e =
          let same : l.field ≡ m.field = eqb-true l.field m.field e in
          let fields : i.field ≡ j.field = field_one m.field (layout_of w p) i.field j.field (subst (λ (n : ℕ). IsField n (layout_of w p) i.field) same i.there) j.there in
          inr (same, by_kinds i.kind j.kind same fields)
        where
          by_kinds : ((l.index ≡ None) × (b.index ≡ None) × (i.field ≡ layout_of w l.child)) ⊎ IsIndexed w parent l i.field → ((m.index ≡ None) × (d.index ≡ None) × (j.field ≡ layout_of w m.child)) ⊎ IsIndexed w parent m j.field
              → l.field ≡ m.field → i.field ≡ j.field → ArePathsApart (index_path l.index) (index_path m.index)
          by_kinds (inl f) (inl g) same fields = true_false (sym (one_child b.index d.index f.1 g.1 (numbers same)) ∙ s)
            where
              numbers : l.field ≡ m.field → nat_eq b.accessor.field d.accessor.field ≡ true
              numbers e = rw (← i.number, ← j.number, e) (same_number m.field)

              one_child : (a q : Option Core) → a ≡ None → q ≡ None → nat_eq b.accessor.field d.accessor.field ≡ true → (nat_eq b.accessor.field d.accessor.field && same_constant_index a q) ≡ true
              one_child a q f g n = rw (f, g, n) refl
          by_kinds (inl f) (inr g) same fields = absurd (not_children w l.child g.1 (layout_of w m.child) (sym f.2 ∙ (fields ∙ g.4)))
          by_kinds (inr f) (inl g) same fields = absurd (not_children w m.child f.1 (layout_of w l.child) (sym g.2 ∙ (sym fields ∙ f.4)))
          by_kinds (inr f) (inr g) same fields = rw (f.2, g.2) (inl (λ e. true_false (sym (twins f.0 g.0 f.2 g.2 e (ap (nat_eq l.field) (sym same) ∙ same_number l.field)) ∙ t)))
            where
              twins : (a q : ℕ) → l.index ≡ Some (Integer (pos a)) → m.index ≡ Some (Integer (pos q)) → a ≡ q → nat_eq l.field m.field ≡ true → (nat_eq l.field m.field && eval.same_index by_number l.index m.index) ≡ true
              twins a q f g e n = rw (f, g, n, e) ((Decides-int_eq (pos q) (pos q)).1 refl)

  one_apart : (b : BoundChild) (l : Loan ℕ) (bs : List BoundChild) (ls : List (Loan ℕ)) → IsLoan w p parent b l → AreLoans w p parent bs ls → list_any (same_child b) bs ≡ false
      → list_any (λ (m : Loan ℕ). nat_eq l.field m.field && eval.same_index by_number l.index m.index) ls ≡ false → IsApartFrom (path_of l) ls
  one_apart b l [] [] i h s t = tt
  one_apart b l [] (m ∷ ms) i h s t = absurd h
  one_apart b l (d ∷ ds) [] i h s t = absurd h
  one_apart b l (d ∷ ds) (m ∷ ms) i h s t =
      let first : (same_child b d ≡ false) × (list_any (same_child b) ds ≡ false) = neither (same_child b d) (list_any (same_child b) ds) s in
      let second : ((nat_eq l.field m.field && eval.same_index by_number l.index m.index) ≡ false) × (list_any (λ (m : Loan ℕ). nat_eq l.field m.field && eval.same_index by_number l.index m.index) ms ≡ false)
      = neither (nat_eq l.field m.field && eval.same_index by_number l.index m.index) (list_any (λ (m : Loan ℕ). nat_eq l.field m.field && eval.same_index by_number l.index m.index) ms) t in
      (two_apart b d l m i h.0 first.0 second.0, one_apart b l ds ms i h.1 first.1 second.1)

  loans_apart : (bs : List BoundChild) (ls : List (Loan ℕ)) → AreLoans w p parent bs ls → bind_twice bs ≡ false → are_twins by_number ls ≡ false → HaveApartPaths ls
  loans_apart [] [] h s t = tt
  loans_apart [] (l ∷ ls) h s t = absurd h
  loans_apart (b ∷ bs) [] h s t = absurd h
  loans_apart (b ∷ bs) (l ∷ ls) h s t =
      let first : (list_any (same_child b) bs ≡ false) × (bind_twice bs ≡ false) = neither (list_any (same_child b) bs) (bind_twice bs) s in
      let second : (list_any (λ (m : Loan ℕ). nat_eq l.field m.field && eval.same_index by_number l.index m.index) ls ≡ false) × (are_twins by_number ls ≡ false)
      = neither (list_any (λ (m : Loan ℕ). nat_eq l.field m.field && eval.same_index by_number l.index m.index) ls) (are_twins by_number ls) t in
      (one_apart b l bs ls h.0 h.1 first.0 second.0, loans_apart bs ls h.1 first.1 second.1)

  pub are_lent : (bs : List BoundChild) (ls : List (Loan ℕ)) → AreLoans w p parent bs ls → repeats (p ∷ map (λ (b : BoundChild). b.name) bs) ≡ false → bind_twice bs ≡ false → are_twins by_number ls ≡ false → AreLent w p parent ls
  are_lent bs ls h r s t =
      let parts : (has (map (λ (b : BoundChild). b.name) bs) p ≡ false) × (repeats (map (λ (b : BoundChild). b.name) bs) ≡ false)
      = neither (has (map (λ (b : BoundChild). b.name) bs) p) (repeats (map (λ (b : BoundChild). b.name) bs)) r in
      record {
        parents = loan_parents bs ls h;
        apart = loans_apart bs ls h s t;
        once = ap repeats (loan_names bs ls h) ∙ parts.1;
        beside = ap (λ (ns : List ℕ). has ns p) (loan_names bs ls h) ∙ parts.0;
        paths = λ x i. (loan_child bs ls x h i).0;
        fits = λ x i. (loan_child bs ls x h i).1;
        keeps = λ x i. (loan_child bs ls x h i).2;
      }

-- ---- the rule

-- each child is one of stobj p, and has a name that is congruent to it
abbrev pub AreBound : World → ℕ → List BoundChild → Type 0
AreBound c p [] = Unit {0}
AreBound c p (b ∷ bs) = (b.parent ≡ p) × (congruent c b.accessor.stobj p ≡ true) × (congruent c (child_stobj b.accessor.holds) b.name ≡ true) × AreBound c p bs

pub record StobjLetHolds (c : World) (scope : Scope) (expected : List Out) (names : List ℕ) (forms : Cores) (vars : List ℕ) : Type 0 where
  pub bs : List BoundChild
  pub bound : bound_children c names forms ≡ Some bs
  pub parent : ℕ
  pub first : parent_in forms ≡ Some parent
  pub stobj : is_stobj (kind_of scope parent) ≡ true
  pub all : AreBound c parent bs
  pub distinct : repeats (parent ∷ map (λ (b : BoundChild). b.name) bs) ≡ false
  pub twice : bind_twice bs ≡ false
  pub children_only : (x : ℕ) → has vars x ≡ true → is_stobj_name c x ≡ true → has names x ≡ true
  pub parent_out : (x : ℕ) → has vars x ≡ true → has names x ≡ true → has (classes.stobjs expected) parent ≡ true

all_bound : (c : World) (scope : Scope) (p : ℕ) (bs : List BoundChild) → list_all (λ (b : BoundChild). nat_eq b.parent p && stands_for c scope p b.accessor.stobj) bs ≡ true
    → list_all (λ (b : BoundChild). congruent c (child_stobj b.accessor.holds) b.name) bs ≡ true → AreBound c p bs
all_bound c scope p [] h i = tt
all_bound c scope p (b ∷ bs) h i =
    let first : ((nat_eq b.parent p && stands_for c scope p b.accessor.stobj) ≡ true) × (list_all (λ (b : BoundChild). nat_eq b.parent p && stands_for c scope p b.accessor.stobj) bs ≡ true) = both_true _ _ h in
    let second : (congruent c (child_stobj b.accessor.holds) b.name ≡ true) × (list_all (λ (b : BoundChild). congruent c (child_stobj b.accessor.holds) b.name) bs ≡ true) = both_true _ _ i in
    let parent : (nat_eq b.parent p ≡ true) × (stands_for c scope p b.accessor.stobj ≡ true) = both_true (nat_eq b.parent p) (stands_for c scope p b.accessor.stobj) first.0 in
    let stands : (is_stobj (kind_of scope p) ≡ true) × (congruent c b.accessor.stobj p ≡ true) = both_true (is_stobj (kind_of scope p)) (congruent c b.accessor.stobj p) parent.1 in
    (eqb-true b.parent p parent.0, stands.1, second.0, all_bound c scope p bs first.1 second.1)

-- what a binding is
pub record IsBinding (c : World) (x : ℕ) (f : Core) (b : BoundChild) : Type 0 where
  pub by : Reached
  pub called : reached f ≡ Some by
  pub found : child_accessor c by.accessor ≡ Some b.accessor
  pub name : b.name ≡ x
  pub index : b.index ≡ by.index
  pub parent : b.parent ≡ by.parent
  pub takes : takes_index b.accessor.holds by.index ≡ true

binding_is : (c : World) (x : ℕ) (f : Core) (b : BoundChild) → bound_child c x f ≡ Some b → IsBinding c x f b
binding_is c x f b e = go (reached f) refl e
  where
    go : (r : Option Reached) → reached f ≡ r → option_and_then (λ r. option_and_then (bound_child_by x r) (child_accessor c r.accessor)) r ≡ Some b → IsBinding c x f b
    go None i h = none_some h
    go (Some r) i h = by_accessor (child_accessor c r.accessor) refl h
      where
        by_accessor : (a : Option ChildAccessor) → child_accessor c r.accessor ≡ a → option_and_then (bound_child_by x r) a ≡ Some b → IsBinding c x f b
        by_accessor None j k = none_some k
        by_accessor (Some a) j k = by_index (takes_index a.holds r.index) refl k
          where
            by_index : (t : Bool) → takes_index a.holds r.index ≡ t → (if t then Some (record { name = x; accessor = a; index = r.index; parent = r.parent }) else None) ≡ Some b → IsBinding c x f b
            by_index true l m =
                subst (λ (d : BoundChild). IsBinding c x f d) (some_same m) (record { by = r; called = i; found = j; name = refl; index = refl; parent = refl; takes = l })
            by_index false l m = none_some m

-- bindings one after another
pub record AreBindings (c : World) (x : ℕ) (xs : List ℕ) (f : Core) (fs : Cores) (bs : List BoundChild) : Type 0 where
  pub first : BoundChild
  pub others : List BoundChild
  pub all : bs ≡ first ∷ others
  pub is : IsBinding c x f first
  pub later : bound_children c xs fs ≡ Some others

pub bindings_are : (c : World) (x : ℕ) (xs : List ℕ) (f : Core) (fs : Cores) (bs : List BoundChild) → bound_children c (x ∷ xs) (more f fs) ≡ Some bs → AreBindings c x xs f fs bs
bindings_are c x xs f fs bs e = go (bound_child c x f) refl e
  where
    go : (b : Option BoundChild) → bound_child c x f ≡ b → with_bound_child b (bound_children c xs fs) ≡ Some bs → AreBindings c x xs f fs bs
    go None i h = none_some h
    go (Some b) i h = by_rest (bound_children c xs fs) refl h
      where
        by_rest : (r : Option (List BoundChild)) → bound_children c xs fs ≡ r → option_map (λ bs. b ∷ bs) r ≡ Some bs → AreBindings c x xs f fs bs
        by_rest None j k = none_some k
        by_rest (Some rest) j k = record { first = b; others = rest; all = sym (some_same k); is = binding_is c x f b i; later = j }

pub names_bound : (c : World) (xs : List ℕ) (fs : Cores) (bs : List BoundChild) → bound_children c xs fs ≡ Some bs → map (λ (b : BoundChild). b.name) bs ≡ xs
names_bound c [] none bs e = ap (λ (bs : List BoundChild). map (λ (b : BoundChild). b.name) bs) (sym (some_same e))
names_bound c [] (more f fs) bs e = none_some e
names_bound c (x ∷ xs) none bs e = none_some e
names_bound c (x ∷ xs) (more f fs) bs e =
    let h : AreBindings c x xs f fs bs = bindings_are c x xs f fs bs e in
    rw h.all (one_more h.first h.others h.is.name (names_bound c xs fs h.others h.later))
  where
    one_more : (b : BoundChild) (bs : List BoundChild) → b.name ≡ x → map (λ (b : BoundChild). b.name) bs ≡ xs → b.name ∷ map (λ (b : BoundChild). b.name) bs ≡ x ∷ xs
    one_more b bs f g = rw (f, g) refl

first_parent : (c : World) (names : List ℕ) (forms : Cores) (b : BoundChild) (bs : List BoundChild) → bound_children c names forms ≡ Some (b ∷ bs) → parent_in forms ≡ Some b.parent
first_parent c [] none b bs e = cc
first_parent c [] (more f fs) b bs e = none_some e
first_parent c (x ∷ xs) none b bs e = none_some e
first_parent c (x ∷ xs) (more f fs) b bs e =
    let h : AreBindings c x xs f fs (b ∷ bs) = bindings_are c x xs f fs (b ∷ bs) e in
    ap (option_map (λ (r : Reached). r.parent)) h.is.called ∙ ap (λ (n : ℕ). Some n) (sym h.is.parent ∙ ap (λ (d : BoundChild). d.parent) (sym (heads h.all)))
  where
    heads : {a q : BoundChild} {rs qs : List BoundChild} → a ∷ rs ≡ q ∷ qs → a ≡ q
    heads f = cc

pub stobj_let_is : (c : World) (scope : Scope) (expected : List Out) (names : List ℕ) (forms : Cores) (vars : List ℕ) → stobj_let_holds c scope expected names forms vars ≡ true → StobjLetHolds c scope expected names forms vars
unfolding stobj_let_holds
stobj_let_is c scope expected names forms vars e = go (bound_children c names forms) refl e
  where
    vars_only : (vs : List ℕ) → are_vars c names vs ≡ true → (x : ℕ) → has vs x ≡ true → is_stobj_name c x ≡ true → has names x ≡ true
    vars_only [] h x i o = false_true i
    vars_only (v ∷ vs) h x i o =
        let both : (not (repeats (v ∷ vs)) ≡ true) × (list_all (λ x. has names x || not (is_stobj_name c x)) (v ∷ vs) ≡ true) = both_true (not (repeats (v ∷ vs))) (list_all (λ x. has names x || not (is_stobj_name c x)) (v ∷ vs)) h in
        either (has names x) (is_stobj_name c x) (all_has (λ x. has names x || not (is_stobj_name c x)) (v ∷ vs) x both.1 i) o
      where
        either : (a b : Bool) → (a || not b) ≡ true → b ≡ true → a ≡ true
        either true b f g = refl
        either false true f g = false_true f
        either false false f g = false_true g

    any_has : (vs : List ℕ) (x : ℕ) → has vs x ≡ true → has names x ≡ true → list_any (has names) vs ≡ true
    any_has [] x i j = false_true i
    any_has (v ∷ vs) x i j = by_name (nat_eq x v) refl i (any_has vs x)
      where
        by_name : (b : Bool) → nat_eq x v ≡ b → (b || has vs x) ≡ true → (has vs x ≡ true → has names x ≡ true → list_any (has names) vs ≡ true) → (has names v || list_any (has names) vs) ≡ true
        by_name true f g later = rw (ap (has names) (sym (eqb-true x v f)) ∙ j) refl
        by_name false f g later = either (has names v) (later g j)
          where
            either : (a : Bool) → list_any (has names) vs ≡ true → (a || list_any (has names) vs) ≡ true
            either true k = refl
            either false k = k

    out_is : (p : ℕ) → parent_expected names vars p expected ≡ true → (x : ℕ) → has vars x ≡ true → has names x ≡ true → has (classes.stobjs expected) p ≡ true
    out_is p h x i j = implied (list_any (has names) vars) (has (classes.stobjs expected) p) h (any_has vars x i j)
      where
        implied : (a b : Bool) → (not a || b) ≡ true → a ≡ true → b ≡ true
        implied true b f g = f
        implied false b f g = false_true g

    go : (bs : Option (List BoundChild)) → bound_children c names forms ≡ bs → bindings_hold c scope expected names vars bs ≡ true → StobjLetHolds c scope expected names forms vars
    go None i h = false_true h
    go (Some []) i h = false_true h
    go (Some (b ∷ bs)) i h =
        let p : ℕ = b.parent in
        let one : (have_parent c scope p (b ∷ bs) ≡ true) × ((have_names c p (b ∷ bs) && (have_indices scope vars (b ∷ bs) && (not (bind_twice (b ∷ bs)) && (are_vars c names vars && parent_expected names vars p expected)))) ≡ true)
        = both_true (have_parent c scope p (b ∷ bs)) (have_names c p (b ∷ bs) && (have_indices scope vars (b ∷ bs) && (not (bind_twice (b ∷ bs)) && (are_vars c names vars && parent_expected names vars p expected)))) h in
        let two : (have_names c p (b ∷ bs) ≡ true) × ((have_indices scope vars (b ∷ bs) && (not (bind_twice (b ∷ bs)) && (are_vars c names vars && parent_expected names vars p expected))) ≡ true)
        = both_true (have_names c p (b ∷ bs)) (have_indices scope vars (b ∷ bs) && (not (bind_twice (b ∷ bs)) && (are_vars c names vars && parent_expected names vars p expected))) one.1 in
        let three : (have_indices scope vars (b ∷ bs) ≡ true) × ((not (bind_twice (b ∷ bs)) && (are_vars c names vars && parent_expected names vars p expected)) ≡ true)
        = both_true (have_indices scope vars (b ∷ bs)) (not (bind_twice (b ∷ bs)) && (are_vars c names vars && parent_expected names vars p expected)) two.1 in
        let four : (not (bind_twice (b ∷ bs)) ≡ true) × ((are_vars c names vars && parent_expected names vars p expected) ≡ true)
        = both_true (not (bind_twice (b ∷ bs))) (are_vars c names vars && parent_expected names vars p expected) three.1 in
        let five : (are_vars c names vars ≡ true) × (parent_expected names vars p expected ≡ true) = both_true (are_vars c names vars) (parent_expected names vars p expected) four.1 in
        let distinct : (not (repeats (p ∷ map (λ (b : BoundChild). b.name) (b ∷ bs))) ≡ true) × (list_all (λ (b : BoundChild). congruent c (child_stobj b.accessor.holds) b.name) (b ∷ bs) ≡ true)
        = both_true (not (repeats (p ∷ map (λ (b : BoundChild). b.name) (b ∷ bs)))) (list_all (λ (b : BoundChild). congruent c (child_stobj b.accessor.holds) b.name) (b ∷ bs)) two.0 in
        let stands : (is_stobj (kind_of scope p) ≡ true) × (congruent c b.accessor.stobj p ≡ true)
        = both_true (is_stobj (kind_of scope p)) (congruent c b.accessor.stobj p) (both_true (nat_eq b.parent p) (stands_for c scope p b.accessor.stobj) (both_true (nat_eq b.parent p && stands_for c scope p b.accessor.stobj) (have_parent c scope p bs) one.0).0).1 in
        record {
          bs = b ∷ bs;
          bound = i;
          parent = p;
          first = first_parent c names forms b bs i;
          stobj = stands.0;
          all = all_bound c scope p (b ∷ bs) one.0 distinct.1;
          distinct = not_true (repeats (p ∷ map (λ (b : BoundChild). b.name) (b ∷ bs))) distinct.0;
          twice = not_true (bind_twice (b ∷ bs)) four.0;
          children_only = vars_only vars five.0;
          parent_out = out_is p five.1;
        }

-- the index of a loan suits its field
pub index_kind : (holds : HeldStobjs) (index : Option Core) → takes_index holds index ≡ true → ((x : ℕ) × (holds ≡ One x) × (index ≡ None)) ⊎ ((x : ℕ) × (i : Core) × (holds ≡ Many x) × (index ≡ Some i))
index_kind (One x) None e = inl (x, refl, refl)
index_kind (One x) (Some i) e = false_true e
index_kind (Many x) None e = false_true e
index_kind (Many x) (Some i) e = inr (x, i, refl, refl)

-- an index that was reached is a number below the length
pub reached_number : (o : Object ℕ) (n : ℕ) → is_index o n ≡ true → (m : ℕ) × (o ≡ Integer (pos m)) × (m < n)
reached_number (Integer (pos m)) n e = (m, refl, ltb-true m n e)
reached_number (Integer (negsuc m)) n e = false_true e
reached_number (Symbol s) n e = false_true e
reached_number (Text b) n e = false_true e
reached_number (Pair a d) n e = false_true e
