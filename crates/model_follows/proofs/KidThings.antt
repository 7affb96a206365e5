-- Children in the logic: read from their parent, and put back.
use Rattle.std.proofs.Common.{◌≡◌, ℕ, zero, suc, ◌<◌, List, [], ◌∷◌, ◌++◌, map, Bool, true, false, None, refl, sym, ap, ◌∙◌, subst, inl, inr, arith, sub-one}
use Rattle.std.specs.Prelude.{◌≢◌, ◌⊎◌, ◌&&◌, ◌||◌, nat_eq, option_map, if◌then◌else◌}
use Rattle.std.proofs.lemmas.Bool.{eqb-true}
use Rattle.std.proofs.lemmas.Bool.Decides.{nat_tests}
use Rattle.model_objects.specs.Object.{Object, named}
use Rattle.model_symbols.specs.Symbols.{QualifiedName}
use Rattle.model_prims.specs.Kinds.{by_number, by_name}
use Rattle.model_prims.specs.Lists.{len, element, updated}
use Rattle.model_prims.proofs.ByName.{IsNaming}
use Rattle.model_prims.proofs.NamingLemmas.{element_named, updated_named}
use Rattle.model_lists.specs.Lists.{StobjList, Value, Pairs, End, Item, size, item, with_item, as_object}
use Rattle.model_lists.specs.Layouts.{Layout, Scalar, Array, Hash, Children, NoField, Field, every, recognizes}
use Rattle.model_lists.specs.LiveLists.{AllItems, HasFields}
use Rattle.model_lists_laws.proofs.LogicalLemmas.{is_logical}
use Rattle.model_terms.specs.Worlds.{World}
use Rattle.model_terms.specs.Classes.{has}
use Rattle.model_terms.specs.Nested.{BoundChild}
use Rattle.model_eval.specs.Keeping.{Loan}
use Rattle.model_eval.specs.Outcomes.{Stobjs}
use Rattle.model_eval.specs.Variables.{list_of}
use Rattle.model_eval.specs.Lending.{child_in, with_child, lent}
use Rattle.model_eval.specs.PlacesKeeping.{with_under}
use Rattle.model_logic.specs.Logic.{Thing, Values, value_in, with_children, put_loans, with_parent}
use Rattle.model_logic.specs.LogicFunctions.{child_stobj, with_child_stobj}
use Rattle.model_eval_laws.proofs.Lists.{same_number}
use Rattle.model_accepted.specs.Threaded.{layout_of, IsField, Fits}
use Rattle.model_accepted.specs.Loans.{children, path_of, merged, loans_among}
use Rattle.model_accepted.proofs.AcceptLemmas.{both_true, false_true}
use Rattle.model_in_place.proofs.ObjectLemmas.{not_equal}
use Rattle.model_in_place.proofs.LoanLemmas.{with_child_is}
use Rattle.model_accepted.proofs.KidLemmas.{IsIndexed, IsLoan, AreLoans, loan_keeps}
use Rattle.model_follows.specs.FollowedWorlds.{ListSymbols}
use Rattle.model_follows.proofs.EffectThings.{item_known, with_known, all_are_items, every_with, len_with}

-- ---- fields that are there, without any field too

not_zero : (n : ℕ) → nat_eq (suc n) 0 ≡ false
not_zero n = grind (arith, nat_tests)

-- what is known of a field
pub record At (n : ℕ) (whole field : Layout ℕ) (l : StobjList ℕ) : Type 0 where
  pub below : n < size l
  pub access : element by_number n (as_object by_number l) ≡ as_object by_number (item n l)
  pub fits : HasFields field (item n l)
  pub recognized : recognizes by_number whole (as_object by_number l) ≡ true → recognizes by_number field (as_object by_number (item n l)) ≡ true
  pub written : (new : StobjList ℕ) → recognizes by_number whole (as_object by_number l) ≡ true → recognizes by_number field (as_object by_number new) ≡ true → recognizes by_number whole (as_object by_number (with_item n new l)) ≡ true

pub field_at : (n : ℕ) (whole field : Layout ℕ) (l : StobjList ℕ) → IsField n whole field → HasFields whole l → At n whole field l
field_at n (Scalar t o) field l i h = absurd i
field_at n (Array t o m resizable) field l i h = absurd i
field_at n (Hash test) field l i h = absurd i
field_at n (Children m child) field l i h = absurd i
field_at n NoField field l i h = absurd i
field_at n (Field first others) field (Value o) i h = absurd h
field_at n (Field first others) field (Pairs ps) i h = absurd h
field_at n (Field first others) field End i h = absurd h
field_at zero (Field first others) field (Item x rest) i h = record {
  below = omega arith;
  access = refl;
  fits = subst (λ (m : Layout ℕ). HasFields m x) i h.0;
  recognized = λ r. ap (λ (m : Layout ℕ). recognizes by_number m (as_object by_number x)) (sym i) ∙ (both_true (recognizes by_number first (as_object by_number x)) (recognizes by_number others (as_object by_number rest)) r).0;
  written = λ new r e.
      ap (λ (b : Bool). b && recognizes by_number others (as_object by_number rest)) (ap (λ (m : Layout ℕ). recognizes by_number m (as_object by_number new)) i ∙ e)
      ∙ (both_true (recognizes by_number first (as_object by_number x)) (recognizes by_number others (as_object by_number rest)) r).1;
}
field_at (suc n) (Field first others) field (Item x rest) i h =
    let a : At n others field rest = field_at n others field rest i h.1 in
    record {
      below = omega (arith, a.below);
      access = rw (not_zero n, sub-one) a.access;
      fits = a.fits;
      recognized = λ r. a.recognized (both_true (recognizes by_number first (as_object by_number x)) (recognizes by_number others (as_object by_number rest)) r).1;
      written = λ new r e.
          ap (λ (b : Bool). b && recognizes by_number others (as_object by_number (with_item n new rest))) (both_true (recognizes by_number first (as_object by_number x)) (recognizes by_number others (as_object by_number rest)) r).0
          ∙ a.written new (both_true (recognizes by_number first (as_object by_number x)) (recognizes by_number others (as_object by_number rest)) r).1 e;
    }

every_item : (p : Object ℕ → Bool) (n : ℕ) (l : StobjList ℕ) → n < size l → every by_number p (as_object by_number l) ≡ true → p (as_object by_number (item n l)) ≡ true
every_item p n (Value o) i h = absurd (omega arith)
every_item p n (Pairs ps) i h = absurd (omega arith)
every_item p n End i h = absurd (omega arith)
every_item p zero (Item first rest) i h = (both_true (p (as_object by_number first)) (every by_number p (as_object by_number rest)) h).0
every_item p (suc n) (Item first rest) i h = every_item p n rest (omega arith) (both_true (p (as_object by_number first)) (every by_number p (as_object by_number rest)) h).1

-- the length that children have
children_long : (child : Layout ℕ) (m : ℕ) (a : StobjList ℕ) → HasFields (Children m child) a → recognizes by_number (Children m child) (as_object by_number a) ≡ true → size a ≡ m
children_long child m a h r =
    sym ((is_logical by_number).length a (all_are_items (HasFields child) a h))
    ∙ eqb-true (len (as_object by_number a)) m (both_true (every by_number (recognizes by_number child) (as_object by_number a)) (nat_eq (len (as_object by_number a)) m) r).1

-- ---- one loan

abbrev pub named_loan : (ℕ → QualifiedName) → Loan ℕ → Loan QualifiedName
named_loan f l = record { child = l.child; parent = l.parent; field = l.field; index = option_map (named f) l.index }

module _ (w : World) (p : ℕ) (parent : StobjList ℕ) (f : ℕ → QualifiedName) (P : ℕ → Type 0) (n : IsNaming f P) (parent_fits : Fits w p parent) (parent_rec : recognizes by_number (layout_of w p) (as_object by_number parent) ≡ true)
    (parent_known : ListSymbols P parent) where
  abbrev N : Object ℕ → Thing
  N o = named f o

  abbrev T : StobjList ℕ → Thing
  T l = named f (as_object by_number l)

  -- a list that the stobj of this name may have
  pub record Good (x : ℕ) (l : StobjList ℕ) : Type 0 where
    pub fits : Fits w x l
    pub recognized : recognizes by_number (layout_of w x) (as_object by_number l) ≡ true
    pub known : ListSymbols P l

  -- the child of a loan, and the logic's
  pub child_good : (b : BoundChild) (l : Loan ℕ) → IsLoan w p parent b l → Good l.child (child_in l.index (item l.field parent)) × (child_stobj by_name l.field (option_map (named f) l.index) (T parent) ≡ T (child_in l.index (item l.field parent)))
  child_good b l i = go i.kind
    where
      at : At l.field (layout_of w p) i.field parent
      at = field_at l.field (layout_of w p) i.field parent i.there parent_fits

      field_is : element by_name l.field (T parent) ≡ T (item l.field parent)
      field_is = element_named f P n l.field (as_object by_number parent) ∙ ap N at.access

      go : ((l.index ≡ None) × (b.index ≡ None) × (i.field ≡ layout_of w l.child)) ⊎ IsIndexed w parent l i.field
          → Good l.child (child_in l.index (item l.field parent)) × (child_stobj by_name l.field (option_map (named f) l.index) (T parent) ≡ T (child_in l.index (item l.field parent)))
      go (inl e) =
          rw e.0 (
            record {
              fits = subst (λ (m : Layout ℕ). HasFields m (item l.field parent)) e.2 at.fits;
              recognized = subst (λ (m : Layout ℕ). recognizes by_number m (as_object by_number (item l.field parent)) ≡ true) e.2 (at.recognized parent_rec);
              known = item_known P l.field parent parent_known;
            },
            field_is,
          )
      go (inr e) =
          let fits_there : HasFields (Children e.1 (layout_of w l.child)) (item l.field parent) = subst (λ (m : Layout ℕ). HasFields m (item l.field parent)) e.4 at.fits in
          let rec_there : recognizes by_number (Children e.1 (layout_of w l.child)) (as_object by_number (item l.field parent)) ≡ true
          = subst (λ (m : Layout ℕ). recognizes by_number m (as_object by_number (item l.field parent)) ≡ true) e.4 (at.recognized parent_rec) in
          rw e.2 (
            record {
              fits = item_fits (item l.field parent) e.0 e.3 fits_there;
              recognized =
                  every_item (recognizes by_number (layout_of w l.child)) e.0 (item l.field parent) e.3
                  (both_true (every by_number (recognizes by_number (layout_of w l.child)) (as_object by_number (item l.field parent))) (nat_eq (len (as_object by_number (item l.field parent))) e.1) rec_there).0;
              known = item_known P e.0 (item l.field parent) (item_known P l.field parent parent_known);
            },
            ap (λ (z : Thing). element by_name e.0 z) field_is
                ∙ (element_named f P n e.0 (as_object by_number (item l.field parent))
                ∙ ap N (sym ((is_logical by_number).access e.0 (item l.field parent) (all_are_items (HasFields (layout_of w l.child)) (item l.field parent) fits_there)))),
          )
        where
          item_fits : (a : StobjList ℕ) (k : ℕ) → k < size a → AllItems (HasFields (layout_of w l.child)) a → HasFields (layout_of w l.child) (item k a)
          item_fits (Value o) k i h = absurd h
          item_fits (Pairs ps) k i h = absurd h
          item_fits End k i h = absurd (omega arith)
          item_fits (Item first rest) zero i h = h.0
          item_fits (Item first rest) (suc k) i h = item_fits rest k (omega arith) h.1

  -- a child put into its parent, which may have other children than at first
  pub parent_good : (b : BoundChild) (l : Loan ℕ) → IsLoan w p parent b l → (m new : StobjList ℕ) → Good p m → Good l.child new
      → Good p (with_under (path_of l) new m) × (with_child_stobj by_name l.field (option_map (named f) l.index) (T new) (T m) ≡ T (with_under (path_of l) new m))
  parent_good b l i m new g k =
      subst (λ (z : StobjList ℕ). Good p z × (with_child_stobj by_name l.field (option_map (named f) l.index) (T new) (T m) ≡ T z)) (with_child_is l new m)
      (go i.kind)
    where
      at : At l.field (layout_of w p) i.field m
      at = field_at l.field (layout_of w p) i.field m i.there g.fits

      first_at : At l.field (layout_of w p) i.field parent
      first_at = field_at l.field (layout_of w p) i.field parent i.there parent_fits

      field_is : element by_name l.field (T m) ≡ T (item l.field m)
      field_is = element_named f P n l.field (as_object by_number m) ∙ ap N at.access

      fits_after : Fits w p (with_child l new m)
      fits_after = subst (Fits w p) (sym (with_child_is l new m)) (loan_keeps w p parent parent_fits b l i m new g.fits k.fits)

      go : ((l.index ≡ None) × (b.index ≡ None) × (i.field ≡ layout_of w l.child)) ⊎ IsIndexed w parent l i.field
          → Good p (with_child l new m) × (with_child_stobj by_name l.field (option_map (named f) l.index) (T new) (T m) ≡ T (with_child l new m))
      go (inl e) = (
        record {
          fits = fits_after;
          recognized = rw e.0 (at.written new g.recognized (subst (λ (q : Layout ℕ). recognizes by_number q (as_object by_number new) ≡ true) (sym e.2) k.recognized));
          known = rw e.0 (with_known P l.field new m k.known g.known);
        },
        rw e.0 (updated_named f P n l.field (as_object by_number new) (as_object by_number m) ∙ ap N (sym ((is_logical by_number).update l.field new m at.below))),
      )
      go (inr e) =
          let a : StobjList ℕ = item l.field m in
          let fits_there : HasFields (Children e.1 (layout_of w l.child)) a = subst (λ (q : Layout ℕ). HasFields q a) e.4 at.fits in
          let rec_there : recognizes by_number (Children e.1 (layout_of w l.child)) (as_object by_number a) ≡ true = subst (λ (q : Layout ℕ). recognizes by_number q (as_object by_number a) ≡ true) e.4 (at.recognized g.recognized) in
          let fits_first : HasFields (Children e.1 (layout_of w l.child)) (item l.field parent) = subst (λ (q : Layout ℕ). HasFields q (item l.field parent)) e.4 first_at.fits in
          let rec_first : recognizes by_number (Children e.1 (layout_of w l.child)) (as_object by_number (item l.field parent)) ≡ true
          = subst (λ (q : Layout ℕ). recognizes by_number q (as_object by_number (item l.field parent)) ≡ true) e.4 (first_at.recognized parent_rec) in
          let within : e.0 < size a
          = subst (λ (z : ℕ). e.0 < z) (children_long (layout_of w l.child) e.1 (item l.field parent) fits_first rec_first ∙ sym (children_long (layout_of w l.child) e.1 a fits_there rec_there)) e.3 in
          let was : (every by_number (recognizes by_number (layout_of w l.child)) (as_object by_number a) ≡ true) × (nat_eq (len (as_object by_number a)) e.1 ≡ true)
          = both_true (every by_number (recognizes by_number (layout_of w l.child)) (as_object by_number a)) (nat_eq (len (as_object by_number a)) e.1) rec_there in (
            record {
              fits = fits_after;
              recognized =
                  rw e.2 (at.written (with_item e.0 new a) g.recognized
                  (subst (λ (q : Layout ℕ). recognizes by_number q (as_object by_number (with_item e.0 new a)) ≡ true) (sym e.4)
                  (both_now (every by_number (recognizes by_number (layout_of w l.child)) (as_object by_number (with_item e.0 new a))) (nat_eq (len (as_object by_number (with_item e.0 new a))) e.1)
                  (every_with (recognizes by_number (layout_of w l.child)) e.0 new a was.0 k.recognized) (ap (λ (z : ℕ). nat_eq z e.1) (len_with e.0 new a) ∙ was.1))));
              known = rw e.2 (with_known P l.field (with_item e.0 new a) m (with_known P e.0 new a k.known (item_known P l.field m g.known)) g.known);
            },
            rw e.2
                (ap (λ (z : Thing). updated by_name l.field (updated by_name e.0 (T new) z) (T m)) field_is
                ∙ (ap (λ (z : Thing). updated by_name l.field z (T m)) (updated_named f P n e.0 (as_object by_number new) (as_object by_number a) ∙ ap N (sym ((is_logical by_number).update e.0 new a within)))
                ∙ (updated_named f P n l.field (as_object by_number (with_item e.0 new a)) (as_object by_number m) ∙ ap N (sym ((is_logical by_number).update l.field (with_item e.0 new a) m at.below))))),
          )
        where
          both_now : (a b : Bool) → a ≡ true → b ≡ true → (a && b) ≡ true
          both_now true b e h = h
          both_now false b e h = e

  -- ---- all loans

  -- each is one of a bound child
  abbrev pub EachLoan : List (Loan ℕ) → Type 0
  EachLoan [] = Unit {0}
  EachLoan (l ∷ ls) = ((b : BoundChild) × IsLoan w p parent b l) × EachLoan ls

  pub each_loan : (bs : List BoundChild) (ls : List (Loan ℕ)) → AreLoans w p parent bs ls → EachLoan ls
  each_loan [] [] h = tt
  each_loan [] (l ∷ ls) h = absurd h
  each_loan (b ∷ bs) [] h = absurd h
  each_loan (b ∷ bs) (l ∷ ls) h = ((b, h.0), each_loan bs ls h.1)

  pub each_among : (vars : List ℕ) (ls : List (Loan ℕ)) → EachLoan ls → EachLoan (loans_among vars ls)
  each_among vars [] h = tt
  each_among vars (l ∷ ls) h = go (has vars l.child) (each_among vars ls h.1)
    where
      go : (b : Bool) → EachLoan (loans_among vars ls) → EachLoan (if b then l ∷ loans_among vars ls else loans_among vars ls)
      go true later = (h.0, later)
      go false later = later

  -- the children in scope
  pub kid_good : (ls : List (Loan ℕ)) (os more : Stobjs ℕ) (values : Values) (x : ℕ) → EachLoan ls → list_of os p ≡ parent → value_in values p ≡ T parent → has (children ls) x ≡ true
      → Good x (list_of (lent ls os ++ more) x) × (value_in (with_children (map (named_loan f) ls) values) x ≡ T (list_of (lent ls os ++ more) x))
  kid_good [] os more values x h e v i = false_true i
  kid_good (l ∷ ls) os more values x h e v i = go (nat_eq x l.child) refl i (kid_good ls os more values x h.1 e v)
    where
      loan : IsLoan w p parent h.0.0 l
      loan = h.0.1

      first : StobjList ℕ
      first = child_in l.index (item l.field (list_of os l.parent))

      first_is : first ≡ child_in l.index (item l.field parent)
      first_is = ap (λ (z : ℕ). child_in l.index (item l.field (list_of os z))) loan.from ∙ ap (λ (m : StobjList ℕ). child_in l.index (item l.field m)) e

      go : (b : Bool) → nat_eq x l.child ≡ b → (b || has (children ls) x) ≡ true
          → (has (children ls) x ≡ true → Good x (list_of (lent ls os ++ more) x) × (value_in (with_children (map (named_loan f) ls) values) x ≡ T (list_of (lent ls os ++ more) x)))
          → Good x (if b then first else list_of (lent ls os ++ more) x)
          × ((if b then child_stobj by_name l.field (option_map (named f) l.index) (value_in values l.parent) else value_in (with_children (map (named_loan f) ls) values) x) ≡ T (if b then first else list_of (lent ls os ++ more) x))
      go true g j later =
          let both : Good l.child (child_in l.index (item l.field parent)) × (child_stobj by_name l.field (option_map (named f) l.index) (T parent) ≡ T (child_in l.index (item l.field parent))) = child_good h.0.0 l loan in (
            subst (λ (z : StobjList ℕ). Good x z) (sym first_is) (subst (λ (z : ℕ). Good z (child_in l.index (item l.field parent))) (sym (eqb-true x l.child g)) both.0),
            ap (λ (z : ℕ). child_stobj by_name l.field (option_map (named f) l.index) (value_in values z)) loan.from
                ∙ (ap (child_stobj by_name l.field (option_map (named f) l.index)) v ∙ (both.1 ∙ ap T (sym first_is))),
          )
      go false g j later = later j

  pub kid_other : (ls : List (Loan ℕ)) (values : Values) (x : ℕ) → has (children ls) x ≡ false → value_in (with_children (map (named_loan f) ls) values) x ≡ value_in values x
  kid_other [] values x h = refl
  kid_other (l ∷ ls) values x h = go (nat_eq x l.child) h (kid_other ls values x)
    where
      go : (b : Bool) → (b || has (children ls) x) ≡ false → (has (children ls) x ≡ false → value_in (with_children (map (named_loan f) ls) values) x ≡ value_in values x)
          → (if b then child_stobj by_name l.field (option_map (named f) l.index) (value_in values l.parent) else value_in (with_children (map (named_loan f) ls) values) x) ≡ value_in values x
      go true g later = cc
      go false g later = later g

  -- the loans that are put back
  pub put_named : (vars : List ℕ) (ls : List (Loan ℕ)) → put_loans vars (map (named_loan f) ls) ≡ map (named_loan f) (loans_among vars ls)
  put_named vars [] = refl
  put_named vars (l ∷ ls) = go (has vars l.child) (put_named vars ls)
    where
      go : (b : Bool) → put_loans vars (map (named_loan f) ls) ≡ map (named_loan f) (loans_among vars ls)
          → (if b then named_loan f l ∷ put_loans vars (map (named_loan f) ls) else put_loans vars (map (named_loan f) ls)) ≡ map (named_loan f) (if b then l ∷ loans_among vars ls else loans_among vars ls)
      go true e = ap (λ (ms : List (Loan QualifiedName)). named_loan f l ∷ ms) e
      go false e = e

  -- their parent, once they are put back
  pub raised_good : (ls : List (Loan ℕ)) (kids : Stobjs ℕ) (bindings values : Values) (m : StobjList ℕ) → EachLoan ls
      → ((x : ℕ) → has (children ls) x ≡ true → Good x (list_of kids x) × (value_in bindings x ≡ T (list_of kids x))) → Good p m → value_in values p ≡ T m
      → Good p (merged ls kids m) × (value_in (with_parent (map (named_loan f) ls) bindings values) p ≡ T (merged ls kids m))
  raised_good [] kids bindings values m h k g v = (g, v)
  raised_good (l ∷ ls) kids bindings values m h k g v =
      let loan : IsLoan w p parent h.0.0 l = h.0.1 in
      let kid : Good l.child (list_of kids l.child) × (value_in bindings l.child ≡ T (list_of kids l.child)) = k l.child (ap (λ (b : Bool). b || has (children ls) l.child) (same_number l.child)) in
      let both : Good p (with_under (path_of l) (list_of kids l.child) m) × (with_child_stobj by_name l.field (option_map (named f) l.index) (T (list_of kids l.child)) (T m) ≡ T (with_under (path_of l) (list_of kids l.child) m))
      = parent_good h.0.0 l loan m (list_of kids l.child) g kid.0 in
      raised_good ls kids bindings ((l.parent, with_child_stobj by_name l.field (option_map (named f) l.index) (value_in bindings l.child) (value_in values l.parent)) ∷ values) (with_under (path_of l) (list_of kids l.child) m) h.1
      (λ x i. k x (later (nat_eq x l.child) i)) both.0
      (ap (λ (b : Bool). if b then with_child_stobj by_name l.field (option_map (named f) l.index) (value_in bindings l.child) (value_in values l.parent) else value_in values p) (ap (nat_eq p) loan.from ∙ same_number p)
      ∙ (ap (λ (z : Thing). with_child_stobj by_name l.field (option_map (named f) l.index) z (value_in values l.parent)) kid.1
      ∙ (ap (λ (z : Thing). with_child_stobj by_name l.field (option_map (named f) l.index) (T (list_of kids l.child)) z) (ap (value_in values) loan.from ∙ v) ∙ both.1)))
    where
      later : (b : Bool) {y : Bool} → y ≡ true → (b || y) ≡ true
      later true e = refl
      later false e = e

  pub raised_other : (ls : List (Loan ℕ)) (bindings values : Values) (x : ℕ) → EachLoan ls → x ≢ p → value_in (with_parent (map (named_loan f) ls) bindings values) x ≡ value_in values x
  raised_other [] bindings values x h d = refl
  raised_other (l ∷ ls) bindings values x h d =
      let loan : IsLoan w p parent h.0.0 l = h.0.1 in
      let more : Values = (l.parent, with_child_stobj by_name l.field (option_map (named f) l.index) (value_in bindings l.child) (value_in values l.parent)) ∷ values in
      raised_other ls bindings more x h.1 d
      ∙ ap (λ (b : Bool). if b then with_child_stobj by_name l.field (option_map (named f) l.index) (value_in bindings l.child) (value_in values l.parent) else value_in values x) (ap (nat_eq x) loan.from ∙ not_equal x p d)
