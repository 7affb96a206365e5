-- The functions that a form calls stand: in the world of its expansion, and where the same names stand.
use Rattle.std.proofs.Common.{◌≡◌, ℕ, List, [], ◌∷◌, ◌++◌, map, Bool, true, false, Option, Some, None, refl, sym, ap, ◌∙◌}
use Rattle.std.specs.Prelude.{◌&&◌, nat_eq, is_some, if◌then◌else◌}
use Rattle.std.specs.Option.{option_or}
use Rattle.std.proofs.lemmas.List.Folds.{find-append}
use Rattle.model_objects.specs.Object.{Object}
use Rattle.model_terms.specs.Cores.{Core, Cores, Var, Const, If, Let, Mv, MvLet, StobjLet, WithLocal, MustBeEqual, Call, none, more, count}
use Rattle.model_terms.specs.Worlds.{World, Definition, definition, definition_name}
use Rattle.model_expansion.specs.Layers.{GuardItem}
use Rattle.model_expansion.specs.Expansion.{Setting, Progress, Makes, expanded, expanded_guard, arity_of}
use Rattle.model_expansion_forms.specs.Nodes.{EachNode, AllNodes, IsOwnCall}
use Rattle.model_expansion_forms.specs.Rows.{Takes, HasRowFunctions, AreShapedItems}
use Rattle.model_expansion_forms.proofs.LawLemmas.{forms_are_well_called}
use Rattle.model_slots_laws.specs.Standing.{stands, functions_stand, all_functions_stand}
use Rattle.model_standing.specs.Laws.{ExpandedStand, StandingStays, RowFunctionsStay}

-- ---- tests

both_hold : (a b : Bool) → a ≡ true → b ≡ true → (a && b) ≡ true
both_hold a b p q = rw (p, q) refl

first_holds : (a b : Bool) → (a && b) ≡ true → a ≡ true
first_holds true b h = refl
first_holds false b h = cc

second_holds : (a b : Bool) → (a && b) ≡ true → b ≡ true
second_holds true b h = h
second_holds false b h = cc

-- ---- closed forms

some_stands : (w : World) (f n : ℕ) → arity_of (definition w f) ≡ Some n → stands w f ≡ true
some_stands w f n a = go (definition w f) a
  where
    go : (d : Option Definition) → arity_of d ≡ Some n → is_some d ≡ true
    go None e = cc
    go (Some d) e = refl

mutual
  unfolding functions_stand

  pub own_stand : (w : World) (f : Core) → EachNode (IsOwnCall w) f → functions_stand w f ≡ true
  own_stand w (Var x) k = refl
  own_stand w (Const o) k = refl
  own_stand w (If a b c) k = both_hold _ _ (own_stand w a k.1) (both_hold _ _ (own_stand w b k.2) (own_stand w c k.3))
  own_stand w (Let names bound body) k = both_hold _ _ (all_own_stand w bound k.1) (own_stand w body k.2)
  own_stand w (Mv parts) k = all_own_stand w parts k.1
  own_stand w (MvLet names bound body) k = both_hold _ _ (own_stand w bound k.1) (own_stand w body k.2)
  own_stand w (StobjLet names bound vars producer consumer) k = both_hold _ _ (own_stand w producer k.2) (own_stand w consumer k.3)
  own_stand w (WithLocal stobj names producer body) k = both_hold _ _ (own_stand w producer k.1) (own_stand w body k.2)
  own_stand w (MustBeEqual logic exec) k = own_stand w logic k.1
  own_stand w (Call f actuals) k = both_hold _ _ (some_stands w f (count actuals) k.0) (all_own_stand w actuals k.1)

  all_own_stand : (w : World) (fs : Cores) → AllNodes (IsOwnCall w) fs → all_functions_stand w fs ≡ true
  all_own_stand w none k = refl
  all_own_stand w (more f fs) k = both_hold _ _ (own_stand w f k.0) (all_own_stand w fs k.1)

form_stands : (x : Setting) (o : Object ℕ) (p q : Progress) (f : Core) → HasRowFunctions x.world → expanded x o p ≡ Makes f q → functions_stand x.world f ≡ true
form_stands x o p q f r e = own_stand x.world f (forms_are_well_called.form x r o p q f e).closed

guard_stands : (x : Setting) (gs : List GuardItem) (p q : Progress) (f : Core) → HasRowFunctions x.world → AreShapedItems gs → expanded_guard x gs p ≡ Makes f q → functions_stand x.world f ≡ true
guard_stands x gs p q f r s e = own_stand x.world f (forms_are_well_called.guard x r gs s p q f e).closed

pub expanded_stand : ExpandedStand
expanded_stand = record { form = form_stands; guard = guard_stands }

-- ---- where more stands

module _ (w v : World) (h : (x : ℕ) → stands w x ≡ true → stands v x ≡ true) where
  mutual
    unfolding functions_stand

    stand_on : (f : Core) → functions_stand w f ≡ true → functions_stand v f ≡ true
    stand_on (Var x) k = refl
    stand_on (Const o) k = refl
    stand_on (If a b c) k =
        let later = second_holds (functions_stand w a) (functions_stand w b && functions_stand w c) k in
        both_hold _ _ (stand_on a (first_holds (functions_stand w a) (functions_stand w b && functions_stand w c) k))
        (both_hold _ _ (stand_on b (first_holds (functions_stand w b) (functions_stand w c) later)) (stand_on c (second_holds (functions_stand w b) (functions_stand w c) later)))
    stand_on (Let names bound body) k =
        both_hold _ _ (all_stand_on bound (first_holds (all_functions_stand w bound) (functions_stand w body) k)) (stand_on body (second_holds (all_functions_stand w bound) (functions_stand w body) k))
    stand_on (Mv parts) k = all_stand_on parts k
    stand_on (MvLet names bound body) k =
        both_hold _ _ (stand_on bound (first_holds (functions_stand w bound) (functions_stand w body) k)) (stand_on body (second_holds (functions_stand w bound) (functions_stand w body) k))
    stand_on (StobjLet names bound vars producer consumer) k =
        both_hold _ _ (stand_on producer (first_holds (functions_stand w producer) (functions_stand w consumer) k)) (stand_on consumer (second_holds (functions_stand w producer) (functions_stand w consumer) k))
    stand_on (WithLocal stobj names producer body) k =
        both_hold _ _ (stand_on producer (first_holds (functions_stand w producer) (functions_stand w body) k)) (stand_on body (second_holds (functions_stand w producer) (functions_stand w body) k))
    stand_on (MustBeEqual logic exec) k = stand_on logic k
    stand_on (Call f actuals) k =
        both_hold _ _ (h f (first_holds (stands w f) (all_functions_stand w actuals) k)) (all_stand_on actuals (second_holds (stands w f) (all_functions_stand w actuals) k))

    all_stand_on : (fs : Cores) → all_functions_stand w fs ≡ true → all_functions_stand v fs ≡ true
    all_stand_on none k = refl
    all_stand_on (more f fs) k =
        both_hold _ _ (stand_on f (first_holds (functions_stand w f) (all_functions_stand w fs) k)) (all_stand_on fs (second_holds (functions_stand w f) (all_functions_stand w fs) k))

-- ---- the same names

first_name : {a b : ℕ} {xs ys : List ℕ} → a ∷ xs ≡ b ∷ ys → a ≡ b
first_name e = cc

other_names : {a b : ℕ} {xs ys : List ℕ} → a ∷ xs ≡ b ∷ ys → xs ≡ ys
other_names e = cc

same_stand : (w v : World) → map definition_name w ≡ map definition_name v → (x : ℕ) → stands w x ≡ stands v x
same_stand [] [] e x = refl
same_stand [] (d ∷ v) e x = cc
same_stand (c ∷ w) [] e x = cc
same_stand (c ∷ w) (d ∷ v) e x =
    ap (λ (n : ℕ). is_some (if nat_eq x n then Some c else definition w x)) (first_name e) ∙ go (nat_eq x (definition_name d)) (same_stand w v (other_names e) x)
  where
    go : (b : Bool) → is_some (definition w x) ≡ is_some (definition v x) → is_some (if b then Some c else definition w x) ≡ is_some (if b then Some d else definition v x)
    go true later = refl
    go false later = later

name_stands : (w v : World) → map definition_name w ≡ map definition_name v → (x : ℕ) → stands w x ≡ true → stands v x ≡ true
name_stands w v e x k = sym (same_stand w v e x) ∙ k

pub names_stand : (w v : World) (f : Core) → map definition_name w ≡ map definition_name v → functions_stand w f ≡ true → functions_stand v f ≡ true
names_stand w v f e k = stand_on w v (name_stands w v e) f k

-- ---- more definitions

definition_still : (w new : World) (x : ℕ) (d : Definition) → definition w x ≡ Some d → definition (w ++ new) x ≡ Some d
definition_still w new x d e = find-append (λ d. nat_eq x (definition_name d)) w new ∙ ap (λ (c : Option Definition). option_or c (definition new x)) e

stands_still : (w new : World) (x : ℕ) → stands w x ≡ true → stands (w ++ new) x ≡ true
stands_still w new x k = go (definition w x) refl k
  where
    go : (d : Option Definition) → definition w x ≡ d → is_some d ≡ true → stands (w ++ new) x ≡ true
    go None e h = cc
    go (Some d) e h = ap is_some (definition_still w new x d e)

more_stand : (w new : World) (f : Core) → functions_stand w f ≡ true → functions_stand (w ++ new) f ≡ true
more_stand w new f k = stand_on w (w ++ new) (stands_still w new) f k

pub standing_stays : StandingStays
standing_stays = record { names = names_stand; more = more_stand }

-- ---- what the built-in macros call

takes_still : (w new : World) (f n : ℕ) → Takes w f n → Takes (w ++ new) f n
takes_still w new f n h = go (definition w f) refl h
  where
    go : (d : Option Definition) → definition w f ≡ d → arity_of d ≡ Some n → Takes (w ++ new) f n
    go None e k = cc
    go (Some d) e k = ap arity_of (definition_still w new f d e) ∙ k

pub rows_still : (w new : World) → HasRowFunctions w → HasRowFunctions (w ++ new)
rows_still w new f = record {
  first = takes_still w new _ _ f.first;
  others = takes_still w new _ _ f.others;
  pair = takes_still w new _ _ f.pair;
  negation = takes_still w new _ _ f.negation;
  below = takes_still w new _ _ f.below;
  minus = takes_still w new _ _ f.minus;
  plus = takes_still w new _ _ f.plus;
  times = takes_still w new _ _ f.times;
  bits_of_both = takes_still w new _ _ f.bits_of_both;
  bits_of_either = takes_still w new _ _ f.bits_of_either;
  bits_of_one = takes_still w new _ _ f.bits_of_one;
  joined = takes_still w new _ _ f.joined;
  member = takes_still w new _ _ f.member;
  entry = takes_still w new _ _ f.entry;
  union = takes_still w new _ _ f.union;
  checked = takes_still w new _ _ f.checked;
}

pub row_functions_stay : RowFunctionsStay
row_functions_stay = record { more = rows_still }
