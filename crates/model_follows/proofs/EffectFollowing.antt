-- A function of a stobj on its list, and in the logic.
use Rattle.std.proofs.Common.{◌≡◌, ℕ, zero, suc, ◌<◌, List, [], ◌∷◌, ◌++◌, map, length, Bool, true, false, Option, Some, None, refl, sym, ap, ◌∙◌, subst, inl, inr}
use Rattle.std.specs.Prelude.{◌≢◌, ◌⊎◌, nat_eq, unwrap_or, if◌then◌else◌}
use Rattle.std.proofs.lemmas.Bool.{eqb-true}
use Rattle.model_objects.specs.Object.{Object}
use Rattle.model_symbols.specs.Symbols.{QualifiedName, Table, symbol_at, form_of}
use Rattle.model_symbols.specs.Growth.{Extends}
use Rattle.model_symbols.proofs.TableLemmas.{Extends-self}
use Rattle.model_prims.specs.Kinds.{by_number, by_name}
use Rattle.model_prims.proofs.ByName.{IsNaming}
use Rattle.model_prims.proofs.FollowLemmas.{is_naming}
use Rattle.model_lists.specs.Types.{ValueType, Anything, Nothing, Integers, Recognized, OneOf, Either, Both, Other}
use Rattle.model_lists.specs.Lists.{StobjList, Value, End, as_object}
use Rattle.model_lists.specs.Layouts.{Layout, Scalar, Array, Hash, Children, NoField, Field, repeated, initial, field_layout, recognizes}
use Rattle.model_lists.specs.LiveLists.{HasFields}
use Rattle.model_lists.specs.Effects.{Effect, Refuses, Reads, Writes}
use Rattle.model_lists_laws.proofs.LogicalLemmas.{is_recognized}
use Rattle.model_lists_laws.proofs.StandingLemmas.{new_stobjs_stand}
use Rattle.model_terms.specs.declared.role.Role.{Role}
use Rattle.model_terms.specs.declared.role.Role.TheVariants as role
use Rattle.model_terms.specs.Worlds.{World, GeneratedFunction, Out, Ordinary, Scope}
use Rattle.model_terms.specs.Worlds as worlds
use Rattle.model_eval.specs.Outcomes.{Shown, Plain, StobjNamed, StateOf, State}
use Rattle.model_eval.specs.PlacesKeeping.{Store}
use Rattle.model_eval.specs.ListsKeeping.{lists_keeping}
use Rattle.model_eval.specs.Variables.{plain, ordinary, first_stobj, list_of, with_list}
use Rattle.model_eval.specs.StobjLayouts.{stobj_layout}
use Rattle.model_eval.specs.GeneratedCalls.{effect, effected, list_or_none, generated}
use Rattle.model_logic.specs.Logic.{Thing, found}
use Rattle.model_logic.specs.LogicFunctions.{logic_effect, logic_generated}
use Rattle.model_accepted.specs.Threaded.{layout_of, IsMade, IsThreaded}
use Rattle.model_accepted.specs.StobjScopes.{IsStobj}
use Rattle.model_in_place.specs.Standing.{Stands}
use Rattle.model_in_place.specs.Calls.{AreArguments}
use Rattle.model_in_place.proofs.ObjectLemmas.{equal_or_not, list_written, list_other}
use Rattle.model_follows.specs.Costs.{Ends}
use Rattle.model_follows.specs.FollowedWorlds.{TypeSymbols, LayoutSymbols, ListSymbols, KnowsList, SuitsLogic, before_stobj, ordinary_before, stobj_argument, IsMadeFor}
use Rattle.model_eval_laws.proofs.Lists.{same_number}
use Rattle.model_accepted.proofs.AcceptLemmas.{true_false}
use Rattle.model_follows.proofs.EndedLemmas.{ended_one}
use Rattle.model_follows.proofs.HeldThings.{Ground, Held, all_held, Kin, AreKin, kin_plain, plain_kin, kin_same}
use Rattle.model_follows.proofs.FormalThings.{AreSeen}
use Rattle.model_follows.specs.Follows.{thing_of_list, one_thing, KnowsAll, table_of, IsSound, IfGives}
use Rattle.model_follows.proofs.CostLemmas.{costs_nothing}
use Rattle.model_follows.proofs.ThingLemmas.{form_stays, knows_stays}
use Rattle.model_follows.proofs.LayoutThings.{named_layout, named_type, layout_named}
use Rattle.model_follows.proofs.RoleThings.{EachSymbols, role_args}
use Rattle.model_follows.proofs.RoleFollowing.{goes_role}
use Rattle.model_follows.proofs.Following.{MineAs, Lawful}

-- ---- layouts as symbols are added

module _ (old new : Table) (grown : Extends old new) where
  type_stays : (t : ValueType ℕ) → TypeSymbols (λ s. s < length old.symbols) t → named_type (symbol_at new.symbols) t ≡ named_type (symbol_at old.symbols) t
  type_stays Anything k = refl
  type_stays Nothing k = refl
  type_stays (Integers low high) k = refl
  type_stays (Recognized r) k = refl
  type_stays (OneOf l) k = ap OneOf (form_stays old new grown l k)
  type_stays (Either a b) k = rw (type_stays a k.0, type_stays b k.1) refl
  type_stays (Both a b) k = rw (type_stays a k.0, type_stays b k.1) refl
  type_stays (Other a) k = ap Other (type_stays a k)

  pub layout_stays : (l : Layout ℕ) → LayoutSymbols (λ s. s < length old.symbols) l → named_layout (symbol_at new.symbols) l ≡ named_layout (symbol_at old.symbols) l
  layout_stays (Scalar t o) k = rw (type_stays t k.0, form_stays old new grown o k.1) refl
  layout_stays (Array t o n resizable) k = rw (type_stays t k.0, form_stays old new grown o k.1) refl
  layout_stays (Hash test) k = refl
  layout_stays (Children n child) k = ap (Children n) (layout_stays child k)
  layout_stays NoField k = refl
  layout_stays (Field first others) k = rw (layout_stays first k.0, layout_stays others k.1) refl

  type_weaker : (t : ValueType ℕ) → TypeSymbols (λ s. s < length old.symbols) t → TypeSymbols (λ s. s < length new.symbols) t
  type_weaker Anything k = tt
  type_weaker Nothing k = tt
  type_weaker (Integers low high) k = tt
  type_weaker (Recognized r) k = tt
  type_weaker (OneOf l) k = knows_stays old new grown l k
  type_weaker (Either a b) k = (type_weaker a k.0, type_weaker b k.1)
  type_weaker (Both a b) k = (type_weaker a k.0, type_weaker b k.1)
  type_weaker (Other a) k = type_weaker a k

  pub layout_weaker : (l : Layout ℕ) → LayoutSymbols (λ s. s < length old.symbols) l → LayoutSymbols (λ s. s < length new.symbols) l
  layout_weaker (Scalar t o) k = (type_weaker t k.0, knows_stays old new grown o k.1)
  layout_weaker (Array t o n resizable) k = (type_weaker t k.0, knows_stays old new grown o k.1)
  layout_weaker (Hash test) k = tt
  layout_weaker (Children n child) k = layout_weaker child k
  layout_weaker NoField k = tt
  layout_weaker (Field first others) k = (layout_weaker first k.0, layout_weaker others k.1)

repeated_known : (P : ℕ → Type 0) (n : ℕ) (l : StobjList ℕ) → ListSymbols P l → ListSymbols P (repeated n l)
repeated_known P zero l k = tt
repeated_known P (suc n) l k = (k, repeated_known P n l k)

pub initial_known : (P : ℕ → Type 0) (l : Layout ℕ) → LayoutSymbols P l → ListSymbols P (initial l)
initial_known P (Scalar t o) k = k.1
initial_known P (Array t o n resizable) k = repeated_known P n (Value o) k.1
initial_known P (Hash test) k = tt
initial_known P (Children n child) k = repeated_known P n (initial child) (initial_known P child k)
initial_known P NoField k = tt
initial_known P (Field first others) k = (initial_known P first k.0, initial_known P others k.1)

-- ---- arguments: ordinary ones, and then the stobj

pub record IsCall (w : World) (g : Ground) (seen_as : ℕ → ℕ) (scope : Scope) (x : ℕ) (symbols : List QualifiedName) (lists : Held) (m : ℕ) (vs : List (Shown ℕ)) : Type 0 where
  pub os : List (Object ℕ)
  pub stobj : ℕ
  pub count : length os ≡ m
  pub ordinary_is : ordinary vs ≡ os
  pub first : first_stobj vs ≡ Some stobj
  pub in_scope : IsStobj scope stobj
  pub alike : layout_of w x ≡ layout_of w stobj
  pub seen : g.view x ≡ g.view (seen_as stobj)
  pub things : all_held symbols lists vs ≡ map (form_of symbols) os ++ (lists stobj ∷ [])
  pub each : (n : ℕ) → KnowsAll n vs → EachSymbols (λ s. s < n) os

is_call : (w : World) (g : Ground) (seen_as : ℕ → ℕ) (scope : Scope) (x : ℕ) (symbols : List QualifiedName) (lists : Held) (m : ℕ) (vs : List (Shown ℕ)) → AreArguments w scope (ordinary_before m (worlds.Stobj x ∷ [])) vs → AreSeen g seen_as (ordinary_before m (worlds.Stobj x ∷ [])) vs → IsCall w g seen_as scope x symbols lists m vs
is_call w g seen_as scope x symbols lists zero [] a s = absurd a
is_call w g seen_as scope x symbols lists zero (Plain o ∷ vs) a s = absurd a.0
is_call w g seen_as scope x symbols lists zero (StobjNamed y ∷ (v ∷ vs)) a s = absurd a.1
is_call w g seen_as scope x symbols lists zero (StobjNamed y ∷ []) a s = record {
  os = [];
  stobj = y;
  count = refl;
  ordinary_is = refl;
  first = refl;
  in_scope = a.0.0;
  alike = a.0.1;
  seen = s.0;
  things = refl;
  each = λ n k. tt;
}
is_call w g seen_as scope x symbols lists (suc m) [] a s = absurd a
is_call w g seen_as scope x symbols lists (suc m) (StobjNamed y ∷ vs) a s = absurd a.0
is_call w g seen_as scope x symbols lists (suc m) (Plain o ∷ vs) a s =
    let c : IsCall w g seen_as scope x symbols lists m vs = is_call w g seen_as scope x symbols lists m vs a.1 s in
    record {
      os = o ∷ c.os;
      stobj = c.stobj;
      count = ap (λ (n : ℕ). suc n) c.count;
      ordinary_is = ap (λ (ps : List (Object ℕ)). o ∷ ps) c.ordinary_is;
      first = c.first;
      in_scope = c.in_scope;
      alike = c.alike;
      seen = c.seen;
      things = ap (λ (ts : List Thing). form_of symbols o ∷ ts) c.things;
      each = λ n k. (k.0, c.each n k.1);
    }

pub record IsCallAlone (symbols : List QualifiedName) (lists : Held) (m : ℕ) (vs : List (Shown ℕ)) : Type 0 where
  pub os : List (Object ℕ)
  pub count : length os ≡ m
  pub ordinary_is : ordinary vs ≡ os
  pub first : first_stobj vs ≡ None
  pub things : all_held symbols lists vs ≡ map (form_of symbols) os
  pub each : (n : ℕ) → KnowsAll n vs → EachSymbols (λ s. s < n) os

is_alone : (w : World) (scope : Scope) (symbols : List QualifiedName) (lists : Held) (m : ℕ) (vs : List (Shown ℕ)) → AreArguments w scope (ordinary_before m []) vs → IsCallAlone symbols lists m vs
is_alone w scope symbols lists zero [] a = record { os = []; count = refl; ordinary_is = refl; first = refl; things = refl; each = λ n k. tt }
is_alone w scope symbols lists zero (v ∷ vs) a = absurd a
is_alone w scope symbols lists (suc m) [] a = absurd a
is_alone w scope symbols lists (suc m) (StobjNamed y ∷ vs) a = absurd a.0
is_alone w scope symbols lists (suc m) (Plain o ∷ vs) a =
    let c : IsCallAlone symbols lists m vs = is_alone w scope symbols lists m vs a.1 in
    record {
      os = o ∷ c.os;
      count = ap (λ (n : ℕ). suc n) c.count;
      ordinary_is = ap (λ (ps : List (Object ℕ)). o ∷ ps) c.ordinary_is;
      first = c.first;
      things = ap (λ (ts : List Thing). form_of symbols o ∷ ts) c.things;
      each = λ n k. (k.0, c.each n k.1);
    }

each_known : (symbols : List QualifiedName) (lists : Held) (n : ℕ) (os : List (Object ℕ)) → EachSymbols (λ s. s < n) os → KnowsAll n (plain os) × (all_held symbols lists (plain os) ≡ map (form_of symbols) os)
each_known symbols lists n [] k = (tt, refl)
each_known symbols lists n (o ∷ os) k =
    let rest : KnowsAll n (plain os) × (all_held symbols lists (plain os) ≡ map (form_of symbols) os) = each_known symbols lists n os k.1 in
    ((k.0, rest.0), ap (λ (ts : List Thing). form_of symbols o ∷ ts) rest.1)

module _ (w : World) (base : Ground) (threaded : IsThreaded w) (followed : Lawful w base threaded) (limit : ℕ) (symbols : List QualifiedName) (scope : Scope) (bg : Extends base.table (table_of base.table.packages symbols)) (seen_as : ℕ → ℕ) where
  -- the layout in the book's symbols is that in those of a state
  pub book_layout : (now : List QualifiedName) → Extends base.table (table_of base.table.packages now) → (x : ℕ) → stobj_layout (λ (o : Object ℕ). form_of symbols o) w x ≡ named_layout (symbol_at now) (layout_of w x)
  book_layout now grown x =
      layout_named (symbol_at symbols) w x
      ∙ (layout_stays base.table (table_of base.table.packages symbols) bg (layout_of w x) (followed.layouts x) ∙ sym (layout_stays base.table (table_of base.table.packages now) grown (layout_of w x) (followed.layouts x)))

  -- what is given, from what the effect is
  mine_read : (s : State ℕ) (lists : Held) (os : List (Object ℕ)) (result : Thing) → AreKin w base seen_as scope s.symbols s.stobjs lists → IsSound w base.table scope s.symbols s.stobjs → EachSymbols (λ q. q < length s.symbols) os → one_thing (map (form_of s.symbols) os) ≡ result
      → MineAs w base seen_as scope s (λ budget nest start. found result start) (plain os) s
  mine_read s lists os result kin sound k e =
      let is : KnowsAll (length s.symbols) (plain os) × (all_held s.symbols lists (plain os) ≡ map (form_of s.symbols) os) = each_known s.symbols lists (length s.symbols) os k in
      record {
        last = lists;
        kin = kin;
        sound = sound;
        grown = Extends-self (table_of base.table.packages s.symbols);
        known = is.0;
        ends = ended_one w (λ budget nest start. found result start) (all_held s.symbols lists (plain os)) (subst (λ (v : Thing). Ends (λ budget nest start. found result start) v) (sym (ap one_thing is.1 ∙ e)) (0, costs_nothing result));
      }

  mine_written : (s : State ℕ) (t : StateOf (Store ℕ)) (lists : Held) (y : ℕ) (m : StobjList ℕ) (result : Thing) → AreKin w base seen_as scope s.symbols s.stobjs lists → base.view (seen_as y) ≡ None → Stands w scope s.stobjs t.stobjs → IsStobj scope y → IsSound w base.table scope s.symbols s.stobjs → KnowsList (length s.symbols) m
      → recognizes by_number (layout_of w y) (as_object by_number m) ≡ true → form_of s.symbols (as_object by_number m) ≡ result
      → MineAs w base seen_as scope s (λ budget nest start. found result start) (StobjNamed y ∷ []) (record s { stobjs = with_list y m s.stobjs })
  mine_written s t lists y m result kin plain_one stands i sound k r e = record {
    last = λ x. if nat_eq x y then thing_of_list s.symbols m else lists x;
    kin = record { each = λ x o. kin_by x o (nat_eq x y) refl };
    sound = record {
      table = sound.table;
      truth = sound.truth;
      grown = sound.grown;
      known = λ x o. known_by x o (equal_or_not x y);
      recognized = λ x o. recognized_by x o (equal_or_not x y);
    };
    grown = Extends-self (table_of base.table.packages s.symbols);
    known = (tt, tt);
    ends =
        ended_one w (λ budget nest start. found result start) ((if nat_eq y y then thing_of_list s.symbols m else lists y) ∷ [])
        (subst (λ (v : Thing). Ends (λ budget nest start. found result start) v) (sym (ap (λ (b : Bool). if b then thing_of_list s.symbols m else lists y) (same_number y) ∙ e)) (0, costs_nothing result));
  }
    where
      kin_by : (x : ℕ) → IsStobj scope x → (b : Bool) → nat_eq x y ≡ b → Kin w base s.symbols (seen_as x) (list_of (with_list y m s.stobjs) x) (if b then thing_of_list s.symbols m else lists x)
      kin_by x o true g =
          let same : x ≡ y = eqb-true x y g in
          kin_same w base s.symbols s.symbols (seen_as x) m (list_of (with_list y m s.stobjs) x) (thing_of_list s.symbols m) (thing_of_list s.symbols m)
          (ap (thing_of_list s.symbols) (ap (list_of (with_list y m s.stobjs)) same ∙ list_written y m s.stobjs (stands.known y i))) refl
          (kin_plain w base s.symbols (seen_as x) m (ap (λ (z : ℕ). base.view (seen_as z)) same ∙ plain_one))
      kin_by x o false g =
          subst (λ (l : StobjList ℕ). Kin w base s.symbols (seen_as x) l (lists x)) (sym (list_other x y m s.stobjs (λ h. true_false (sym (ap (λ (z : ℕ). nat_eq z y) h ∙ same_number y) ∙ g)))) (kin.each x o)

      written : list_of (with_list y m s.stobjs) y ≡ m
      written = list_written y m s.stobjs (stands.known y i)

      known_by : (x : ℕ) → IsStobj scope x → (x ≡ y) ⊎ (x ≢ y) → KnowsList (length s.symbols) (list_of (with_list y m s.stobjs) x)
      known_by x o (inl g) = subst (λ (z : ℕ). KnowsList (length s.symbols) (list_of (with_list y m s.stobjs) z)) (sym g) (subst (KnowsList (length s.symbols)) (sym written) k)
      known_by x o (inr g) = subst (KnowsList (length s.symbols)) (sym (list_other x y m s.stobjs g)) (sound.known x o)

      recognized_by : (x : ℕ) → IsStobj scope x → (x ≡ y) ⊎ (x ≢ y) → recognizes by_number (layout_of w x) (as_object by_number (list_of (with_list y m s.stobjs) x)) ≡ true
      recognized_by x o (inl g) =
          subst (λ (z : ℕ). recognizes by_number (layout_of w z) (as_object by_number (list_of (with_list y m s.stobjs) z)) ≡ true) (sym g)
          (ap (λ (l : StobjList ℕ). recognizes by_number (layout_of w y) (as_object by_number l)) written ∙ r)
      recognized_by x o (inr g) = ap (λ (l : StobjList ℕ). recognizes by_number (layout_of w x) (as_object by_number l)) (list_other x y m s.stobjs g) ∙ sound.recognized x o

  module _ (g : GeneratedFunction) (vs : List (Shown ℕ)) (for : IsMadeFor w g) (a : AreArguments w scope g.signature.ins vs) (seen : AreSeen base seen_as g.signature.ins vs) (plain_one : base.view g.stobj ≡ None) (s : State ℕ) (t : StateOf (Store ℕ)) (lists : Held) (kin : AreKin w base seen_as scope s.symbols s.stobjs lists)
      (stands : Stands w scope s.stobjs t.stobjs) (sound : IsSound w base.table scope s.symbols s.stobjs) (known : KnowsAll (length s.symbols) vs) where
    abbrev whole : Layout ℕ
    whole = layout_of w g.stobj

    abbrev fn : ℕ
    fn = unwrap_or g.field 0

    abbrev P : ℕ → Type 0
    P q = q < length s.symbols

    abbrev outcome : Role → Type 0
    outcome r = IfGives (MineAs w base seen_as scope s (λ budget nest start. found (logic_effect by_name r (stobj_layout (λ (o : Object ℕ). form_of symbols o) w g.stobj) fn (all_held s.symbols lists vs)) start))
        (effected lists_keeping g.name vs (first_stobj vs) s (effect by_number r (field_layout fn whole) fn (ordinary vs) (list_or_none lists_keeping s.stobjs (first_stobj vs))))

    -- what the effect gives is what the logic does
    abbrev GoesThere : Thing → Effect ℕ → Type 0
    GoesThere result Refuses = Unit {0}
    GoesThere result (Reads os) = EachSymbols P os × (one_thing (map (form_of s.symbols) os) ≡ result)
    GoesThere result (Writes m) = ListSymbols P m × (recognizes by_number whole (as_object by_number m) ≡ true) × (form_of s.symbols (as_object by_number m) ≡ result)

    naming : IsNaming (symbol_at s.symbols) P
    naming = is_naming (table_of base.table.packages s.symbols) sound.table sound.truth

    layouts_known : LayoutSymbols P whole
    layouts_known = layout_weaker base.table (table_of base.table.packages s.symbols) sound.grown whole (followed.layouts g.stobj)

    assemble : (r : Role) (os : List (Object ℕ)) (x : Option ℕ) (ts : List Thing) (lay : Layout QualifiedName) → ordinary vs ≡ os → first_stobj vs ≡ x → all_held s.symbols lists vs ≡ ts
        → stobj_layout (λ (o : Object ℕ). form_of symbols o) w g.stobj ≡ lay
        → IfGives (MineAs w base seen_as scope s (λ budget nest start. found (logic_effect by_name r lay fn ts) start)) (effected lists_keeping g.name vs x s (effect by_number r (field_layout fn whole) fn os (list_or_none lists_keeping s.stobjs x)))
        → outcome r
    assemble r os x ts lay p q u v m = rw (p, q, u, v) m

    ins_are : (r : Role) → g.role ≡ r → g.signature.ins ≡ ordinary_before (before_stobj r (field_layout fn whole)) (stobj_argument r g.stobj)
    ins_are r e = for.ins ∙ ap (λ (q : Role). ordinary_before (before_stobj q (field_layout fn whole)) (stobj_argument q g.stobj)) e

    with_object : (r : Role) → stobj_argument r g.stobj ≡ worlds.Stobj g.stobj ∷ [] → ((ts : List Thing) (o : Thing) → role_args r ts o ≡ ts ++ (o ∷ [])) → g.role ≡ r → outcome r
    with_object r oa ra e =
        let m : ℕ = before_stobj r (field_layout fn whole) in
        let c : IsCall w base seen_as scope g.stobj s.symbols lists m vs
        = is_call w base seen_as scope g.stobj s.symbols lists m vs (subst (λ (ins : List Out). AreArguments w scope ins vs) (ins_are r e ∙ ap (ordinary_before m) oa) a)
        (subst (λ (ins : List Out). AreSeen base seen_as ins vs) (ins_are r e ∙ ap (ordinary_before m) oa) seen) in
        let plain_there : base.view (seen_as c.stobj) ≡ None = sym c.seen ∙ plain_one in
        let l : StobjList ℕ = list_of s.stobjs c.stobj in
        let result : Thing = logic_effect by_name r (named_layout (symbol_at s.symbols) whole) fn (role_args r (map (form_of s.symbols) c.os) (form_of s.symbols (as_object by_number l))) in
        assemble r c.os (Some c.stobj) (role_args r (map (form_of s.symbols) c.os) (form_of s.symbols (as_object by_number l))) (named_layout (symbol_at s.symbols) whole)
        c.ordinary_is c.first (c.things ∙ (ap (λ (z : Thing). map (form_of s.symbols) c.os ++ (z ∷ [])) (plain_kin w base s.symbols (seen_as c.stobj) l (lists c.stobj) plain_there (kin.each c.stobj c.in_scope)) ∙ sym (ra (map (form_of s.symbols) c.os) (form_of s.symbols (as_object by_number l))))) (book_layout s.symbols sound.grown g.stobj)
        (by_effect c.stobj l c.in_scope c.alike plain_there result (effect by_number r (field_layout fn whole) fn c.os l)
        (fits_there c.stobj c.in_scope c.alike) (recognized_there c.stobj c.in_scope c.alike)
        (goes_role (symbol_at s.symbols) P naming whole fn l (fits_there c.stobj c.in_scope c.alike) (recognized_there c.stobj c.in_scope c.alike) (sound.known c.stobj c.in_scope) layouts_known (followed.initials g.stobj)
        r (field_layout fn whole) refl (subst (λ (q : Role). SuitsLogic q (field_layout fn whole)) e for.suits) c.os c.count (c.each (length s.symbols) known)))
      where
        fits_there : (y : ℕ) → IsStobj scope y → layout_of w g.stobj ≡ layout_of w y → HasFields whole (list_of s.stobjs y)
        fits_there y i alike = subst (λ (m : Layout ℕ). HasFields m (list_of s.stobjs y)) (sym alike) (stands.fits y i)

        recognized_there : (y : ℕ) → IsStobj scope y → layout_of w g.stobj ≡ layout_of w y → recognizes by_number whole (as_object by_number (list_of s.stobjs y)) ≡ true
        recognized_there y i alike = ap (λ (m : Layout ℕ). recognizes by_number m (as_object by_number (list_of s.stobjs y))) alike ∙ sound.recognized y i

        by_effect : (y : ℕ) (l : StobjList ℕ) → IsStobj scope y → layout_of w g.stobj ≡ layout_of w y → base.view (seen_as y) ≡ None → (result : Thing) (q : Effect ℕ) (fits : HasFields whole l) (rec : recognizes by_number whole (as_object by_number l) ≡ true)
            → GoesThere result q → IfGives (MineAs w base seen_as scope s (λ budget nest start. found result start)) (effected lists_keeping g.name vs (Some y) s q)
        by_effect y l i alike p result Refuses fits rec h = tt
        by_effect y l i alike p result (Reads os) fits rec h = mine_read s lists os result kin sound h.0 h.1
        by_effect y l i alike p result (Writes m) fits rec h =
            mine_written s t lists y m result kin p stands i sound h.0 (ap (λ (q : Layout ℕ). recognizes by_number q (as_object by_number m)) (sym alike) ∙ h.1) h.2

    alone : (r : Role) → stobj_argument r g.stobj ≡ [] → ((ts : List Thing) (o : Thing) → role_args r ts o ≡ ts)
        → ((os : List (Object ℕ)) (l m : StobjList ℕ) → effect by_number r (field_layout fn whole) fn os l ≡ effect by_number r (field_layout fn whole) fn os m) → g.role ≡ r → outcome r
    alone r oa ra same e =
        let m : ℕ = before_stobj r (field_layout fn whole) in
        let c : IsCallAlone s.symbols lists m vs
        = is_alone w scope s.symbols lists m vs (subst (λ (ins : List Out). AreArguments w scope ins vs) (ins_are r e ∙ ap (ordinary_before m) oa) a) in
        let l : StobjList ℕ = initial whole in
        let result : Thing = logic_effect by_name r (named_layout (symbol_at s.symbols) whole) fn (role_args r (map (form_of s.symbols) c.os) (form_of s.symbols (as_object by_number l))) in
        assemble r c.os None (role_args r (map (form_of s.symbols) c.os) (form_of s.symbols (as_object by_number l))) (named_layout (symbol_at s.symbols) whole)
        c.ordinary_is c.first (c.things ∙ sym (ra (map (form_of s.symbols) c.os) (form_of s.symbols (as_object by_number l)))) (book_layout s.symbols sound.grown g.stobj)
        (subst (λ (q : Effect ℕ). IfGives (MineAs w base seen_as scope s (λ budget nest start. found result start)) (effected lists_keeping g.name vs None s q)) (same c.os l End)
        (by_effect result (effect by_number r (field_layout fn whole) fn c.os l)
        (goes_role (symbol_at s.symbols) P naming whole fn l (new_stobjs_stand.fields whole) (is_recognized.numbered whole (followed.initials g.stobj)) (initial_known P whole layouts_known) layouts_known (followed.initials g.stobj)
        r (field_layout fn whole) refl (subst (λ (q : Role). SuitsLogic q (field_layout fn whole)) e for.suits) c.os c.count (c.each (length s.symbols) known))))
      where
        by_effect : (result : Thing) (q : Effect ℕ) → GoesThere result q → IfGives (MineAs w base seen_as scope s (λ budget nest start. found result start)) (effected lists_keeping g.name vs None s q)
        by_effect result Refuses h = tt
        by_effect result (Reads os) h = mine_read s lists os result kin sound h.0 h.1
        by_effect result (Writes m) h = tt

  pub follows_generated : (g : GeneratedFunction) (vs : List (Shown ℕ)) → IsMade w g → IsMadeFor w g → AreArguments w scope g.signature.ins vs → AreSeen base seen_as g.signature.ins vs → base.view g.stobj ≡ None → (s : State ℕ) (t : StateOf (Store ℕ)) (lists : Held) → AreKin w base seen_as scope s.symbols s.stobjs lists → Stands w scope s.stobjs t.stobjs
      → IsSound w base.table scope s.symbols s.stobjs → KnowsAll (length s.symbols) vs
      → IfGives (MineAs w base seen_as scope s (λ budget nest start. found (logic_generated by_name g (stobj_layout (λ (o : Object ℕ). form_of symbols o) w g.stobj) (all_held s.symbols lists vs)) start))
      (generated lists_keeping by_number g (layout_of w g.stobj) vs s)
  unfolding effect
  follows_generated g vs made for a seen p s t lists kin stands sound known = go g.role refl
    where
      go : (r : Role) → g.role ≡ r → outcome g vs for a seen p s t lists kin stands sound known r
      go role.Recognizer e = with_object g vs for a seen p s t lists kin stands sound known role.Recognizer refl (λ ts o. refl) e
      go role.Creator e = alone g vs for a seen p s t lists kin stands sound known role.Creator refl (λ ts o. refl) (λ os l m. refl) e
      go role.FieldRecognizer e = alone g vs for a seen p s t lists kin stands sound known role.FieldRecognizer refl (λ ts o. refl) (λ os l m. refl) e
      go role.Access e = with_object g vs for a seen p s t lists kin stands sound known role.Access refl (λ ts o. refl) e
      go role.Update e = with_object g vs for a seen p s t lists kin stands sound known role.Update refl (λ ts o. refl) e
      go role.Length e = with_object g vs for a seen p s t lists kin stands sound known role.Length refl (λ ts o. refl) e
      go role.Resize e = with_object g vs for a seen p s t lists kin stands sound known role.Resize refl (λ ts o. refl) e
      go role.HashGet e = with_object g vs for a seen p s t lists kin stands sound known role.HashGet refl (λ ts o. refl) e
      go role.HashBoundp e = with_object g vs for a seen p s t lists kin stands sound known role.HashBoundp refl (λ ts o. refl) e
      go role.HashGetBound e = with_object g vs for a seen p s t lists kin stands sound known role.HashGetBound refl (λ ts o. refl) e
      go role.HashPut e = with_object g vs for a seen p s t lists kin stands sound known role.HashPut refl (λ ts o. refl) e
      go role.HashRem e = with_object g vs for a seen p s t lists kin stands sound known role.HashRem refl (λ ts o. refl) e
      go role.HashCount e = with_object g vs for a seen p s t lists kin stands sound known role.HashCount refl (λ ts o. refl) e
      go role.HashClear e = with_object g vs for a seen p s t lists kin stands sound known role.HashClear refl (λ ts o. refl) e
