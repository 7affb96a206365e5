-- What makes a local stobj in the logic, and the names around it.
use Rattle.std.proofs.Common.{◌≡◌, ℕ, ◌<◌, List, [], ◌∷◌, length, drop, Bool, true, false, refl, sym, ap, ◌∙◌, subst}
use Rattle.std.specs.Prelude.{nat_eq, unwrap_or, if◌then◌else◌}
use Rattle.std.proofs.lemmas.Bool.{eqb-true}
use Rattle.model_objects.specs.Object.{Object}
use Rattle.model_symbols.specs.Symbols.{QualifiedName, symbol_at, form_of}
use Rattle.model_symbols.specs.Growth.{Extends}
use Rattle.model_prims.specs.Kinds.{by_name}
use Rattle.model_prims.proofs.FollowLemmas.{is_naming}
use Rattle.model_lists.specs.Lists.{as_object}
use Rattle.model_lists.specs.Layouts.{Layout, initial}
use Rattle.model_terms.specs.declared.role.Role.{Role}
use Rattle.model_terms.specs.Worlds.{World, definition, Scope}
use Rattle.model_eval.specs.Outcomes.{Stobjs}
use Rattle.model_eval.specs.PlacesKeeping.{Store}
use Rattle.model_eval.specs.Variables.{list_of}
use Rattle.model_eval.specs.StobjLayouts.{stobj_layout}
use Rattle.model_eval.specs.Evaluated.{Evaluator, EvaluatorOf}
use Rattle.model_logic.specs.Logic.{Theory, Thing, Values, value_in, bind, bind_others, creator_of, found}
use Rattle.model_logic.specs.LogicFunctions.{logic_effect}
use Rattle.model_eval_laws.specs.Scope.{names}
use Rattle.model_accepted.specs.Threaded.{layout_of, IsThreaded}
use Rattle.model_in_place.proofs.CallMeeting.{Meets}
use Rattle.model_follows.specs.Costs.{caller, Ends}
use Rattle.model_follows.specs.FollowedWorlds.{HasCreator}
use Rattle.model_follows.proofs.HeldThings.{Ground, Kin, itself, kin_plain}
use Rattle.model_follows.specs.Follows.{thing_of_list, table_of, IsSound}
use Rattle.model_follows.proofs.CostLemmas.{costs_nothing, ends_call}
use Rattle.model_follows.proofs.LayoutThings.{initial_named}
use Rattle.model_follows.proofs.EffectFollowing.{book_layout}
use Rattle.model_follows.proofs.Following.{Lawful, Follows}
use Rattle.model_follows.proofs.PartFollowing.{book}

-- the names but this one, bound
pub others_bound : (stobj : ℕ) (xs : List ℕ) (os : List Thing) (values : Values) (x : ℕ) → nat_eq x stobj ≡ false → value_in (bind_others stobj xs os values) x ≡ value_in (bind xs os values) x
others_bound stobj [] os values x d = refl
others_bound stobj (y ∷ ys) [] values x d = refl
others_bound stobj (y ∷ ys) (o ∷ os) values x d = go (nat_eq y stobj) refl (others_bound stobj ys os values x d)
  where
    go : (b : Bool) → nat_eq y stobj ≡ b → value_in (bind_others stobj ys os values) x ≡ value_in (bind ys os values) x
        → value_in (if b then bind_others stobj ys os values else (y, o) ∷ bind_others stobj ys os values) x ≡ (if nat_eq x y then o else value_in (bind ys os values) x)
    go true e later = later ∙ sym (ap (λ (b : Bool). if b then o else value_in (bind ys os values) x) (ap (nat_eq x) (eqb-true y stobj e) ∙ d))
    go false e later = ap (λ (v : Thing). if nat_eq x y then o else v) later

-- the stobjs without the first
pub list_behind : (os : Stobjs ℕ) (stobj : ℕ) (ns : List ℕ) (x : ℕ) → names os ≡ stobj ∷ ns → nat_eq x stobj ≡ false → list_of (drop 1 os) x ≡ list_of os x
list_behind [] stobj ns x e d = cc
list_behind (o ∷ os) stobj ns x e d = sym (ap (λ (b : Bool). if b then o.1 else list_of os x) (ap (nat_eq x) (first_is e) ∙ d))
  where
    first_is : o.0 ∷ names os ≡ stobj ∷ ns → o.0 ≡ stobj
    first_is g = cc

module _ (w : World) (base : Ground) (threaded : IsThreaded w) (followed : Lawful w base threaded) (limit : ℕ) (symbols : List QualifiedName) (bg : Extends base.table (table_of base.table.packages symbols))
    (ev : Evaluator ℕ) (el : EvaluatorOf ℕ (Store ℕ)) (h : Meets w threaded base.table.packages limit ev el) (f : Follows w base (book w base threaded limit symbols) ev) where
  abbrev thy : Theory
  thy = book w base threaded limit symbols

  -- a new stobj in the logic
  creator_ends : (scope : Scope) (stobj : ℕ) (now : List QualifiedName) (stobjs : Stobjs ℕ) → IsSound w base.table scope now stobjs → HasCreator w stobj
      → Ends (λ budget nest start. caller thy budget nest (creator_of (definition w stobj)) [] start) (thing_of_list now (initial (layout_of w stobj)))
  unfolding logic_effect
  creator_ends scope stobj now stobjs sound c =
      ends_call thy (creator_of (definition w stobj)) [] (thing_of_list now (initial (layout_of w stobj)))
      (rw c.there (subst (λ (v : Thing). Ends (λ budget nest start. found (logic_effect by_name c.creator.role (stobj_layout (λ (o : Object ℕ). form_of symbols o) w c.creator.stobj) (unwrap_or c.creator.field 0) []) start) v) value_is
      (0, costs_nothing (logic_effect by_name c.creator.role (stobj_layout (λ (o : Object ℕ). form_of symbols o) w c.creator.stobj) (unwrap_or c.creator.field 0) []))))
    where
      value_is : logic_effect by_name c.creator.role (stobj_layout (λ (o : Object ℕ). form_of symbols o) w c.creator.stobj) (unwrap_or c.creator.field 0) [] ≡ thing_of_list now (initial (layout_of w stobj))
      value_is =
          ap (λ (r : Role). logic_effect by_name r (stobj_layout (λ (o : Object ℕ). form_of symbols o) w c.creator.stobj) (unwrap_or c.creator.field 0) []) c.makes
          ∙ (ap (λ (x : ℕ). as_object by_name (initial (stobj_layout (λ (o : Object ℕ). form_of symbols o) w x))) c.made_of
          ∙ (ap (λ (m : Layout QualifiedName). as_object by_name (initial m)) (book_layout w base threaded followed limit symbols scope bg itself now sound.grown stobj)
          ∙ initial_named (symbol_at now) (λ q. q < length now) (is_naming (table_of base.table.packages now) sound.table sound.truth) (layout_of w stobj)))

  -- what makes a stobj in L gives a list that belongs to C's
  pub record IsMadeInLogic (stobj : ℕ) (now : List QualifiedName) : Type 0 where
    pub made : Thing
    pub makes : Ends (λ budget nest start. caller thy budget nest (creator_of (definition w stobj)) [] start) made
    pub kin : Kin w base now stobj (initial (layout_of w stobj)) made

  pub new_object : (scope : Scope) (stobj : ℕ) (now : List QualifiedName) (stobjs : Stobjs ℕ) → IsSound w base.table scope now stobjs → HasCreator w stobj → IsMadeInLogic stobj now
  new_object scope stobj now stobjs sound creator = record {
    made = thing_of_list now (initial (layout_of w stobj));
    makes = creator_ends scope stobj now stobjs sound creator;
    kin = kin_plain w base now stobj (initial (layout_of w stobj)) (ap base.view (sym creator.made_of) ∙ followed.plain (creator_of (definition w stobj)) creator.creator creator.there);
  }
