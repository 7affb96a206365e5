-- Local stobjs in the logic, beside checked evaluation.
use Rattle.std.proofs.Common.{◌≡◌, ℕ, ◌<◌, ◌≤◌, List, [], ◌∷◌, length, drop, Bool, true, false, Option, Some, None, refl, sym, ap, ◌∙◌, subst, inl, inr}
use Rattle.std.specs.Prelude.{◌≢◌, ◌⊎◌, ◌&&◌, ◌||◌, not, nat_eq, if◌then◌else◌}
use Rattle.model_symbols.specs.Symbols.{QualifiedName, Table}
use Rattle.model_symbols.specs.Growth.{Extends}
use Rattle.model_symbols.proofs.TableLemmas.{Extends-then}
use Rattle.model_prims.specs.Kinds.{by_number}
use Rattle.model_lists.specs.Lists.{StobjList, as_object}
use Rattle.model_lists.specs.Layouts.{initial, recognizes}
use Rattle.model_lists_laws.proofs.LogicalLemmas.{is_recognized}
use Rattle.model_lists_laws.proofs.StandingLemmas.{new_stobjs_stand}
use Rattle.model_terms.specs.declared.rule.Mode.{Mode}
use Rattle.model_terms.specs.declared.rule.Mode.TheVariants.{Logic}
use Rattle.model_terms.specs.Cores.{Core, WithLocal}
use Rattle.model_terms.specs.Worlds.{World, Definition, GeneratedFunction, Generated, definition, Out, Ordinary, Scope}
use Rattle.model_terms.specs.Worlds as worlds
use Rattle.model_terms.specs.Classes.{has, is_stobj_name}
use Rattle.model_terms.specs.Scopes.{kind_in, name_kind, name_kinds, without, other_names, local_scope, body_scope}
use Rattle.model_terms.specs.Sites.{here}
use Rattle.model_terms.specs.Nested.{with_local_holds}
use Rattle.model_eval.specs.Outcomes.{Shown, Plain, StobjNamed, Stobjs, StateOf, State, Outcome, Gives, Stops, Unknown, then_with, with_state, counting, one_more_call}
use Rattle.model_eval.specs.Keeping.{unmaking}
use Rattle.model_eval.specs.PlacesKeeping.{Store, places_keeping}
use Rattle.model_eval.specs.ListsKeeping.{lists_keeping}
use Rattle.model_eval.specs.Variables.{Variables, variable_in, bound, list_of}
use Rattle.model_eval.specs.Evaluated.{Evaluator, EvaluatorOf, with_fresh}
use Rattle.model_logic.specs.Logic.{Theory, Thing, Values, value_in, bind_others, element_values, creator_of, then_found, form_value}
use Rattle.model_eval_laws.specs.Scope.{names}
use Rattle.model_eval_laws.proofs.Lists.{same_number}
use Rattle.model_accepted.specs.Threaded.{layout_of, IsFormed, IsThreaded}
use Rattle.model_accepted.specs.StobjScopes.{AreOutputs, IsStobj, IsOfKind, AreVariables}
use Rattle.model_in_place.specs.Standing.{Stands, AreSame}
use Rattle.model_in_place.specs.Writes.{Moves}
use Rattle.model_accepted.specs.Accepted.{Accepted}
use Rattle.model_accepted.proofs.AcceptLemmas.{of_with_local, s14, not_false, false_true, true_false}
use Rattle.model_in_place.proofs.ObjectLemmas.{equal_or_not, not_equal}
use Rattle.model_in_place.proofs.CallLemmas.{names_after}
use Rattle.model_accepted.proofs.ScopeLemmas.{kind_bound, kind_without, has_object, has_other, local_object, local_variables, body_objects, body_variables, output_object, none_some}
use Rattle.model_in_place.proofs.WriteLemmas.{stands_less, stands_moved, counted_same}
use Rattle.model_in_place.proofs.LawLemmas.{unwritten}
use Rattle.model_in_place.proofs.LocalMeeting.{local_holds, stands_new, writes_around, objects_around, allowed_around, new_places, moves_around}
use Rattle.model_in_place.proofs.CallMeeting.{May, on_lists, Meets}
use Rattle.model_in_place.proofs.FormMeeting.{length_kinds}
use Rattle.model_follows.specs.Costs.{Counted, caller, form_counted, Ends}
use Rattle.model_follows.specs.FollowedWorlds.{KnowsList, IsSuited}
use Rattle.model_follows.proofs.EndedLemmas.{Ended, ended_as, ended_elements}
use Rattle.model_follows.proofs.HeldThings.{Ground, Held, held, all_held, Kin, AreKin, itself, AreHeld, kin_same}
use Rattle.model_follows.specs.Follows.{thing_of_list, one_thing, KnowsShown, table_of, IsSound, IfGives}
use Rattle.model_follows.proofs.CostLemmas.{ends_then}
use Rattle.model_follows.proofs.ThingLemmas.{knows_list_stays, list_stays}
use Rattle.model_follows.proofs.PartThings.{elements_are, one_of_several, length_things, length_outputs}
use Rattle.model_follows.proofs.EffectFollowing.{layout_weaker, initial_known}
use Rattle.model_follows.proofs.ScopeThings.{named_one, known_one, bound_thing, bound_known, bound_known_here}
use Rattle.model_follows.proofs.Following.{gives_map, gives_then, gives_counting, unchanged, unseen, nil_known, sound_less, sound_wider, held_after, after_unreturned, after_unseen, outputs_returned, kin_after, kin_less, kin_wider, Mine, Stage, Suited, Lawful, Follows, Did, did}
use Rattle.model_follows.proofs.PartFollowing.{book}
use Rattle.model_follows.proofs.LocalThings.{others_bound, list_behind, IsMadeInLogic}

module _ (w : World) (base : Ground) (threaded : IsThreaded w) (followed : Lawful w base threaded) (limit : ℕ) (symbols : List QualifiedName) (bg : Extends base.table (table_of base.table.packages symbols))
    (ev : Evaluator ℕ) (el : EvaluatorOf ℕ (Store ℕ)) (h : Meets w threaded base.table.packages limit ev el) (f : Follows w base (book w base threaded limit symbols) ev) where
  abbrev thy : Theory
  thy = book w base threaded limit symbols

  module _ (c : World) (mode : Mode) (scope : Scope) (stobj : ℕ) (locals : List ℕ) (producer body : Core) (formal : Option ℕ) (expected : List Out) (variables : Variables ℕ) (s : State ℕ) (t : StateOf (Store ℕ)) (values : Values)
      (suited_world : Suited w base c) (n : mode ≢ Logic) (accepted : Accepted c mode scope (WithLocal stobj locals producer body) formal expected) (formed_producer : IsFormed c producer) (formed_body : IsFormed c body)
      (several : 2 ≤ length locals) (creator : IsMadeInLogic w base threaded followed limit symbols bg ev el h f stobj s.symbols) (suited_producer : IsSuited w (length base.table.symbols) producer) (suited_body : IsSuited w (length base.table.symbols) body) (stage : Stage w base scope variables s t values) where
    abbrev inner : Scope
    inner = local_scope c scope stobj

    abbrev l : StobjList ℕ
    l = initial (layout_of w stobj)

    abbrev made : Thing
    made = creator.made

    abbrev with_it : State ℕ
    with_it = record (one_more_call s) { stobjs = (stobj, l) ∷ s.stobjs }

    abbrev whole : Core
    whole = WithLocal stobj locals producer body

    named_object : is_stobj_name c stobj ≡ true
    named_object = (local_holds c scope expected stobj locals producer (not_false (with_local_holds c scope expected stobj locals producer) (s14 c mode (here whole scope formal expected) n accepted.0))).named

    abbrev around : ℕ → Type 0
    around x = (x ≡ stobj) ⊎ ((x ≢ stobj) × IsStobj scope x)

    inner_sound : IsSound w base.table inner s.symbols ((stobj, l) ∷ s.stobjs)
    inner_sound = record {
      table = stage.sound.table;
      truth = stage.sound.truth;
      grown = stage.sound.grown;
      known = λ x i. known_by x (local_object c scope stobj x i);
      recognized = λ x i. recognized_by x (local_object c scope stobj x i);
    }
      where
        known_by : (x : ℕ) → around x → KnowsList (length s.symbols) (list_of ((stobj, l) ∷ s.stobjs) x)
        known_by x (inl e) = rw (e, same_number stobj) (initial_known (λ q. q < length s.symbols) (layout_of w stobj) (layout_weaker base.table (table_of base.table.packages s.symbols) stage.sound.grown (layout_of w stobj) (followed.layouts stobj)))
        known_by x (inr i) = rw (not_equal x stobj i.0) (stage.sound.known x i.1)

        recognized_by : (x : ℕ) → around x → recognizes by_number (layout_of w x) (as_object by_number (list_of ((stobj, l) ∷ s.stobjs) x)) ≡ true
        recognized_by x (inl e) =
            subst (λ (z : ℕ). recognizes by_number (layout_of w z) (as_object by_number (list_of ((stobj, l) ∷ s.stobjs) z)) ≡ true) (sym e)
            (ap (λ (b : Bool). recognizes by_number (layout_of w stobj) (as_object by_number (if b then l else list_of s.stobjs stobj))) (same_number stobj) ∙ is_recognized.numbered (layout_of w stobj) (followed.initials stobj))
        recognized_by x (inr i) =
            ap (λ (b : Bool). recognizes by_number (layout_of w x) (as_object by_number (if b then l else list_of s.stobjs x))) (not_equal x stobj i.0) ∙ stage.sound.recognized x i.1

    abbrev inner_lists : Held
    inner_lists = λ x. if nat_eq x stobj then made else stage.lists x

    inner_kin : AreKin w base itself inner s.symbols ((stobj, l) ∷ s.stobjs) inner_lists
    inner_kin = record { each = λ x i. go x (local_object c scope stobj x i) }
      where
        go : (x : ℕ) → around x → Kin w base s.symbols x (list_of ((stobj, l) ∷ s.stobjs) x) (inner_lists x)
        go x (inl e) = subst (λ (z : ℕ). Kin w base s.symbols z (list_of ((stobj, l) ∷ s.stobjs) z) (inner_lists z)) (sym e) (rw (same_number stobj) creator.kin)
        go x (inr i) = rw (not_equal x stobj i.0) (stage.kin.each x i.1)

    inner_named : AreHeld inner ((stobj, StobjNamed stobj) ∷ variables) s.symbols inner_lists ((stobj, made) ∷ values)
    inner_named = record {
      known = λ x k i. known_by x k (nat_eq x stobj) refl (subst (λ (m : Option Out). m ≡ Some k) (kind_bound c scope (stobj ∷ []) x) i);
      same = λ x k i. same_by x k (nat_eq x stobj) refl (subst (λ (m : Option Out). m ≡ Some k) (kind_bound c scope (stobj ∷ []) x) i);
    }
      where
        known_by : (x : ℕ) (k : Out) (b : Bool) → nat_eq x stobj ≡ b → (if b || false then Some (name_kind c x) else kind_in scope x) ≡ Some k → KnowsShown (length s.symbols) (if b then StobjNamed stobj else variable_in by_number variables x)
        known_by x k true e i = tt
        known_by x k false e i = stage.named.known x k i

        passed : (x : ℕ) (k : Out) (v : Shown ℕ) → nat_eq x stobj ≡ false → IsOfKind x k v → held s.symbols inner_lists v ≡ held s.symbols stage.lists v
        passed x k (Plain o) e i = refl
        passed x Ordinary (StobjNamed y) e i = absurd i
        passed x (worlds.Stobj z) (StobjNamed y) e i = ap (λ (b : Bool). if b then made else stage.lists y) (ap (λ (u : ℕ). nat_eq u stobj) (same i.1) ∙ e)
          where
            same : ◌≡◌ {A = Shown ℕ} (StobjNamed y) (StobjNamed x) → y ≡ x
            same g = cc

        same_by : (x : ℕ) (k : Out) (b : Bool) → nat_eq x stobj ≡ b → (if b || false then Some (name_kind c x) else kind_in scope x) ≡ Some k
            → (if b then made else value_in values x) ≡ held s.symbols inner_lists (if b then StobjNamed stobj else variable_in by_number variables x)
        same_by x k true e i = rw (same_number stobj) refl
        same_by x k false e i = stage.named.same x k i ∙ sym (passed x k (variable_in by_number variables x) e (stage.are.each x k i))

    abbrev inner_t : StateOf (Store ℕ)
    inner_t = new_places w scope stobj l (one_more_call s) (one_more_call t) stage.stands

    inside_object : (x : ℕ) → x ≢ stobj → IsStobj scope x → IsStobj inner x
    inside_object x d i = kind_bound c scope (stobj ∷ []) x ∙ (ap (λ (b : Bool). if b || false then Some (name_kind c x) else kind_in scope x) (not_equal x stobj d) ∙ i)

    abbrev logic : Counted
    logic = form_counted thy producer ((stobj, made) ∷ values)

    module _ (vs : List (Shown ℕ)) (u : State ℕ) (d : Did w base inner (name_kinds c locals) with_it inner_t logic vs u) where
      abbrev q : State ℕ
      q = unmaking lists_keeping u

      -- the lists of L with the local stobj, and without it
      abbrev last_lists : Held
      last_lists = held_after inner (name_kinds c locals) inner_lists d.mine.last

      abbrev outer_lists : Held
      outer_lists = λ x. if nat_eq x stobj then stage.lists x else last_lists x

      abbrev things : List Thing
      things = all_held u.symbols last_lists vs

      last_kin : AreKin w base itself inner u.symbols u.stobjs last_lists
      last_kin =
          kin_after w base inner (name_kinds c locals) s.symbols u.symbols ((stobj, l) ∷ s.stobjs) u.stobjs inner_lists d.mine.last (nil_known w base scope s.symbols s.stobjs stage.sound) d.mine.grown inner_sound.known
          (unchanged w inner (name_kinds c locals) with_it inner_t u d.to d.moves) inner_kin d.mine.kin

      producer_ends : Ended w logic things
      producer_ends =
          subst (λ (os : List Thing). Ended w logic os) (sym (outputs_returned inner u.symbols (name_kinds c locals) (name_kinds c locals) inner_lists d.mine.last vs d.outputs (λ x h. h))) d.mine.ends

      names_u : names u.stobjs ≡ stobj ∷ names s.stobjs
      names_u = ap (λ (o : Stobjs ℕ). names o) d.moves.stobjs ∙ names_after d.moves.writes ((stobj, l) ∷ s.stobjs)

      behind : (x : ℕ) → nat_eq x stobj ≡ false → list_of q.stobjs x ≡ list_of u.stobjs x
      behind x e = list_behind u.stobjs stobj (names s.stobjs) x names_u e

      shadow : list_of q.stobjs stobj ≡ list_of s.stobjs stobj
      shadow =
          ap (λ (o : Stobjs ℕ). list_of o stobj) (ap (drop 1) d.moves.stobjs ∙ objects_around stobj d.moves.writes l s.stobjs)
          ∙ unwritten w (λ y. y ≢ stobj) (writes_around stobj d.moves.writes) s.stobjs stobj (λ y i e. i (sym e))
          (allowed_around w stobj d.moves.writes (May inner (name_kinds c locals)) (λ y. y ≢ stobj) (λ y i. equal_or_not y stobj) d.moves.allowed)

      moved : Moves w (IsStobj scope) (one_more_call s) (one_more_call t) q (unmaking places_keeping d.to)
      moved =
          moves_around w scope stobj l (one_more_call s) (one_more_call t) stage.stands (Unit {0}) (May inner (name_kinds c locals)) (IsStobj scope) u d.to (λ y i. local_object c scope stobj y i.1)
          (λ y i. only (local_object c scope stobj y i.1)) d.moves
        where
          only : {y : ℕ} → around y → (y ≡ stobj) ⊎ IsStobj scope y
          only (inl e) = inl e
          only (inr e) = inr e.1

      stands_q : Stands w scope q.stobjs (unmaking places_keeping d.to).stobjs
      stands_q = stands_moved w scope (IsStobj scope) (one_more_call s) (one_more_call t) q (unmaking places_keeping d.to) (λ x i. i) stage.stands moved

      old : Table
      old = table_of base.table.packages s.symbols

      new : Table
      new = table_of base.table.packages u.symbols

      grown : Extends (table_of base.table.packages s.symbols) (table_of base.table.packages u.symbols)
      grown = d.mine.grown

      sound_q : IsSound w base.table scope u.symbols q.stobjs
      sound_q = record {
        table = d.mine.sound.table;
        truth = d.mine.sound.truth;
        grown = d.mine.sound.grown;
        known = λ x o. known_by x o (equal_or_not x stobj);
        recognized = λ x o. recognized_by x o (equal_or_not x stobj);
      }
        where
          known_by : (x : ℕ) → IsStobj scope x → (x ≡ stobj) ⊎ (x ≢ stobj) → KnowsList (length u.symbols) (list_of q.stobjs x)
          known_by x o (inl e) =
              subst (λ (z : ℕ). KnowsList (length u.symbols) (list_of q.stobjs z)) (sym e)
              (subst (KnowsList (length u.symbols)) (sym shadow)
              (knows_list_stays (table_of base.table.packages s.symbols) (table_of base.table.packages u.symbols) grown (list_of s.stobjs stobj) (stage.sound.known stobj (subst (IsStobj scope) e o))))
          known_by x o (inr e) = subst (KnowsList (length u.symbols)) (sym (behind x (not_equal x stobj e))) (d.mine.sound.known x (inside_object x e o))

          recognized_by : (x : ℕ) → IsStobj scope x → (x ≡ stobj) ⊎ (x ≢ stobj) → recognizes by_number (layout_of w x) (as_object by_number (list_of q.stobjs x)) ≡ true
          recognized_by x o (inl e) =
              subst (λ (z : ℕ). recognizes by_number (layout_of w z) (as_object by_number (list_of q.stobjs z)) ≡ true) (sym e)
              (ap (λ (k : StobjList ℕ). recognizes by_number (layout_of w stobj) (as_object by_number k)) shadow ∙ stage.sound.recognized stobj (subst (IsStobj scope) e o))
          recognized_by x o (inr e) =
              ap (λ (k : StobjList ℕ). recognizes by_number (layout_of w x) (as_object by_number k)) (behind x (not_equal x stobj e)) ∙ d.mine.sound.recognized x (inside_object x e o)

      kin_q : AreKin w base itself scope u.symbols q.stobjs outer_lists
      kin_q = record { each = λ x o. go x o (equal_or_not x stobj) }
        where
          go : (x : ℕ) → IsStobj scope x → (x ≡ stobj) ⊎ (x ≢ stobj) → Kin w base u.symbols x (list_of q.stobjs x) (outer_lists x)
          go x o (inl e) =
              subst (λ (z : ℕ). Kin w base u.symbols z (list_of q.stobjs z) (outer_lists z)) (sym e)
              (kin_same w base s.symbols u.symbols stobj (list_of s.stobjs stobj) (list_of q.stobjs stobj) (stage.lists stobj) (outer_lists stobj)
              (ap (thing_of_list u.symbols) shadow
              ∙ list_stays (table_of base.table.packages s.symbols) (table_of base.table.packages u.symbols) grown (list_of s.stobjs stobj) (nil_known w base scope s.symbols s.stobjs stage.sound) (stage.sound.known stobj (subst (IsStobj scope) e o)))
              (ap (λ (b : Bool). if b then stage.lists stobj else last_lists stobj) (same_number stobj)) (stage.kin.each stobj (subst (IsStobj scope) e o)))
          go x o (inr e) =
              kin_same w base u.symbols u.symbols x (list_of u.stobjs x) (list_of q.stobjs x) (last_lists x) (outer_lists x) (ap (thing_of_list u.symbols) (behind x (not_equal x stobj e)))
              (ap (λ (b : Bool). if b then stage.lists x else last_lists x) (not_equal x stobj e)) (last_kin.each x (inside_object x e o))

      abbrev outer : Scope
      outer = body_scope c scope stobj locals

      -- a name in the scope of the body is not the local stobj's, and was in scope where it is not bound
      not_it : (x : ℕ) (k : Out) → kind_in outer x ≡ Some k → nat_eq x stobj ≡ false
      not_it x k i = go (has (other_names stobj locals) x) refl (subst (λ (m : Option Out). m ≡ Some k) (kind_bound c (without (stobj ∷ []) scope) (other_names stobj locals) x) i)
        where
          bound_one : (a b : Bool) → (a && not b) ≡ true → b ≡ false
          bound_one true true e = false_true e
          bound_one true false e = refl
          bound_one false b e = false_true e

          outside_one : (b : Bool) → (if b || false then None else kind_in scope x) ≡ Some k → b ≡ false
          outside_one true e = none_some e
          outside_one false e = refl

          go : (b : Bool) → has (other_names stobj locals) x ≡ b → (if b then Some (name_kind c x) else kind_in (without (stobj ∷ []) scope) x) ≡ Some k → nat_eq x stobj ≡ false
          go true e j = bound_one (has locals x) (nat_eq x stobj) (sym (has_other stobj locals x) ∙ e)
          go false e j = outside_one (nat_eq x stobj) (sym (kind_without (stobj ∷ []) scope x) ∙ j)

      was_there : (x : ℕ) (k : Out) → kind_in outer x ≡ Some k → has locals x ≡ false → kind_in scope x ≡ Some k
      was_there x k i n =
          let not_other : has (other_names stobj locals) x ≡ false = has_other stobj locals x ∙ ap (λ (b : Bool). b && not (nat_eq x stobj)) n in
          sym (ap (λ (b : Bool). if b || false then None else kind_in scope x) (not_it x k i)) ∙ (sym (kind_without (stobj ∷ []) scope x)
          ∙ (sym (ap (λ (b : Bool). if b then Some (name_kind c x) else kind_in (without (stobj ∷ []) scope) x) not_other)
          ∙ (sym (kind_bound c (without (stobj ∷ []) scope) (other_names stobj locals) x) ∙ i)))

      object_shown : (x : ℕ) → nat_eq x stobj ≡ false → has locals x ≡ true → is_stobj_name c x ≡ true → variable_in by_number variables x ≡ StobjNamed x
      object_shown x e n o = go (local_object c scope stobj x (output_object c inner locals vs x d.outputs n o))
        where
          go : around x → variable_in by_number variables x ≡ StobjNamed x
          go (inl g) = true_false (sym (same_number stobj) ∙ (ap (λ (z : ℕ). nat_eq z stobj) (sym g) ∙ e))
          go (inr g) = (stage.are.each x (worlds.Stobj x) g.1).1

      outer_are : AreVariables outer (bound locals vs variables)
      outer_are = body_variables c scope stobj locals vs variables d.outputs stage.are

      outer_named : AreHeld outer (bound locals vs variables) u.symbols outer_lists (bind_others stobj locals things values)
      outer_named = record { known = λ x k i. known_by x k i (has locals x) refl; same = same_by }
        where
          known_by : (x : ℕ) (k : Out) → kind_in outer x ≡ Some k → (b : Bool) → has locals x ≡ b → KnowsShown (length u.symbols) (variable_in by_number (bound locals vs variables) x)
          known_by x k i true e = bound_known_here c inner u.symbols last_lists variables values (length u.symbols) locals vs d.outputs d.mine.known x e (object_shown x (not_it x k i) e)
          known_by x k i false e =
              bound_known c inner u.symbols last_lists variables values (length u.symbols) locals vs d.mine.known x
              (known_one (table_of base.table.packages s.symbols) (table_of base.table.packages u.symbols) grown scope variables values stage.lists last_lists stage.are stage.named x k (was_there x k i e))

          passed : (x : ℕ) (k : Out) (v : Shown ℕ) → nat_eq x stobj ≡ false → IsOfKind x k v → held u.symbols last_lists v ≡ held u.symbols outer_lists v
          passed x k (Plain o) e i = refl
          passed x Ordinary (StobjNamed y) e i = absurd i
          passed x (worlds.Stobj z) (StobjNamed y) e i = sym (ap (λ (b : Bool). if b then stage.lists y else last_lists y) (ap (λ (m : ℕ). nat_eq m stobj) (same i.1) ∙ e))
            where
              same : ◌≡◌ {A = Shown ℕ} (StobjNamed y) (StobjNamed x) → y ≡ x
              same g = cc

          same_by : (x : ℕ) (k : Out) → kind_in outer x ≡ Some k → value_in (bind_others stobj locals things values) x ≡ held u.symbols outer_lists (variable_in by_number (bound locals vs variables) x)
          same_by x k i =
              others_bound stobj locals things values x (not_it x k i)
              ∙ (bound_thing c inner u.symbols last_lists variables values locals vs d.outputs x
              (λ n. named_one (table_of base.table.packages s.symbols) (table_of base.table.packages u.symbols) grown scope variables values stage.lists last_lists stage.are stage.named x k (was_there x k i n)
              (λ o. after_unreturned inner (name_kinds c locals) inner_lists d.mine.last x (has_object c locals x ∙ rw n refl) ∙ ap (λ (b : Bool). if b then made else stage.lists x) (not_it x k i)))
              (object_shown x (not_it x k i))
              ∙ passed x k (variable_in by_number (bound locals vs variables) x) (not_it x k i) (outer_are.each x k i))

      things_are : element_values locals 0 producer_ends.value ≡ things
      things_are =
          let long : length things ≡ length locals = length_things u.symbols last_lists vs ∙ (length_outputs inner (name_kinds c locals) vs d.outputs ∙ length_kinds c locals) in
          ended_elements w logic things producer_ends locals (sym long) several

      ends_whole : (v : Thing) → Ends (form_counted thy body (bind_others stobj locals things values)) v → Ends (form_counted thy whole values) v
      unfolding form_value
      ends_whole v e =
          ends_then (λ budget nest start. caller thy budget nest (creator_of (definition w stobj)) [] start)
          (λ o budget nest start. then_found (form_counted thy producer ((stobj, o) ∷ values) budget nest start) (λ v calls. form_counted thy body (bind_others stobj locals (element_values locals 0 v) values) budget nest calls))
          made v creator.makes
          (ends_then logic (λ v. form_counted thy body (bind_others stobj locals (element_values locals 0 v) values)) producer_ends.value v producer_ends.ends
          (subst (λ (os : List Thing). Ends (form_counted thy body (bind_others stobj locals os values)) v) (sym things_are) e))

      -- where the body is evaluated
      body_stage : Stage w base outer (bound locals vs variables) q (unmaking places_keeping d.to) (bind_others stobj locals things values)
      body_stage = record {
        are = outer_are;
        stands = stands_less w outer scope q.stobjs (unmaking places_keeping d.to).stobjs (λ x i. body_objects c scope stobj locals vs variables d.outputs x i) stands_q;
        same = moved.same;
        sound = sound_less w base outer scope u.symbols q.stobjs (λ x i. body_objects c scope stobj locals vs variables d.outputs x i) sound_q;
        lists = outer_lists;
        kin = kin_less w base itself outer scope u.symbols q.stobjs outer_lists (λ x i. body_objects c scope stobj locals vs variables d.outputs x i) kin_q;
        named = outer_named;
      }

      after_producer : IfGives (Mine w base scope s (form_counted thy whole values)) (ev body (bound locals vs variables) q)
      unfolding form_value
      after_producer =
          gives_map (Did w base outer expected q (unmaking places_keeping d.to) (form_counted thy body (bind_others stobj locals things values))) (Mine w base scope s (form_counted thy whole values)) (ev body (bound locals vs variables) q)
          (λ given z e. record {
            last = held_after outer expected outer_lists e.mine.last;
            kin = kin_wider w base outer scope u.symbols z.symbols q.stobjs z.stobjs outer_lists (held_after outer expected outer_lists e.mine.last) (nil_known w base scope u.symbols q.stobjs sound_q) e.mine.grown sound_q.known
                (λ x i. unseen w outer expected q (unmaking places_keeping d.to) z e.to e.moves x i) (λ x i. after_unseen outer expected outer_lists e.mine.last x i) kin_q
                (kin_after w base outer expected u.symbols z.symbols q.stobjs z.stobjs outer_lists e.mine.last (nil_known w base scope u.symbols q.stobjs sound_q) e.mine.grown
                (λ x i. sound_q.known x (body_objects c scope stobj locals vs variables d.outputs x i)) (unchanged w outer expected q (unmaking places_keeping d.to) z e.to e.moves)
                (kin_less w base itself outer scope u.symbols q.stobjs outer_lists (λ x i. body_objects c scope stobj locals vs variables d.outputs x i) kin_q) e.mine.kin);
            sound = sound_wider w base outer scope u.symbols z.symbols q.stobjs z.stobjs sound_q e.mine.sound e.mine.grown (λ x i. unseen w outer expected q (unmaking places_keeping d.to) z e.to e.moves x i);
            grown = Extends-then grown e.mine.grown;
            known = e.mine.known;
            ends =
                ended_as w (form_counted thy body (bind_others stobj locals things values)) (form_counted thy whole values) (all_held z.symbols (held_after outer expected outer_lists e.mine.last) given) ends_whole
                (subst (λ (os : List Thing). Ended w (form_counted thy body (bind_others stobj locals things values)) os) (sym (outputs_returned outer z.symbols expected expected outer_lists e.mine.last given e.outputs (λ x h. h))) e.mine.ends);
          })
          (did w base threaded limit thy ev el h f c mode outer body None expected
          (record { suited_world = suited_world; runs = n; accepted = (of_with_local c mode scope formal expected stobj locals producer body accepted).1; formed = formed_body; suited = suited_body })
          (bound locals vs variables) q (unmaking places_keeping d.to) (bind_others stobj locals things values) body_stage)

    -- an outcome without the local stobj
    unmade : (D : List (Shown ℕ) → State ℕ → Type 0) (p : Outcome ℕ) → IfGives D p → IfGives (λ vs z. (u : State ℕ) × (z ≡ unmaking lists_keeping u) × D vs u) (with_state (unmaking lists_keeping) p)
    unmade D (Gives vs u) m = (u, refl, m)
    unmade D (Stops stop origin u) m = tt
    unmade D Unknown m = m

    -- where the producer is evaluated
    new_stage : Stage w base inner ((stobj, StobjNamed stobj) ∷ variables) with_it inner_t ((stobj, made) ∷ values)
    new_stage = record {
      are = local_variables c scope stobj variables named_object stage.are;
      stands = stands_new w c scope stobj l s.stobjs t.stobjs stage.stands (new_stobjs_stand.fields (layout_of w stobj));
      same = (let same : AreSame (one_more_call s) (one_more_call t) = counted_same w s t stage.same in record { symbols = same.symbols; calls = same.calls; outer = same.outer });
      sound = inner_sound;
      lists = inner_lists;
      kin = inner_kin;
      named = inner_named;
    }

    pub producer_ready : (v : StateOf (Store ℕ)) × Stage w base inner ((stobj, StobjNamed stobj) ∷ variables) with_it v ((stobj, made) ∷ values)
    producer_ready = (inner_t, new_stage)

    produced : IfGives (λ vs z. (u : State ℕ) × (z ≡ unmaking lists_keeping u) × Did w base inner (name_kinds c locals) with_it inner_t logic vs u) (counting limit s (with_fresh (on_lists w threaded base.table.packages limit) ev stobj (Some l) producer variables))
    produced =
        gives_counting (λ vs z. (u : State ℕ) × (z ≡ unmaking lists_keeping u) × Did w base inner (name_kinds c locals) with_it inner_t logic vs u) limit s (with_fresh (on_lists w threaded base.table.packages limit) ev stobj (Some l) producer variables)
        (unmade (Did w base inner (name_kinds c locals) with_it inner_t logic) (ev producer ((stobj, StobjNamed stobj) ∷ variables) with_it)
        (did w base threaded limit thy ev el h f c mode inner producer None (name_kinds c locals)
        (record { suited_world = suited_world; runs = n; accepted = (of_with_local c mode scope formal expected stobj locals producer body accepted).0; formed = formed_producer; suited = suited_producer })
        ((stobj, StobjNamed stobj) ∷ variables) with_it inner_t ((stobj, made) ∷ values) new_stage))

    -- and where the body is, once the producer gave values
    pub body_ready : IfGives (λ vs z. AreOutputs (local_scope c scope stobj) (name_kinds c locals) vs × ((v : StateOf (Store ℕ)) × (others : Values) × Stage w base (body_scope c scope stobj locals) (bound locals vs variables) z v others))
        (counting limit s (with_fresh (on_lists w threaded base.table.packages limit) ev stobj (Some l) producer variables))
    body_ready =
        gives_map (λ vs z. (u : State ℕ) × (z ≡ unmaking lists_keeping u) × Did w base inner (name_kinds c locals) with_it inner_t logic vs u)
        (λ vs z. AreOutputs (local_scope c scope stobj) (name_kinds c locals) vs × ((v : StateOf (Store ℕ)) × (others : Values) × Stage w base (body_scope c scope stobj locals) (bound locals vs variables) z v others))
        (counting limit s (with_fresh (on_lists w threaded base.table.packages limit) ev stobj (Some l) producer variables))
        (λ vs z m. (
          m.2.outputs,
          (unmaking places_keeping m.2.to, bind_others stobj locals (things vs m.0 m.2) values, subst (λ (y : State ℕ). Stage w base (body_scope c scope stobj locals) (bound locals vs variables) y (unmaking places_keeping m.2.to) (bind_others stobj locals (things vs m.0 m.2) values)) (sym m.1) (body_stage vs m.0 m.2)),
        )) produced

    pub follows_local : IfGives (Mine w base scope s (form_counted thy whole values))
        (then_with (counting limit s (with_fresh (on_lists w threaded base.table.packages limit) ev stobj (Some l) producer variables)) (λ given after. ev body (bound locals given variables) after))
    follows_local =
        gives_then (λ vs z. (u : State ℕ) × (z ≡ unmaking lists_keeping u) × Did w base inner (name_kinds c locals) with_it inner_t logic vs u) (Mine w base scope s (form_counted thy whole values))
        (counting limit s (with_fresh (on_lists w threaded base.table.packages limit) ev stobj (Some l) producer variables)) (λ given after. ev body (bound locals given variables) after)
        produced
        (λ vs z m. subst (λ (y : State ℕ). IfGives (Mine w base scope s (form_counted thy whole values)) (ev body (bound locals vs variables) y)) (sym m.1) (after_producer vs m.0 m.2))
