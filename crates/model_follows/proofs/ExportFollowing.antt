-- Functions of abstract stobjs in the logic, beside checked evaluation.
use Rattle.std.proofs.Common.{◌≡◌, ℕ, suc, ◌<◌, List, [], ◌∷◌, map, length, Bool, true, false, Option, Some, None, refl, sym, ap, ◌∙◌, subst, inl, inr}
use Rattle.std.specs.Prelude.{◌⊎◌, nat_eq, if◌then◌else◌}
use Rattle.std.proofs.lemmas.Bool.{eqb-true}
use Rattle.model_objects.specs.Object.{Symbol}
use Rattle.model_symbols.specs.Symbols.{QualifiedName, Table, symbol_at, form_of}
use Rattle.model_symbols.specs.Growth.{Extends}
use Rattle.model_symbols.specs.Opening.{nil, truth, truth_name}
use Rattle.model_symbols.proofs.NameLemmas.{symbol_at-is}
use Rattle.model_symbols.proofs.TableLemmas.{Extends-self}
use Rattle.model_prims.specs.Kinds.{by_number, by_name, is_nil, truth_of}
use Rattle.model_prims.proofs.NamingLemmas.{nil_named}
use Rattle.model_prims.proofs.FollowLemmas.{is_naming}
use Rattle.model_lists.specs.Lists.{StobjList, as_object}
use Rattle.model_lists.specs.Layouts.{Layout, initial}
use Rattle.model_terms.specs.declared.role.AbstractRole.{AbstractRole}
use Rattle.model_terms.specs.declared.role.AbstractRole.TheVariants as abstract_role
use Rattle.model_terms.specs.Worlds.{World, Definition, AbstractDescriptor, FunctionOfAbstract, OfAbstract, Abstract, definition, Out, Ordinary, Scope}
use Rattle.model_terms.specs.Worlds as worlds
use Rattle.model_terms.specs.Classes as classes
use Rattle.model_terms.specs.Classes.{has, repeats}
use Rattle.std.specs.List.{zip}
use Rattle.model_terms.specs.Sites.{one_ordinary}
use Rattle.model_eval.specs.Outcomes.{Shown, Plain, StobjNamed, Stobjs, StateOf, State, OutcomeOf, Outcome, Gives, Stops, Unknown, one_more_call, cut_at}
use Rattle.model_eval.specs.PlacesKeeping.{Store}
use Rattle.model_eval.specs.ListsKeeping.{lists_keeping}
use Rattle.model_eval.specs.Variables.{list_of, ordinary, plain, first_stobj}
use Rattle.model_eval.specs.Evaluated.{Evaluator, EvaluatorOf, with_guard, refused, by_definition, exec_called, of_abstract, is_false}
use Rattle.model_eval.specs.Checked.{checked_export, inside_after}
use Rattle.model_logic.specs.Logic.{Theory, Thing, bind, creator_of, EndsWith, CallEndsWith}
use Rattle.model_eval_laws.proofs.Lists.{same_number}
use Rattle.model_abstract.specs.Rules.{out_parts}
use Rattle.model_abstract.specs.Corresponding.{CallHolds}
use Rattle.model_accepted.specs.Threaded.{layout_of, IsConcrete, abstracted, IsExport, IsThreaded}
use Rattle.model_accepted.specs.StobjScopes.{IsStobj, AreOutputs}
use Rattle.model_in_place.specs.Standing.{Stands, AreSame}
use Rattle.model_in_place.specs.Writes.{Moves}
use Rattle.model_in_place.specs.Calls.{names_in, AreArguments}
use Rattle.model_accepted.proofs.AcceptLemmas.{true_false}
use Rattle.model_in_place.proofs.WriteLemmas.{stands_less, counted_same}
use Rattle.model_in_place.proofs.ExportLemmas.{only, only_object, only_is, only_arguments}
use Rattle.model_in_place.proofs.CallMeeting.{May, results, on_lists, at_places, Meets, meets_definition, only_argument}
use Rattle.model_follows.specs.Costs.{Counted, caller, form_counted, Ends}
use Rattle.model_follows.specs.Follows.{thing_of_list, KnowsAll, table_of, IsSound, IfGives}
use Rattle.model_follows.specs.Abstract.{arguments_with, OutputsCorrespond, CreatorHolds, ObligationsInLogic, abstract_of, abstract_ground, IsOfAbstract, IsExportOf, IsFollowedBeside}
use Rattle.model_follows.proofs.EndedLemmas.{ended_one, ended_as, ended_single, ended_outs, ended_by}
use Rattle.model_follows.proofs.PartThings.{length_things}
use Rattle.model_follows.proofs.HomeLemmas.{homes_of}
use Rattle.model_follows.proofs.HeldThings.{Ground, Held, all_held, ground_book, IsViewed, KinBy, Kin, itself, by_names, kin_plain, plain_kin, kin_same}
use Rattle.model_follows.proofs.ThingLemmas.{knows_truth, arguments_in, list_stays}
use Rattle.model_follows.proofs.CostLemmas.{ends_call, ends_with}
use Rattle.model_follows.proofs.LaterLemmas.{call_costs}
use Rattle.model_follows.proofs.EarlierLemmas.{logic_function_ends, ends_once}
use Rattle.model_follows.proofs.LayoutThings.{initial_named}
use Rattle.model_follows.proofs.EffectFollowing.{book_layout}
use Rattle.model_follows.proofs.FormalThings.{AreSeen}
use Rattle.model_follows.proofs.Following.{gives_map, gives_both, gives_counting, gives_moves, unchanged, unseen, nil_known, sound_less, sound_wider, MineAs, Lawful, Follows, DidAs}
use Rattle.model_follows.proofs.PartFollowing.{book, IsQuiet, quiet_things}
use Rattle.model_follows.proofs.CalledFollowing.{CallMine, defined_counted, Calling, follows_guarded, follows_definition, AbstractsFollow}
use Rattle.model_follows.proofs.ExportThings.{arguments_are, exec_arguments, only_objects, exec_seen, export_seen, HaveShape, shape_is, shape_length, IsReturned, returned, no_objects_renamed}

-- ---- outcomes of exports

gives_cut : (P : List (Shown ℕ) → State ℕ → Type 0) (n : ℕ) (a : Outcome ℕ) → IfGives P a → IfGives P (cut_at n a)
gives_cut P n (Gives vs u) h = h
gives_cut P n (Stops stop origin u) h = tt
gives_cut P n Unknown h = h

gives_inside : (P : List (Shown ℕ) → State ℕ → Type 0) (vs : List (Shown ℕ)) (before : Stobjs ℕ) (name outer : ℕ) (a : Outcome ℕ) → IfGives (λ given z. P given (record z { outer = outer })) a → IfGives P (inside_after lists_keeping vs before name outer a)
gives_inside P vs before name outer (Gives given z) h = h
gives_inside P vs before name outer (Stops stop origin z) h = tt
gives_inside P vs before name outer Unknown h = h

-- ---- views

module _ (w : World) (table : Table) (symbols : List QualifiedName) (threaded : IsThreaded w) (followed : IsFollowedBeside w (abstract_ground w table symbols) threaded) (limit : ℕ) (bg : Extends table (table_of table.packages symbols))
    (obligations : ObligationsInLogic (ground_book w (abstract_ground w table symbols))) where
  abbrev base : Ground
  base = abstract_ground w table symbols

  abbrev thy : Theory
  thy = ground_book w (abstract_ground w table symbols)

  abbrev law : Lawful w (abstract_ground w table symbols) threaded
  law = followed.lawful

  viewed : (x y : ℕ) (d : AbstractDescriptor) (now : List QualifiedName) (l : StobjList ℕ) (a : Thing) → definition w x ≡ Some (Abstract d) → base.view x ≡ base.view y → Kin w base now y l a → IsViewed thy d (thing_of_list now l) a
  viewed x y d now l a e f k = subst (λ (v : Option AbstractDescriptor). KinBy thy v (thing_of_list now l) a) (sym f ∙ ap abstract_of e) k.kin

  view_kin : (x y : ℕ) (d : AbstractDescriptor) (now : List QualifiedName) (l : StobjList ℕ) (a : Thing) → definition w x ≡ Some (Abstract d) → base.view x ≡ base.view y → IsViewed thy d (thing_of_list now l) a → Kin w base now y l a
  view_kin x y d now l a e f k = record { kin = subst (λ (v : Option AbstractDescriptor). KinBy thy v (thing_of_list now l) a) (sym (ap abstract_of e) ∙ f) k }

  module _ (ev : Evaluator ℕ) (el : EvaluatorOf ℕ (Store ℕ)) (h : Meets w threaded table.packages limit ev el) (f : Follows w (abstract_ground w table symbols) (book w (abstract_ground w table symbols) threaded limit symbols) ev) (scope : Scope) (name : ℕ) (g : FunctionOfAbstract)
      (vs : List (Shown ℕ)) (a : AreArguments w scope g.signature.ins vs) (seen : AreSeen (abstract_ground w table symbols) itself g.signature.ins vs) (r : repeats (names_in vs) ≡ false) (there : definition w name ≡ Some (OfAbstract g)) where
    abbrev of : IsOfAbstract w g
    of = followed.abstracts name g there

    abbrev d : AbstractDescriptor
    d = of.descriptor

    abbrev Here : State ℕ → StateOf (Store ℕ) → Type 0
    Here s t = Calling w (abstract_ground w table symbols) threaded followed.lawful limit symbols ev el h f scope bg itself g.signature.ins vs a seen r s t

    abbrev logic_counted : List Thing → Counted
    logic_counted args = defined_counted w (abstract_ground w table symbols) threaded followed.lawful limit symbols ev el h f scope bg itself (Some (OfAbstract g)) args

    abbrev Gets : State ℕ → Counted → Outcome ℕ → Type 0
    Gets s logic p = CallMine w (abstract_ground w table symbols) threaded followed.lawful limit symbols ev el h f scope bg itself s logic p

    -- what the logic function gives, the function of the stobj gives
    logic_ends : (args : List Thing) (v : Thing) → CallEndsWith thy g.logic args v → Ends (logic_counted args) v
    logic_ends args v e = logic_function_ends thy g.logic args v of.logic (call_costs thy g.logic args v e)

    -- ---- recognizers

    only_actual : (stobj : ℕ) (vs : List (Shown ℕ)) → AreArguments w scope (worlds.Stobj stobj ∷ []) vs → AreSeen base itself (worlds.Stobj stobj ∷ []) vs → (y : ℕ) × (vs ≡ StobjNamed y ∷ []) × IsStobj scope y × (base.view stobj ≡ base.view y)
    only_actual stobj [] a s = absurd a
    only_actual stobj (Plain o ∷ vs) a s = absurd a.0
    only_actual stobj (StobjNamed y ∷ (v ∷ vs)) a s = absurd a.1
    only_actual stobj (StobjNamed y ∷ []) a s = (y, refl, a.0.0, s.0)

    follows_recognizer : g.role ≡ abstract_role.Recognizer → (s : State ℕ) (t : StateOf (Store ℕ)) (before : Here s t) → Gets s (logic_counted (all_held s.symbols before.lists vs)) (Gives (plain (truth_of by_number true ∷ [])) s)
    follows_recognizer e s t before =
        let is : (g.logic ≡ d.recognizer.logic) × (g.signature.ins ≡ worlds.Stobj g.stobj ∷ []) = of.recognizer e in
        let one : (y : ℕ) × (vs ≡ StobjNamed y ∷ []) × IsStobj scope y × (base.view g.stobj ≡ base.view y)
        = only_actual g.stobj vs (subst (λ (ins : List Out). AreArguments w scope ins vs) is.1 a) (subst (λ (ins : List Out). AreSeen base itself ins vs) is.1 seen) in
        let view : IsViewed thy d (thing_of_list s.symbols (list_of s.stobjs one.0)) (before.lists one.0) = viewed g.stobj one.0 d s.symbols (list_of s.stobjs one.0) (before.lists one.0) of.stobj one.3 (before.kin.each one.0 one.2) in
        record {
          last = before.lists;
          kin = before.kin;
          sound = before.sound;
          grown = Extends-self (table_of table.packages s.symbols);
          known = (knows_truth (table_of table.packages s.symbols) before.sound.truth, tt);
          ends =
              ended_one w (logic_counted (all_held s.symbols before.lists vs)) (form_of s.symbols (truth_of by_number true) ∷ [])
              (subst (λ (v : Thing). Ends (logic_counted (all_held s.symbols before.lists vs)) v) (ap Symbol (sym (symbol_at-is s.symbols truth truth_name before.sound.truth.at_truth)))
              (subst (λ (zs : List (Shown ℕ)). Ends (logic_counted (all_held s.symbols before.lists zs)) (Symbol truth_name)) (sym one.1)
              (logic_ends (before.lists one.0 ∷ []) (Symbol truth_name) (subst (λ (q : ℕ). CallEndsWith thy q (before.lists one.0 ∷ []) (Symbol truth_name)) (sym is.0) view.well_formed))));
        }

    -- ---- exports

    module _ (is : g.role ≡ abstract_role.Export) where
      abbrev x : IsExport w g
      x = threaded.exports name g there is

      abbrev beside : IsExportOf w (abstract_ground w table symbols) g (threaded.exports name g there is) (followed.abstracts name g there).descriptor
      beside = followed.exports name g there is

      b : AreArguments w scope x.signature.ins vs
      b = exec_arguments w scope g.stobj x.foundation x.signature.ins vs x.alike (only_objects x.foundation x.signature.ins x.only) (subst (λ (ins : List Out). AreArguments w scope ins vs) x.ins a)

      one : (y : ℕ) × (names_in vs ≡ y ∷ []) × IsStobj scope y
      one =
          let found : (y : ℕ) × (first_stobj vs ≡ Some y) × (names_in vs ≡ y ∷ []) × IsStobj scope y × (layout_of w x.foundation ≡ layout_of w y) = only_argument w threaded table.packages limit ev el h scope x.foundation x.signature.ins vs b x.only in
          (found.0, found.2, found.3)

      length_arguments : (ins : List Out) (vs : List (Shown ℕ)) → AreArguments w scope ins vs → length vs ≡ length ins
      length_arguments [] [] h = refl
      length_arguments [] (v ∷ vs) h = absurd h
      length_arguments (k ∷ ks) [] h = absurd h
      length_arguments (k ∷ ks) (v ∷ vs) h = ap (λ (n : ℕ). suc n) (length_arguments ks vs h.1)

      abbrev y : ℕ
      y = one.0

      seen_y : base.view g.stobj ≡ base.view y
      seen_y = export_seen base scope w g.stobj x.signature.ins vs y (subst (λ (ins : List Out). AreArguments w scope ins vs) x.ins a) (subst (λ (ins : List Out). AreSeen base itself ins vs) x.ins seen) one.1

      args_are : (now : List QualifiedName) (lists : Held) → all_held now lists vs ≡ arguments_with g.signature.ins (map (form_of now) (ordinary vs)) (lists y)
      args_are now lists = arguments_are w scope g.signature.ins vs y now lists a one.1

      b_only : AreArguments w (only y) x.signature.ins vs
      b_only = only_arguments w scope y x.signature.ins vs one.1 b

      abbrev as_foundation : ℕ → ℕ
      as_foundation z = x.foundation

      only_seen : AreSeen base as_foundation x.signature.ins vs
      only_seen = exec_seen base x.foundation x.signature.ins vs (only_objects x.foundation x.signature.ins x.only)

      plain_foundation : base.view x.foundation ≡ None
      plain_foundation = ap base.view beside.foundation ∙ beside.concrete

      inside_scope : (q : ℕ) → IsStobj (only y) q → IsStobj scope q
      inside_scope q i = subst (IsStobj scope) (sym (only_is y q i)) one.2

      abbrev outs : List Out
      outs = x.signature.outs

      abbrev given_outs : List Out
      given_outs = results x.signature.ins vs x.signature.outs

      not_abstract : (q : Definition) (k : FunctionOfAbstract) → IsConcrete q → q ≡ OfAbstract k → ⊥
      not_abstract q k i e = subst IsConcrete e i

      -- what the exec function does
      record DidExec (u : State ℕ) (v : StateOf (Store ℕ)) (given : List (Shown ℕ)) (z : State ℕ) : Type 0 where
        outputs : AreOutputs (only y) given_outs given
        to : StateOf (Store ℕ)
        moves : Moves w (May (only y) given_outs) u v z to
        mine : MineAs w base as_foundation (only y) u (λ budget nest start. caller thy budget nest g.exec (all_held u.symbols (by_names u.symbols u.stobjs) vs) start) given z

      exec_did : (u : State ℕ) (v : StateOf (Store ℕ)) → Stands w scope u.stobjs v.stobjs → AreSame u v → IsSound w table scope u.symbols u.stobjs → KnowsAll (length u.symbols) vs
          → IfGives (DidExec u v) (exec_called (on_lists w threaded table.packages limit) ev vs g.exec u)
      unfolding exec_called
      exec_did u v stands same sound known =
          subst (λ (q : Option Definition). IfGives (DidExec u v) (by_definition (on_lists w threaded table.packages limit) ev go q g.exec vs u)) (sym x.runs.stands)
          (gives_map (λ given z. (AreOutputs (only y) given_outs given × ((v2 : StateOf (Store ℕ)) × Moves w (May (only y) given_outs) u v z v2)) × MineAs w base as_foundation (only y) u counted given z)
          (DidExec u v) (by_definition (on_lists w threaded table.packages limit) ev go (Some x.runs.there) g.exec vs u)
          (λ given z m. record {
            outputs = m.0.0;
            to = m.0.1.0;
            moves = m.0.1.1;
            mine = record {
              last = m.1.last;
              kin = m.1.kin;
              sound = m.1.sound;
              grown = m.1.grown;
              known = m.1.known;
              ends =
                  ended_as w counted (λ budget nest start. caller thy budget nest g.exec (all_held u.symbols (by_names u.symbols u.stobjs) vs) start) (all_held z.symbols m.1.last given)
                  (λ r e. ends_call thy g.exec (all_held u.symbols (by_names u.symbols u.stobjs) vs) r
                  (subst (λ (q : Option Definition). Ends (defined_counted w base threaded law limit symbols ev el h f (only y) bg as_foundation q (all_held u.symbols (by_names u.symbols u.stobjs) vs)) r) (sym x.runs.stands) e))
                  m.1.ends;
            };
          })
          (gives_both (λ given z. AreOutputs (only y) given_outs given × ((v2 : StateOf (Store ℕ)) × Moves w (May (only y) given_outs) u v z v2)) (MineAs w base as_foundation (only y) u counted)
          (by_definition (on_lists w threaded table.packages limit) ev go (Some x.runs.there) g.exec vs u)
          (gives_moves w (AreOutputs (only y) given_outs) (May (only y) given_outs) (IsStobj (only y)) u v (by_definition (on_lists w threaded table.packages limit) ev go (Some x.runs.there) g.exec vs u)
          (by_definition (at_places w threaded table.packages limit) el to_places (Some x.runs.there) g.exec vs v)
          (meets_definition w threaded table.packages limit ev el h (only y) go to_places g.exec x.signature vs x.runs.there x.runs.stands x.runs.signed x.runs.callable x.runs.executable b_only r u v stands_only same
          (λ k e. absurd (not_abstract x.runs.there k x.concrete e))))
          (follows_definition w base threaded law limit symbols ev el h f (only y) bg as_foundation x.signature.ins vs b_only only_seen r go g.exec x.signature x.runs.there refl x.runs.stands x.runs.signed x.runs.callable x.runs.executable u v
          (record {
            stands = stands_only;
            same = same;
            sound = sound_less w base (only y) scope u.symbols u.stobjs inside_scope sound;
            known = known;
            lists = by_names u.symbols u.stobjs;
            kin = record { each = λ q i. kin_plain w base u.symbols x.foundation (list_of u.stobjs q) plain_foundation };
          })
          (λ k e. absurd (not_abstract x.runs.there k x.concrete e)))))
        where
          go : FunctionOfAbstract → State ℕ → Outcome ℕ
          go k after = refused (on_lists w threaded table.packages limit) g.exec vs after

          to_places : FunctionOfAbstract → StateOf (Store ℕ) → OutcomeOf ℕ (Store ℕ)
          to_places k after = refused (at_places w threaded table.packages limit) g.exec vs after

          stands_only : Stands w (only y) u.stobjs v.stobjs
          stands_only = stands_less w (only y) scope u.stobjs v.stobjs inside_scope stands

          counted : Counted
          counted = defined_counted w base threaded law limit symbols ev el h f (only y) bg as_foundation (Some x.runs.there) (all_held u.symbols (by_names u.symbols u.stobjs) vs)

      -- what the logic function gives belongs to that
      export_done : (u : State ℕ) (v v1 : StateOf (Store ℕ)) (before : Here u v) (test : Thing) → EndsWith thy g.guard (bind g.formals (all_held u.symbols before.lists vs) []) test → is_nil by_name test ≡ false
          → (outer : ℕ) (given : List (Shown ℕ)) (z : State ℕ) → DidExec (one_more_call u) v1 given z → MineAs w base itself scope u (logic_counted (all_held u.symbols before.lists vs)) given (record z { outer = outer })
      export_done u v v1 before test guard_ends not_nil outer given z m = by_part (returned thy d g.stobj y z.symbols m.mine.last x.foundation outs given parts x.only_outs beside.once shape corresponding)
        where
          os : List Thing
          os = map (form_of u.symbols) (ordinary vs)

          here : IsViewed thy d (thing_of_list u.symbols (list_of u.stobjs y)) (before.lists y)
          here = viewed g.stobj y d u.symbols (list_of u.stobjs y) (before.lists y) of.stobj seen_y (before.kin.each y one.2)

          holds : (e : Thing) × (l : Thing) × CallEndsWith thy g.exec (arguments_with g.signature.ins os (thing_of_list u.symbols (list_of u.stobjs y))) e × CallEndsWith thy g.logic (arguments_with g.signature.ins os (before.lists y)) l
              × OutputsCorrespond thy d g.signature.outs (out_parts thy 0 g.signature.outs e) (out_parts thy 0 g.signature.outs l)
          holds =
              (obligations.exports name d g there is of.stobj).holds os (thing_of_list u.symbols (list_of u.stobjs y)) (before.lists y) test
              (ap (λ (args : List Thing). length args) (sym (args_are u.symbols before.lists)) ∙ (length_things u.symbols before.lists vs ∙ length_arguments g.signature.ins vs a))
              (homes_of (table_of table.packages u.symbols) thy refl before.sound.table vs before.known) here.homes here.corresponding here.well_formed
              (subst (λ (args : List Thing). EndsWith thy g.guard (bind g.formals args []) test) (args_are u.symbols before.lists) guard_ends) not_nil

          parts : List Thing
          parts = out_parts thy 0 g.signature.outs holds.1

          shape : HaveShape y outs given
          shape = shape_is y (zip (classes.stobjs x.signature.ins) (names_in vs)) outs given m.outputs

          exec_value : holds.0 ≡ m.mine.ends.value
          exec_value =
              ends_once (λ budget nest start. caller thy budget nest g.exec (arguments_with g.signature.ins os (thing_of_list u.symbols (list_of u.stobjs y))) start) holds.0 m.mine.ends.value
              (call_costs thy g.exec (arguments_with g.signature.ins os (thing_of_list u.symbols (list_of u.stobjs y))) holds.0 holds.2)
              (subst (λ (args : List Thing). Ends (λ budget nest start. caller thy budget nest g.exec args start) m.mine.ends.value) (args_are u.symbols (by_names u.symbols u.stobjs)) m.mine.ends.ends)

          long : length g.signature.outs ≡ length (all_held z.symbols m.mine.last given)
          long = ap (λ (ks : List Out). length ks) x.outs ∙ shape_length y g.stobj outs given z.symbols m.mine.last shape

          exec_parts : out_parts thy 0 g.signature.outs holds.0 ≡ all_held z.symbols m.mine.last given
          exec_parts =
              ap (out_parts thy 0 g.signature.outs) exec_value
              ∙ ended_outs w (λ budget nest start. caller thy budget nest g.exec (all_held u.symbols (by_names u.symbols u.stobjs) vs) start) (all_held z.symbols m.mine.last given) m.mine.ends thy g.signature.outs long

          corresponding : OutputsCorrespond thy d (map (abstracted g.stobj) outs) (all_held z.symbols m.mine.last given) parts
          corresponding =
              subst (λ (ks : List Out). OutputsCorrespond thy d ks (all_held z.symbols m.mine.last given) parts) x.outs
              (subst (λ (es : List Thing). OutputsCorrespond thy d g.signature.outs es parts) exec_parts holds.4)

          nils : nil < length u.symbols
          nils = nil_known w base scope u.symbols u.stobjs before.sound

          with_part : (part : Thing) → Kin w base z.symbols y (list_of z.stobjs y) part → all_held z.symbols (λ q. if nat_eq q y then part else before.lists q) given ≡ parts
              → MineAs w base itself scope u (logic_counted (all_held u.symbols before.lists vs)) given (record z { outer = outer })
          with_part part k all = record {
            last = λ q. if nat_eq q y then part else before.lists q;
            kin = record { each = λ q i. kin_by q i (nat_eq q y) refl };
            sound =
                sound_wider w base (only y) scope u.symbols z.symbols u.stobjs z.stobjs before.sound m.mine.sound m.mine.grown (λ q n. unseen w (only y) given_outs (one_more_call u) v1 z m.to m.moves q n);
            grown = m.mine.grown;
            known = m.mine.known;
            ends =
                ended_by w (logic_counted (all_held u.symbols before.lists vs)) (all_held z.symbols (λ q. if nat_eq q y then part else before.lists q) given) thy g.signature.outs holds.1
                (subst (λ (args : List Thing). Ends (logic_counted args) holds.1) (sym (args_are u.symbols before.lists)) (logic_ends (arguments_with g.signature.ins os (before.lists y)) holds.1 holds.3))
                (ap (λ (ks : List Out). length ks) x.outs ∙ shape_length y g.stobj outs given z.symbols (λ q. if nat_eq q y then part else before.lists q) shape) (sym all) (λ none. none name g there);
          }
            where
              kin_by : (q : ℕ) → IsStobj scope q → (t : Bool) → nat_eq q y ≡ t → Kin w base z.symbols q (list_of z.stobjs q) (if t then part else before.lists q)
              kin_by q i true e = subst (λ (p : ℕ). Kin w base z.symbols p (list_of z.stobjs p) part) (sym (eqb-true q y e)) k
              kin_by q i false e =
                  kin_same w base u.symbols z.symbols q (list_of u.stobjs q) (list_of z.stobjs q) (before.lists q) (before.lists q)
                  (ap (thing_of_list z.symbols) (unseen w (only y) given_outs (one_more_call u) v1 z m.to m.moves q (λ j. true_false (sym (same_number y) ∙ (ap (λ (p : ℕ). nat_eq p y) (sym (only_is y q j)) ∙ e))))
                  ∙ list_stays (table_of table.packages u.symbols) (table_of table.packages z.symbols) m.mine.grown (list_of u.stobjs q) nils (before.sound.known q i)) refl (before.kin.each q i)

          by_part : IsReturned thy d g.stobj y z.symbols m.mine.last given parts ⊎ ((classes.stobjs outs ≡ []) × ((lists : Held) → all_held z.symbols lists given ≡ parts))
              → MineAs w base itself scope u (logic_counted (all_held u.symbols before.lists vs)) given (record z { outer = outer })
          by_part (inl p) =
              with_part p.part
              (view_kin g.stobj y d z.symbols (list_of z.stobjs y) p.part of.stobj seen_y
              (record {
                corresponding =
                    subst (λ (c : Thing). CallHolds thy d.corr (c ∷ p.part ∷ [])) (plain_kin w base z.symbols x.foundation (list_of z.stobjs y) (m.mine.last y) plain_foundation (m.mine.kin.each y (only_object y))) p.corresponding;
                well_formed = p.well_formed;
                homes = p.homes;
              }))
              (p.all (λ q. if nat_eq q y then p.part else before.lists q) (ap (λ (t : Bool). if t then p.part else before.lists y) (same_number y)))
          by_part (inr p) =
              with_part (before.lists y)
              (kin_same w base u.symbols z.symbols y (list_of u.stobjs y) (list_of z.stobjs y) (before.lists y) (before.lists y)
              (ap (thing_of_list z.symbols)
              (unchanged w (only y) given_outs (one_more_call u) v1 z m.to m.moves y (ap (λ (ns : List ℕ). has ns y) (no_objects_renamed (zip (classes.stobjs x.signature.ins) (names_in vs)) outs p.0)))
              ∙ list_stays (table_of table.packages u.symbols) (table_of table.packages z.symbols) m.mine.grown (list_of u.stobjs y) nils (before.sound.known y one.2)) refl (before.kin.each y one.2))
              (p.1 (λ q. if nat_eq q y then before.lists y else before.lists q))

      abbrev exec : State ℕ → Outcome ℕ
      exec = exec_called (on_lists w threaded table.packages limit) ev vs g.exec

      after_guard : (s : State ℕ) (t : StateOf (Store ℕ)) (before : Here s t) (given : List (Shown ℕ)) (u : State ℕ) (v : StateOf (Store ℕ)) (after : Here u v) → IsQuiet w base threaded limit symbols scope s u before.lists after.lists
          → is_false (on_lists w threaded table.packages limit) given ≡ false → DidAs w base itself scope one_ordinary s t (form_counted thy g.guard (bind g.formals (all_held s.symbols before.lists vs) [])) given u
          → Gets u (logic_counted (all_held s.symbols before.lists vs)) (checked_export lists_keeping limit g vs s.stobjs exec u)
      after_guard s t before [] u v after quiet tested did = absurd did.outputs
      after_guard s t before (p ∷ (q ∷ qs)) u v after quiet tested did = absurd did.outputs.1
      after_guard s t before (StobjNamed p ∷ []) u v after quiet tested did = absurd did.outputs.0
      after_guard s t before (Plain o ∷ []) u v after quiet tested did =
          subst (λ (args : List Thing). Gets u (logic_counted args) (checked_export lists_keeping limit g vs s.stobjs exec u)) same_args
          (gives_counting (MineAs w base itself scope u whole) limit u (λ z. inside_after lists_keeping vs s.stobjs g.name u.outer (exec z))
          (gives_inside (MineAs w base itself scope u whole) vs s.stobjs g.name u.outer (exec (one_more_call u))
          (gives_map (DidExec (one_more_call u) (one_more_call v)) (λ given z. MineAs w base itself scope u whole given (record z { outer = u.outer })) (exec (one_more_call u))
          (λ given z m. export_done u v (one_more_call v) after (form_of u.symbols o) guard_ends not_nil u.outer given z m)
          (exec_did (one_more_call u) (one_more_call v) after.stands (counted_same w u v after.same) after.sound after.known))))
        where
          whole : Counted
          whole = logic_counted (all_held u.symbols after.lists vs)

          same_args : all_held u.symbols after.lists vs ≡ all_held s.symbols before.lists vs
          same_args = quiet_things w base threaded limit symbols scope s u before.lists after.lists vs quiet (arguments_in w scope g.signature.ins vs a) before.known

          guard_ends : EndsWith thy g.guard (bind g.formals (all_held u.symbols after.lists vs) []) (form_of u.symbols o)
          guard_ends =
              subst (λ (args : List Thing). EndsWith thy g.guard (bind g.formals args []) (form_of u.symbols o)) (sym same_args) (ends_with thy g.guard (bind g.formals (all_held s.symbols before.lists vs) []) (form_of u.symbols o) (ended_single w (form_counted thy g.guard (bind g.formals (all_held s.symbols before.lists vs) [])) (form_of u.symbols o) did.mine.ends))

          not_nil : is_nil by_name (form_of u.symbols o) ≡ false
          not_nil =
              nil_named (symbol_at u.symbols) (λ n. n < length u.symbols) (is_naming (table_of table.packages u.symbols) did.mine.sound.table did.mine.sound.truth) o did.mine.known.0 ∙ tested

      follows_export : (s : State ℕ) (t : StateOf (Store ℕ)) (before : Here s t)
          → Gets s (logic_counted (all_held s.symbols before.lists vs)) (cut_at s.outer (with_guard (on_lists w threaded table.packages limit) ev g.name g.formals g.guard vs (checked_export lists_keeping limit g vs s.stobjs exec) s))
      follows_export s t before =
          gives_cut (MineAs w base itself scope s (logic_counted (all_held s.symbols before.lists vs))) s.outer (with_guard (on_lists w threaded table.packages limit) ev g.name g.formals g.guard vs (checked_export lists_keeping limit g vs s.stobjs exec) s)
          (follows_guarded w base threaded law limit symbols ev el h f scope bg itself g.signature.ins vs a seen r g.name g.formals g.guard (logic_counted (all_held s.symbols before.lists vs)) (checked_export lists_keeping limit g vs s.stobjs exec)
          x.formals x.distinct x.guard beside.seen_in beside.suited s t before (λ given u v after quiet tested did. after_guard s t before given u v after quiet tested did))

    -- ---- every function

    follows_role : (role : AbstractRole) → g.role ≡ role → (s : State ℕ) (t : StateOf (Store ℕ)) (before : Here s t)
        → Gets s (logic_counted (all_held s.symbols before.lists vs)) (of_abstract (on_lists w threaded table.packages limit) ev (exec_called (on_lists w threaded table.packages limit) ev vs) g role vs s)
    follows_role abstract_role.Recognizer e s t before = follows_recognizer e s t before
    follows_role abstract_role.Creator e s t before = tt
    follows_role abstract_role.Export e s t before = follows_export e s t before

  pub abstracts_follow : AbstractsFollow w (abstract_ground w table symbols) threaded followed.lawful limit symbols bg
  abstracts_follow = record {
    follows = λ ev el h f scope name g vs a seen r there s t before. follows_role ev el h f scope name g vs a seen r there g.role refl s t before;
    makes = λ stobj c scope now stobjs sound.
        let made : CreatorHolds thy stobj c.descriptor = obligations.creators stobj c.descriptor c.stobj in (
          made.made,
          ends_call thy (creator_of (definition w stobj)) [] made.made
              (rw c.there (logic_function_ends thy c.creator.logic [] made.made c.logic (call_costs thy c.creator.logic [] made.made (subst (λ (q : ℕ). CallEndsWith thy q [] made.made) (sym c.makes) made.ends)))),
          record {
            kin = subst (λ (v : Option AbstractDescriptor). KinBy thy v (thing_of_list now (initial (layout_of w stobj))) made.made) (sym (ap abstract_of c.stobj))
                (record {
                  corresponding =
                      subst (λ (l : Thing). CallHolds thy c.descriptor.corr (l ∷ made.made ∷ []))
                      (ap (λ (m : Layout QualifiedName). as_object by_name (initial m)) (book_layout w base threaded law limit symbols scope bg itself now sound.grown stobj)
                      ∙ initial_named (symbol_at now) (λ q. q < length now) (is_naming (table_of table.packages now) sound.table sound.truth) (layout_of w stobj))
                      made.corresponds;
                  well_formed = made.well_formed;
                  homes = made.homes;
                });
          },
        );
  }
