-- Functions of abstract stobjs: a recognizer, and an export, which gives the value of its logic function.
use Rattle.std.proofs.Common.{◌≡◌, ℕ, ◌+◌, ◌≤◌, ◌<◌, List, [], ◌∷◌, map, length, Bool, true, false, Option, Some, refl, sym, ap, ◌∙◌, subst, inl, inr, arith}
use Rattle.std.specs.Prelude.{◌⊎◌, nat_lt, option_map, if◌then◌else◌}
use Rattle.std.specs.List.{zip}
use Rattle.model_terms.specs.Worlds.{AbstractDescriptor, FunctionOfAbstract, OfAbstract, Out, Scope, World, definition}
use Rattle.model_terms.specs.declared.role.AbstractRole.{AbstractRole}
use Rattle.model_answers.specs.Beside.{AlikeBy, AnswersAs, AreBeside, GivesAs, Run}
use Rattle.model_answers.proofs.Setting.{Answers, alike_kin, naming, nils, things}
use Rattle.model_in_place.specs.Calls.{AreArguments, names_in}
use Rattle.model_follows.proofs.HeldThings.{AreKin, Ground, Held, IsViewed, KinBy, all_held, ground_book, itself}
use Rattle.model_accepted.specs.Threaded.{AreOnly, IsExport, IsThreaded, layout_of}
use Rattle.model_accepted.specs.StobjScopes.{AreOutputs, IsStobj}
use Rattle.model_follows.proofs.FormalThings.{AreSeen}
use Rattle.model_in_place.specs.Writes.{AreWrites, Write, stobjs_after}
use Rattle.model_answers.proofs.Calls.{Asked, answers_guarded}
use Rattle.model_follows.specs.Costs.{Counted, Ends, caller}
use Rattle.model_eval.specs.Evaluated.{Evaluator, EvaluatorOf, exec_called, of_abstract, with_guard}
use Rattle.model_symbols.specs.Growth.{Extends}
use Rattle.model_follows.proofs.Following.{Follows, MineAs}
use Rattle.model_logic.specs.Logic.{Found, Theory, Thing}
use Rattle.model_eval.specs.Outcomes.{Gives, Guard, Outcome, Plain, Shown, State, StateOf, Steps, Stobjs, Stops, Unknown, cut_at, one_more_call, stops_here}
use Rattle.model_follows.proofs.ExportThings.{HaveShape, exec_arguments, export_seen, no_objects_renamed, only_objects}
use Rattle.model_follows.specs.Follows.{IfGives, table_of, thing_of_list}
use Rattle.model_follows.specs.Abstract.{IsExportOf, IsFollowedBeside, IsOfAbstract, ObligationsInLogic, abstract_ground, abstract_of}
use Rattle.model_follows.specs.FollowedWorlds.{KnowsList}
use Rattle.model_in_place.proofs.CallMeeting.{May, Meets, on_lists, only_argument}
use Rattle.model_symbols.specs.Symbols.{QualifiedName, Table, symbol_at}
use Rattle.model_lists.specs.Lists.{Value, as_object}
use Rattle.model_eval.specs.PlacesKeeping.{Store}
use Rattle.model_answers.proofs.Outcomes.{WhenGives, answers_as, answers_cut, answers_gives, answers_stops}
use Rattle.model_answers.proofs.Called.{Wrote}
use Rattle.model_abstract.specs.Rules.{abstract_export, logic_actual, logic_value_of, out_parts, out_stobjs, out_values}
use Rattle.model_follows.proofs.ExportFollowing.{abstracts_follow}
use Rattle.model_answers.proofs.Lists.{beside_at, beside_earlier, beside_stays, beside_with}
use Rattle.model_in_place.specs.Example.{written}
use Rattle.model_follows.proofs.PartFollowing.{book}
use Rattle.model_prims.specs.Kinds.{by_name, by_number, truth_of}
use Rattle.model_eval.specs.Checked.{checked_export, inside_after}
use Rattle.model_follows.proofs.CalledFollowing.{defined_counted}
use Rattle.model_follows.proofs.EndedLemmas.{ended_outs}
use Rattle.model_follows.proofs.CostLemmas.{ends_call}
use Rattle.model_accepted.proofs.AcceptLemmas.{false_true, true_false}
use Rattle.model_answers.proofs.Naming.{first_named}
use Rattle.model_eval.specs.Variables.{first_stobj, list_of, plain, with_list}
use Rattle.model_terms.specs.Classes.{has, renamed_out, repeats}
use Rattle.model_follows.proofs.ThingLemmas.{knows_truth}
use Rattle.model_eval.specs.ListsKeeping.{lists_keeping}
use Rattle.model_eval_laws.specs.Scope.{names}
use Rattle.model_in_place.proofs.CallLemmas.{names_after}
use Rattle.model_symbols.specs.Opening.{nil, nil_name}
use Rattle.model_answers.proofs.Forms.{on_names}
use Rattle.model_abstract_books.specs.Answers.{shown_named}
use Rattle.model_symbols.proofs.NameLemmas.{symbol_at-is}
use Rattle.model_prims.proofs.NamingLemmas.{truth_named}
use Rattle.model_lists.specs.LiveLists.{HasFields}
use Rattle.model_prims.specs.Values.{recognized}
use Rattle.model_lists.specs.Layouts.{recognizes}
use Rattle.model_answers.proofs.ExportOutputs.{actuals_held, lists_out, logic_alone, one_pair, one_written, only_abstracted, parts_same, renamed_only, shape_count, shape_of, stobjs_only, stobjs_same, values_out}
use Rattle.model_terms.specs.Classes as classes
use Rattle.model_terms.specs.declared.role.AbstractRole.TheVariants as abstract_role

-- ---- calls

when_family : (L : Type 0) (M : L → List (Shown ℕ) → State ℕ → Type 0) (Q : List (Shown ℕ) → State ℕ → Type 0) (p : Outcome ℕ) → ((l : L) → IfGives (M l) p) → WhenGives Q p → WhenGives (λ given z. Q given z × ((l : L) → M l given z)) p
when_family L M Q (Gives given z) f q = (q, f)
when_family L M Q (Stops stop origin z) f q = tt
when_family L M Q Unknown f q = tt

when_uncut : (Q : List (Shown ℕ) → State ℕ → Type 0) (n : ℕ) (p : Outcome ℕ) → WhenGives Q (cut_at n p) → WhenGives Q p
when_uncut Q n (Gives given z) q = q
when_uncut Q n (Stops stop origin z) q = tt
when_uncut Q n Unknown q = tt

module _ (w : World) (table : Table) (symbols : List QualifiedName) (threaded : IsThreaded w) (followed : IsFollowedBeside w (abstract_ground w table symbols) threaded) (limit : ℕ) (bg : Extends table (table_of table.packages symbols))
    (obligations : ObligationsInLogic (ground_book w (abstract_ground w table symbols))) (offset : ℕ)
    (ev : Evaluator ℕ) (el : EvaluatorOf ℕ (Store ℕ)) (h : Meets w threaded table.packages limit ev el) (f : Follows w (abstract_ground w table symbols) (book w (abstract_ground w table symbols) threaded limit symbols) ev) (av : ℕ → ℕ → Evaluator QualifiedName) (an : Answers w (abstract_ground w table symbols) offset ev av)
    (scope : Scope) (name : ℕ) (g : FunctionOfAbstract)
    (vs : List (Shown ℕ)) (a : AreArguments w scope g.signature.ins vs) (seen : AreSeen (abstract_ground w table symbols) itself g.signature.ins vs) (r : repeats (names_in vs) ≡ false) (there : definition w name ≡ Some (OfAbstract g)) where
  abbrev base : Ground
  base = abstract_ground w table symbols

  abbrev logic_theory : Theory
  logic_theory = book w (abstract_ground w table symbols) threaded limit symbols

  abbrev Here : State ℕ → StateOf (Store ℕ) → State QualifiedName → Type 0
  Here s t b = Asked w (abstract_ground w table symbols) threaded followed.lawful limit symbols offset ev el h f av an scope g.signature.ins vs a seen r s t b

  abbrev Wrote_here : Stobjs ℕ → List (Shown ℕ) → State ℕ → Type 0
  Wrote_here os given z = Wrote w (abstract_ground w table symbols) threaded followed.lawful limit symbols offset ev el h f av an scope bg g.signature.ins vs a seen r g.signature.outs os given z

  of : IsOfAbstract w g
  of = followed.abstracts name g there

  abbrev counted : List Thing → Counted
  counted args = defined_counted w (abstract_ground w table symbols) threaded followed.lawful limit symbols ev el h f scope bg itself (Some (OfAbstract g)) args

  -- the value of the logic function, where the budget suffices
  logic_found : (args : List Thing) (v : Thing) → Ends (counted args) v → (n : ℕ) × ((m : ℕ) → n ≤ m → logic_value_of logic_theory m g.logic args ≡ Some v)
  logic_found args v e = (called_ends.0, λ m i. ap (λ (q : Option Found). option_map (λ (z : Found). z.value) q) (called_ends.1.gives m m 0 (omega (arith, i)) i))
    where
      called_ends : Ends (λ budget nest start. caller logic_theory budget nest g.logic args start) v
      called_ends =
          ends_call logic_theory g.logic args v
          (e.0, record { gives = λ budget nest start i j. sym (logic_alone logic_theory budget nest start args (definition w g.logic) of.logic) ∙ e.1.gives budget nest start i j })

  module _ (is : g.role ≡ abstract_role.Export) where
    x : IsExport w g
    x = threaded.exports name g there is

    beside : IsExportOf w (abstract_ground w table symbols) g (threaded.exports name g there is) (followed.abstracts name g there).descriptor
    beside = followed.exports name g there is

    concrete : AreArguments w scope (threaded.exports name g there is).signature.ins vs
    concrete =
        exec_arguments w scope g.stobj (threaded.exports name g there is).foundation (threaded.exports name g there is).signature.ins vs (threaded.exports name g there is).alike (only_objects (threaded.exports name g there is).foundation (threaded.exports name g there is).signature.ins (threaded.exports name g there is).only)
        (subst (λ (ins : List Out). AreArguments w scope ins vs) (threaded.exports name g there is).ins a)

    one : (y : ℕ) × (first_stobj vs ≡ Some y) × (names_in vs ≡ y ∷ []) × IsStobj scope y × (layout_of w (threaded.exports name g there is).foundation ≡ layout_of w y)
    one = only_argument w threaded table.packages limit ev el h scope (threaded.exports name g there is).foundation (threaded.exports name g there is).signature.ins vs concrete (threaded.exports name g there is).only

    abbrev y : ℕ
    y = one.0

    viewed : abstract_of (definition w y) ≡ Some of.descriptor
    viewed =
        sym (export_seen (abstract_ground w table symbols) scope w g.stobj x.signature.ins vs y (subst (λ (ins : List Out). AreArguments w scope ins vs) x.ins a) (subst (λ (ins : List Out). AreSeen (abstract_ground w table symbols) itself ins vs) x.ins seen) one.2)
        ∙ ap abstract_of of.stobj

    outs_only : AreOnly g.stobj g.signature.outs
    outs_only = subst (AreOnly g.stobj) (sym x.outs) (only_abstracted g.stobj x.signature.outs)

    pairs_are : zip (classes.stobjs g.signature.ins) (names_in vs) ≡ (g.stobj, y) ∷ []
    pairs_are = ap (λ (ks : List Out). zip (classes.stobjs ks) (names_in vs)) x.ins ∙ one_pair g.stobj y x.signature.ins x.foundation (names_in vs) x.only one.2

    -- the lists after the export
    lists_beside : (u z : State ℕ) (d : State QualifiedName) (m : ℕ) (given : List (Shown ℕ)) (last : Held) → AreBeside w (abstract_ground w table symbols) z.symbols u.stobjs d.stobjs → HaveShape y g.signature.outs given
        → (writes : List Write) → AreWrites w (May scope (map (renamed_out ((g.stobj, y) ∷ [])) g.signature.outs)) writes → z.stobjs ≡ stobjs_after writes u.stobjs
        → HasFields (layout_of w y) (list_of z.stobjs y) → recognizes by_number (layout_of w y) (as_object by_number (list_of z.stobjs y)) ≡ true → KnowsList (length z.symbols) (list_of z.stobjs y) → IsViewed (ground_book w (abstract_ground w table symbols)) of.descriptor (thing_of_list z.symbols (list_of z.stobjs y)) (last y)
        → AreBeside w (abstract_ground w table symbols) z.symbols z.stobjs (out_stobjs logic_theory m (Some y) g.signature.outs (all_held z.symbols last given) d.stobjs)
    lists_beside u z d m given last lists shape writes allowed written fits recognized known view = go (lists_out logic_theory m y z.symbols last g.signature.outs given d.stobjs shape)
      where
        only_y : (us : List Write) → AreWrites w (May scope (map (renamed_out ((g.stobj, y) ∷ [])) g.signature.outs)) us → AreWrites w (λ q. q ≡ y) us
        only_y [] b = tt
        only_y (p ∷ us) b = (stobjs_only y p.0 (map (renamed_out ((g.stobj, y) ∷ [])) g.signature.outs) (renamed_only g.stobj y g.signature.outs outs_only) b.0.0, b.1, only_y us b.2)

        unwritten_by : (us : List Write) → AreWrites w (May scope (map (renamed_out ((g.stobj, y) ∷ [])) g.signature.outs)) us → classes.stobjs g.signature.outs ≡ [] → stobjs_after us u.stobjs ≡ u.stobjs
        unwritten_by [] b e = refl
        unwritten_by (p ∷ us) b e = false_true (sym (ap (λ (ns : List ℕ). has ns p.0) (no_objects_renamed ((g.stobj, y) ∷ []) g.signature.outs e)) ∙ b.0.0)

        go : ((classes.stobjs g.signature.outs ≡ []) × (out_stobjs logic_theory m (Some y) g.signature.outs (all_held z.symbols last given) d.stobjs ≡ d.stobjs)) ⊎ (out_stobjs logic_theory m (Some y) g.signature.outs (all_held z.symbols last given) d.stobjs ≡ with_list y (Value (last y)) d.stobjs)
            → AreBeside w (abstract_ground w table symbols) z.symbols z.stobjs (out_stobjs logic_theory m (Some y) g.signature.outs (all_held z.symbols last given) d.stobjs)
        go (inl i) =
            subst (λ (ms : Stobjs QualifiedName). AreBeside w (abstract_ground w table symbols) z.symbols z.stobjs ms) (sym i.1)
            (subst (λ (cs : Stobjs ℕ). AreBeside w (abstract_ground w table symbols) z.symbols cs d.stobjs) (sym (written ∙ unwritten_by writes allowed i.0)) lists)
        go (inr i) =
            subst (λ (ms : Stobjs QualifiedName). AreBeside w (abstract_ground w table symbols) z.symbols z.stobjs ms) (sym i)
            (subst (λ (cs : Stobjs ℕ). AreBeside w (abstract_ground w table symbols) z.symbols cs (with_list y (Value (last y)) d.stobjs))
            (sym (written ∙ (one_written w y writes u.stobjs (only_y writes allowed) ∙ ap (λ (os : Stobjs ℕ). with_list y (list_of os y) u.stobjs) (sym written))))
            (beside_with w (abstract_ground w table symbols) z.symbols u.stobjs d.stobjs y (list_of z.stobjs y) (Value (last y)) lists
            (record { fits = fits; recognized = recognized; known = known; alike = subst (λ (v : Option AbstractDescriptor). AlikeBy (ground_book w (abstract_ground w table symbols)) v z.symbols (list_of z.stobjs y) (Value (last y))) (sym viewed) view })))

    -- any lists of the logic that belong to these
    record Kinned (s : State ℕ) : Type 0 where
      lists : Held
      kin : AreKin w (abstract_ground w table symbols) itself scope s.symbols s.stobjs lists

    abbrev After : State ℕ → List (Shown ℕ) → State ℕ → Type 0
    After s given z = Wrote_here s.stobjs given z × ((l : Kinned s) → MineAs w (abstract_ground w table symbols) itself scope s (counted (all_held s.symbols l.lists vs)) given z)

    abbrev exec : State ℕ → Outcome ℕ
    exec = exec_called (on_lists w threaded table.packages limit) ev vs g.exec

    -- once the guard held
    module _ (s : State ℕ) (t : StateOf (Store ℕ)) (b : State QualifiedName) (c : Here s t b) (u : State ℕ) (v : StateOf (Store ℕ)) (d : State QualifiedName) (asked : Here u v d)
        (grown : Extends (table_of table.packages s.symbols) (table_of table.packages u.symbols)) (unchanged_lists : u.stobjs ≡ s.stobjs) where
      abbrev run : Run w (abstract_ground w table symbols)
      run = λ m k. abstract_export logic_theory m g (map (shown_named s.symbols) vs) d (logic_value_of logic_theory m g.logic (map (logic_actual logic_theory m d.stobjs) (map (shown_named s.symbols) vs)))

      lists_then : AreBeside w (abstract_ground w table symbols) s.symbols s.stobjs d.stobjs
      lists_then =
          beside_earlier w (abstract_ground w table symbols) s.symbols u.symbols grown (nils w (abstract_ground w table symbols) offset s b c.together) s.stobjs b.stobjs d.stobjs c.together.lists
          (subst (λ (os : Stobjs ℕ). AreBeside w (abstract_ground w table symbols) u.symbols os d.stobjs) unchanged_lists asked.together.lists)

      kinned : Kinned s
      kinned = record {
        lists = things d.stobjs;
        kin = record {
          each = λ q i.
              alike_kin w (abstract_ground w table symbols) s.symbols (symbol_at-is s.symbols nil nil_name c.together.truth.at_nil) q (list_of s.stobjs q) (list_of d.stobjs q)
              (beside_at w (abstract_ground w table symbols) s.symbols s.stobjs d.stobjs q lists_then (c.stands.known q i));
        };
      }

      gives_exec : (given : List (Shown ℕ)) (z : State ℕ) → After s given z → z.outer ≡ u.outer → GivesAs w (abstract_ground w table symbols) offset s.symbols (names s.stobjs) d.calls given z run
      unfolding kinned
      gives_exec given z whole outer_is = record {
        after = record d { stobjs = out_stobjs logic_theory 0 (Some y) g.signature.outs (all_held z.symbols mine.last given) d.stobjs };
        together = record {
          table = mine.sound.table;
          truth = mine.sound.truth;
          grown = mine.sound.grown;
          lists =
              lists_beside s z d 0 given mine.last (beside_stays w (abstract_ground w table symbols) s.symbols z.symbols mine.grown (nils w (abstract_ground w table symbols) offset s b c.together) s.stobjs d.stobjs lists_then) shape
              whole.0.writes (subst (λ (ps : List (ℕ × ℕ)). AreWrites w (May scope (map (renamed_out ps) g.signature.outs)) whole.0.writes) pairs_are whole.0.allowed) whole.0.stobjs
              (whole.0.fits y one.3) (mine.sound.recognized y one.3) (mine.sound.known y one.3) (subst (λ (e : Option AbstractDescriptor). KinBy (ground_book w (abstract_ground w table symbols)) e (thing_of_list z.symbols (list_of z.stobjs y)) (mine.last y)) viewed (mine.kin.each y one.3).kin);
          outer = asked.together.outer ∙ sym outer_is;
          calls = asked.together.calls ∙ ap (λ (n : ℕ). offset + n) (sym outer_is);
        };
        more_symbols = mine.grown;
        same_names = ap (λ (os : Stobjs ℕ). names os) whole.0.stobjs ∙ names_after whole.0.writes s.stobjs;
        more = omega arith;
        knows = mine.known;
        budget = value_there.0;
        runs = λ m k i j.
            ap (abstract_export logic_theory m g (map (shown_named s.symbols) vs) d) (ap (logic_value_of logic_theory m g.logic) (actuals_held logic_theory m s.symbols d.stobjs vs) ∙ value_there.1 m i)
            ∙ (ap (λ (q : Option ℕ). Gives (out_values logic_theory m q g.signature.outs (out_parts logic_theory m g.signature.outs mine.ends.value)) (record d { stobjs = out_stobjs logic_theory m q g.signature.outs (out_parts logic_theory m g.signature.outs mine.ends.value) d.stobjs })) (first_named s.symbols vs ∙ one.1)
            ∙ (ap (λ (os : List Thing). Gives (out_values logic_theory m (Some y) g.signature.outs os) (record d { stobjs = out_stobjs logic_theory m (Some y) g.signature.outs os d.stobjs }))
            (parts_same logic_theory m 0 g.signature.outs mine.ends.value ∙ ended_outs w (counted (all_held s.symbols (things d.stobjs) vs)) (all_held z.symbols mine.last given) mine.ends logic_theory g.signature.outs (shape_count y g.signature.outs given z.symbols mine.last shape))
            ∙ (ap (λ (zs : List (Shown QualifiedName)). Gives zs (record d { stobjs = out_stobjs logic_theory m (Some y) g.signature.outs (all_held z.symbols mine.last given) d.stobjs })) (values_out logic_theory m y z.symbols mine.last g.signature.outs given shape)
            ∙ ap (λ (ms : Stobjs QualifiedName). Gives (map (shown_named z.symbols) given) (record d { stobjs = ms })) (stobjs_same logic_theory m 0 (Some y) g.signature.outs (all_held z.symbols mine.last given) d.stobjs))));
      }
        where
          mine : MineAs w (abstract_ground w table symbols) itself scope s (counted (all_held s.symbols (things d.stobjs) vs)) given z
          mine = whole.1 kinned

          shape : HaveShape y g.signature.outs given
          shape = shape_of scope g.stobj y g.signature.outs given outs_only (subst (λ (ps : List (ℕ × ℕ)). AreOutputs scope (map (renamed_out ps) g.signature.outs) given) pairs_are whole.0.outputs)

          value_there : (n : ℕ) × ((m : ℕ) → n ≤ m → logic_value_of logic_theory m g.logic (all_held s.symbols (things d.stobjs) vs) ≡ Some mine.ends.value)
          value_there = logic_found (all_held s.symbols (things d.stobjs) vs) mine.ends.value mine.ends.ends

      answers_exec : (p : Outcome ℕ) → WhenGives (After s) (inside_after lists_keeping vs s.stobjs g.name u.outer p) → AnswersAs w (abstract_ground w table symbols) offset s.symbols (names s.stobjs) d.calls (inside_after lists_keeping vs s.stobjs g.name u.outer p) run
      answers_exec (Gives given z) whole = gives_exec given (record z { outer = u.outer }) whole refl
      answers_exec (Stops stop origin z) whole = λ e. true_false e
      answers_exec Unknown whole = tt

    answers_export : (s : State ℕ) (t : StateOf (Store ℕ)) (b : State QualifiedName) → Here s t b
        → WhenGives (Wrote_here s.stobjs) (cut_at s.outer (with_guard (on_lists w threaded table.packages limit) ev g.name g.formals g.guard vs (checked_export lists_keeping limit g vs s.stobjs exec) s))
        → ((l : Kinned s) → IfGives (MineAs w (abstract_ground w table symbols) itself scope s (counted (all_held s.symbols l.lists vs))) (cut_at s.outer (with_guard (on_lists w threaded table.packages limit) ev g.name g.formals g.guard vs (checked_export lists_keeping limit g vs s.stobjs exec) s)))
        → AnswersAs w (abstract_ground w table symbols) offset s.symbols (names s.stobjs) b.calls (cut_at s.outer (with_guard (on_lists w threaded table.packages limit) ev g.name g.formals g.guard vs (checked_export lists_keeping limit g vs s.stobjs exec) s))
        (λ m k. cut_at b.outer (with_guard (on_names w (abstract_ground w table symbols) threaded limit symbols offset m k) (av m k) g.name g.formals g.guard (map (shown_named s.symbols) vs)
        (λ d. abstract_export logic_theory m g (map (shown_named s.symbols) vs) d (logic_value_of logic_theory m g.logic (map (logic_actual logic_theory m d.stobjs) (map (shown_named s.symbols) vs)))) b))
    unfolding x
    answers_export s t b c wrote mine =
        answers_cut w (abstract_ground w table symbols) offset s.symbols (names s.stobjs) b.calls s.outer b.outer c.together.outer
        (with_guard (on_lists w threaded table.packages limit) ev g.name g.formals g.guard vs (checked_export lists_keeping limit g vs s.stobjs exec) s)
        (λ m k. with_guard (on_names w (abstract_ground w table symbols) threaded limit symbols offset m k) (av m k) g.name g.formals g.guard (map (shown_named s.symbols) vs)
        (λ d. abstract_export logic_theory m g (map (shown_named s.symbols) vs) d (logic_value_of logic_theory m g.logic (map (logic_actual logic_theory m d.stobjs) (map (shown_named s.symbols) vs)))) b)
        (answers_guarded w (abstract_ground w table symbols) threaded followed.lawful limit symbols offset ev el h f av an scope g.signature.ins vs a seen r g.formals x.formals x.distinct (After s) g.name g.guard
        (checked_export lists_keeping limit g vs s.stobjs exec)
        (λ m k d. abstract_export logic_theory m g (map (shown_named s.symbols) vs) d (logic_value_of logic_theory m g.logic (map (logic_actual logic_theory m d.stobjs) (map (shown_named s.symbols) vs))))
        x.guard beside.seen_in beside.suited s t b c
        (when_uncut (After s) s.outer (with_guard (on_lists w threaded table.packages limit) ev g.name g.formals g.guard vs (checked_export lists_keeping limit g vs s.stobjs exec) s)
        (when_family (Kinned s) (λ l. MineAs w (abstract_ground w table symbols) itself scope s (counted (all_held s.symbols l.lists vs))) (Wrote_here s.stobjs)
        (cut_at s.outer (with_guard (on_lists w threaded table.packages limit) ev g.name g.formals g.guard vs (checked_export lists_keeping limit g vs s.stobjs exec) s)) mine wrote))
        (λ u v d asked grown same lists whole. by_count u v d asked grown lists (nat_lt u.calls limit) whole))
      where
        by_count : (u : State ℕ) (v : StateOf (Store ℕ)) (d : State QualifiedName) → Here u v d → Extends (table_of table.packages s.symbols) (table_of table.packages u.symbols) → u.stobjs ≡ s.stobjs
            → (q : Bool) → WhenGives (After s) (if q then inside_after lists_keeping vs s.stobjs g.name u.outer (exec (one_more_call u)) else stops_here Steps u)
            → AnswersAs w (abstract_ground w table symbols) offset s.symbols (names s.stobjs) d.calls (if q then inside_after lists_keeping vs s.stobjs g.name u.outer (exec (one_more_call u)) else stops_here Steps u)
            (λ m k. abstract_export logic_theory m g (map (shown_named s.symbols) vs) d (logic_value_of logic_theory m g.logic (map (logic_actual logic_theory m d.stobjs) (map (shown_named s.symbols) vs))))
        by_count u v d asked grown lists true whole = answers_exec s t b c u v d asked grown lists (exec (one_more_call u)) whole
        by_count u v d asked grown lists false whole = λ e. true_false e

  answers_recognizer : (s : State ℕ) (t : StateOf (Store ℕ)) (b : State QualifiedName) → Here s t b
      → AnswersAs w (abstract_ground w table symbols) offset s.symbols (names s.stobjs) b.calls (Gives (plain (truth_of by_number true ∷ [])) s) (λ m k. Gives (plain (truth_of by_name true ∷ [])) b)
  answers_recognizer s t b c =
      answers_as w (abstract_ground w table symbols) offset s.symbols (names s.stobjs) b.calls 0 (Gives (plain (truth_of by_number true ∷ [])) s) (λ m k. Gives (map (shown_named s.symbols) (plain (truth_of by_number true ∷ []))) b) (λ m k. Gives (plain (truth_of by_name true ∷ [])) b)
      (λ m k i j. ap (λ (q : Thing). Gives (Plain q ∷ []) b) (truth_named (symbol_at s.symbols) (λ n. n < length s.symbols) (naming w (abstract_ground w table symbols) offset s b c.together) true))
      (answers_gives w (abstract_ground w table symbols) offset s b (plain (truth_of by_number true ∷ [])) c.together (knows_truth (table_of table.packages s.symbols) c.together.truth, tt))

  abbrev role_outcome : AbstractRole → State ℕ → Outcome ℕ
  role_outcome role s = of_abstract (on_lists w threaded table.packages limit) ev (exec_called (on_lists w threaded table.packages limit) ev vs) g role vs s

  answers_role : (role : AbstractRole) → g.role ≡ role → (s : State ℕ) (t : StateOf (Store ℕ)) (b : State QualifiedName) → Here s t b → WhenGives (Wrote_here s.stobjs) (role_outcome role s)
      → ((lists : Held) → AreKin w (abstract_ground w table symbols) itself scope s.symbols s.stobjs lists → IfGives (MineAs w (abstract_ground w table symbols) itself scope s (counted (all_held s.symbols lists vs))) (role_outcome role s))
      → AnswersAs w (abstract_ground w table symbols) offset s.symbols (names s.stobjs) b.calls (role_outcome role s)
      (λ m k. of_abstract (on_names w (abstract_ground w table symbols) threaded limit symbols offset m k) (av m k) (exec_called (on_names w (abstract_ground w table symbols) threaded limit symbols offset m k) (av m k) (map (shown_named s.symbols) vs)) g role (map (shown_named s.symbols) vs) b)
  answers_role abstract_role.Recognizer e s t b c wrote mine = answers_recognizer s t b c
  answers_role abstract_role.Creator e s t b c wrote mine = answers_stops w (abstract_ground w table symbols) offset s b (Guard g.name vs) c.together
  answers_role abstract_role.Export e s t b c wrote mine = answers_export e s t b c wrote (λ l. mine l.lists l.kin)

  pub answers_abstract : (s : State ℕ) (t : StateOf (Store ℕ)) (b : State QualifiedName) → Here s t b
      → WhenGives (Wrote_here s.stobjs) (of_abstract (on_lists w threaded table.packages limit) ev (exec_called (on_lists w threaded table.packages limit) ev vs) g g.role vs s)
      → AnswersAs w (abstract_ground w table symbols) offset s.symbols (names s.stobjs) b.calls (of_abstract (on_lists w threaded table.packages limit) ev (exec_called (on_lists w threaded table.packages limit) ev vs) g g.role vs s)
      (λ m k. of_abstract (on_names w (abstract_ground w table symbols) threaded limit symbols offset m k) (av m k) (exec_called (on_names w (abstract_ground w table symbols) threaded limit symbols offset m k) (av m k) (map (shown_named s.symbols) vs)) g g.role (map (shown_named s.symbols) vs) b)
  answers_abstract s t b c wrote =
      answers_role g.role refl s t b c wrote
      (λ lists kin. (abstracts_follow w table symbols threaded followed limit bg obligations).follows ev el h f scope name g vs a seen r there s t
      (record { stands = c.stands; same = c.same; sound = c.sound; known = c.known; lists = lists; kin = kin }))
