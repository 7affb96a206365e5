-- Guards and bodies over formals, and what comes back from a call.
use Rattle.std.proofs.Common.{◌≡◌, ℕ, List, [], ◌∷◌, map, length, Bool, true, false, None, refl, sym, ap, ◌∙◌, subst, arith}
use Rattle.std.specs.Prelude.{if◌then◌else◌}
use Rattle.model_answers.proofs.Setting.{Answers, kin_of, naming, nils, things}
use Rattle.model_answers.specs.Beside.{AnswersAs, AreTogether, GivesAs, Run, StopsAs}
use Rattle.model_in_place.specs.Calls.{pairs_of, AreArguments, names_in, places_for}
use Rattle.model_accepted.specs.Threaded.{AreFormals, IsChecked, IsThreaded, formal_entries, layout_of}
use Rattle.model_answers.proofs.Lists.{AreFormalsOf, ArePassed, beside_back, beside_inner, beside_stays, formals_inside}
use Rattle.model_in_place.specs.Standing.{AreSame, Stands}
use Rattle.model_follows.proofs.FormalThings.{AreSeen, sound_inside}
use Rattle.model_follows.specs.Held.{AreSeenIn}
use Rattle.model_terms.specs.Cores.{Core}
use Rattle.model_follows.specs.Costs.{form_counted}
use Rattle.model_follows.proofs.Following.{DidAs, Follows, Lawful}
use Rattle.model_eval.specs.Evaluated.{Evaluator, EvaluatorOf, is_false, scoped, with_guard}
use Rattle.model_terms.specs.declared.rule.Mode.TheVariants.{Executable}
use Rattle.model_symbols.specs.Growth.{Extends}
use Rattle.model_eval.specs.Outcomes.{Gives, Guard, Outcome, Plain, Shown, State, StateOf, StobjNamed, Stobjs, Stops, Unknown, stops_here, then_with}
use Rattle.model_follows.proofs.HeldThings.{Ground, all_held, itself}
use Rattle.model_follows.specs.Follows.{IfGives, IsSound, KnowsAll, table_of}
use Rattle.model_accepted.specs.StobjScopes.{IsStobj}
use Rattle.model_follows.specs.FollowedWorlds.{IsSuited}
use Rattle.model_in_place.proofs.CallMeeting.{May, Meets, executable_not_logic, on_lists, results}
use Rattle.model_terms.specs.Worlds.{Ordinary, Out, Scope, World}
use Rattle.model_symbols.specs.Symbols.{QualifiedName}
use Rattle.model_eval.specs.PlacesKeeping.{Store}
use Rattle.model_accepted.proofs.AcceptLemmas.{accepted_first, false_true}
use Rattle.model_follows.proofs.ThingLemmas.{all_stay}
use Rattle.model_answers.proofs.Outcomes.{answers_as, answers_stops, WhenGives, answers_earlier, answers_then_old}
use Rattle.model_logic.specs.Logic.{bind}
use Rattle.model_follows.proofs.PartFollowing.{book}
use Rattle.model_prims.specs.Kinds.{by_number, is_nil}
use Rattle.model_follows.proofs.CallFollowing.{did_scoped}
use Rattle.model_answers.proofs.Naming.{false_named, inner_named, known_inner, outer_known, outer_named, values_stay}
use Rattle.model_in_place.proofs.FormalLemmas.{formal_variables, stands_inside}
use Rattle.model_eval.specs.Keeping.{handed}
use Rattle.model_eval.specs.Variables.{handed_back, inner_stobjs, inner_variables, object_of, single}
use Rattle.model_in_place.proofs.CallLemmas.{inner_objects_are}
use Rattle.model_eval_laws.specs.Scope.{is_among, names}
use Rattle.model_eval.specs.ListsKeeping.{lists_keeping}
use Rattle.model_eval_laws.proofs.Lists.{names_back}
use Rattle.model_answers.proofs.Forms.{on_names, thy}
use Rattle.model_terms.specs.Sites.{one_ordinary}
use Rattle.model_terms.specs.Classes.{repeats}
use Rattle.model_in_place.proofs.WriteLemmas.{stands_moved}
use Rattle.model_abstract_books.specs.Answers.{stop_named, shown_named}
use Rattle.model_in_place.specs.Writes.{AreWrites, Write, stobjs_after}
use Rattle.model_terms.specs.Worlds as worlds

module _ (w : World) (base : Ground) (threaded : IsThreaded w) (followed : Lawful w base threaded) (limit : ℕ) (symbols : List QualifiedName) (offset : ℕ)
    (ev : Evaluator ℕ) (el : EvaluatorOf ℕ (Store ℕ)) (h : Meets w threaded base.table.packages limit ev el) (f : Follows w base (book w base threaded limit symbols) ev) (av : ℕ → ℕ → Evaluator QualifiedName) (an : Answers w base offset ev av) (scope : Scope) where
  passed_by : (there : List ℕ) (sy : List QualifiedName) (xs : List ℕ) (ks : List Out) (vs : List (Shown ℕ)) → AreFormals xs ks → AreArguments w scope ks vs → AreSeen base itself ks vs → ((y : ℕ) → IsStobj scope y → is_among y there ≡ true) → ArePassed w base sy there xs vs
  passed_by there sy [] ks vs fs a s k = tt
  passed_by there sy (x ∷ xs) [] vs fs a s k = absurd fs
  passed_by there sy (x ∷ xs) (o ∷ ks) [] fs a s k = tt
  passed_by there sy (x ∷ xs) (Ordinary ∷ ks) (Plain p ∷ vs) fs a s k = passed_by there sy xs ks vs fs a.1 s k
  passed_by there sy (x ∷ xs) (Ordinary ∷ ks) (StobjNamed y ∷ vs) fs a s k = absurd a.0
  passed_by there sy (x ∷ xs) (worlds.Stobj q ∷ ks) (Plain p ∷ vs) fs a s k = absurd a.0
  passed_by there sy (x ∷ xs) (worlds.Stobj q ∷ ks) (StobjNamed y ∷ vs) fs a s k = (k y a.0.0, sym s.0 ∙ ap base.view fs.0, sym a.0.1 ∙ ap (layout_of w) fs.0, passed_by there sy xs ks vs fs.1 a.1 s.1 k)

  module _ (ins : List Out) (vs : List (Shown ℕ)) (a : AreArguments w scope ins vs) (seen : AreSeen base itself ins vs) (r : repeats (names_in vs) ≡ false) where
    -- where a call is made
    pub record Asked (s : State ℕ) (t : StateOf (Store ℕ)) (b : State QualifiedName) : Type 0 where
      pub stands : Stands w scope s.stobjs t.stobjs
      pub same : AreSame s t
      pub sound : IsSound w base.table scope s.symbols s.stobjs
      pub together : AreTogether w base offset s b
      pub known : KnowsAll (length s.symbols) vs

    abbrev pub vs_named : State ℕ → List (Shown QualifiedName)
    vs_named s = map (shown_named s.symbols) vs

    module _ (formals : List ℕ) (fs : AreFormals formals ins) (distinct : repeats formals ≡ false) where
      answers_handed : (s : State ℕ) (t : StateOf (Store ℕ)) (b : State QualifiedName) → Asked s t b → (p : Outcome ℕ) (run : Run w base)
          → AnswersAs w base offset s.symbols (names (inner_stobjs formals vs s.stobjs)) b.calls p run
          → AnswersAs w base offset s.symbols (names s.stobjs) b.calls (handed lists_keeping formals vs s.stobjs p) (λ m k. handed lists_keeping formals (map (shown_named s.symbols) vs) b.stobjs (run m k))
      answers_handed s t b c (Gives given u) run g = record {
        after = record g.after { stobjs = handed_back formals (map (shown_named s.symbols) vs) g.after.stobjs b.stobjs };
        together = record {
          table = g.together.table;
          truth = g.together.truth;
          grown = g.together.grown;
          lists =
              beside_back w base u.symbols s.symbols (names s.stobjs) formals vs u.stobjs g.after.stobjs s.stobjs b.stobjs (passed_by (names s.stobjs) u.symbols formals ins vs fs a seen c.stands.known)
              (subst (λ (ns : List ℕ). AreFormalsOf w base u.symbols ns formals vs) (sym g.same_names) (formals_inside w base u.symbols formals vs s.stobjs)) g.together.lists
              (beside_stays w base s.symbols u.symbols g.more_symbols (nils w base offset s b c.together) s.stobjs b.stobjs c.together.lists);
          outer = g.together.outer;
          calls = g.together.calls;
        };
        more_symbols = g.more_symbols;
        same_names = names_back formals vs u.stobjs s.stobjs;
        more = g.more;
        knows = outer_known (length u.symbols) formals vs given g.knows;
        budget = g.budget;
        runs = λ m k i j.
            ap (λ (q : Outcome QualifiedName). handed lists_keeping formals (map (shown_named s.symbols) vs) b.stobjs q) (g.runs m k i j)
            ∙ ap (λ (zs : List (Shown QualifiedName)). Gives zs (record g.after { stobjs = handed_back formals (map (shown_named s.symbols) vs) g.after.stobjs b.stobjs })) (outer_named s.symbols u.symbols formals vs given);
      }
      answers_handed s t b c (Stops stop origin u) run g = λ e. let i : StopsAs w base offset s.symbols (names (inner_stobjs formals vs s.stobjs)) b.calls stop origin u run = g e in record {
        after = record i.after { stobjs = handed_back formals (map (shown_named s.symbols) vs) i.after.stobjs b.stobjs };
        together = record {
          table = i.together.table;
          truth = i.together.truth;
          grown = i.together.grown;
          lists =
              beside_back w base u.symbols s.symbols (names s.stobjs) formals vs u.stobjs i.after.stobjs s.stobjs b.stobjs (passed_by (names s.stobjs) u.symbols formals ins vs fs a seen c.stands.known)
              (subst (λ (ns : List ℕ). AreFormalsOf w base u.symbols ns formals vs) (sym i.same_names) (formals_inside w base u.symbols formals vs s.stobjs)) i.together.lists
              (beside_stays w base s.symbols u.symbols i.more_symbols (nils w base offset s b c.together) s.stobjs b.stobjs c.together.lists);
          outer = i.together.outer;
          calls = i.together.calls;
        };
        more_symbols = i.more_symbols;
        same_names = names_back formals vs u.stobjs s.stobjs;
        more = i.more;
        budget = i.budget;
        runs = λ m k x j. ap (λ (q : Outcome QualifiedName). handed lists_keeping formals (map (shown_named s.symbols) vs) b.stobjs q) (i.runs m k x j);
      }
      answers_handed s t b c Unknown run g = tt

      pub answers_scoped : (form : Core) (outs : List Out) → (checked : IsChecked w formals ins form outs) → AreSeenIn w base checked.world → IsSuited w (length base.table.symbols) form
          → (s : State ℕ) (t : StateOf (Store ℕ)) (b : State QualifiedName) → Asked s t b
          → AnswersAs w base offset s.symbols (names s.stobjs) b.calls (scoped (on_lists w threaded base.table.packages limit) ev formals vs form s) (λ m k. scoped (on_names w base threaded limit symbols offset m k) (av m k) formals (map (shown_named s.symbols) vs) form b)
      answers_scoped form outs checked seen_in suited s t b c =
          answers_handed s t b c (ev form (inner_variables formals vs) (record s { stobjs = inner_stobjs formals vs s.stobjs }))
          (λ m k. av m k form (inner_variables formals (map (shown_named s.symbols) vs)) (record b { stobjs = inner_stobjs formals (map (shown_named s.symbols) vs) b.stobjs }))
          (an.answers checked.world Executable (formal_entries formals ins) form None outs
          (record { suited_world = record { suits = checked.suits; seen = seen_in }; runs = executable_not_logic; accepted = accepted_first checked.world Executable (formal_entries formals ins) form outs checked.accepted; formed = checked.formed; suited = suited })
          (inner_variables formals vs) (record s { stobjs = inner_stobjs formals vs s.stobjs }) (record t { stobjs = record t.stobjs { scope = places_for (pairs_of formals vs) t.stobjs.scope } })
          (inner_variables formals (map (shown_named s.symbols) vs)) (record b { stobjs = inner_stobjs formals (map (shown_named s.symbols) vs) b.stobjs })
          (record {
            are = record { each = formal_variables w scope formals ins vs fs distinct a };
            stands =
                subst (λ (os : Stobjs ℕ). Stands w (formal_entries formals ins) os (record t.stobjs { scope = places_for (pairs_of formals vs) t.stobjs.scope })) (sym (inner_objects_are formals vs s.stobjs))
                (stands_inside w scope formals ins vs s.stobjs t.stobjs fs a r c.stands);
            same = record { symbols = c.same.symbols; calls = c.same.calls; outer = c.same.outer };
            sound =
                subst (λ (os : Stobjs ℕ). IsSound w base.table (formal_entries formals ins) s.symbols os) (sym (inner_objects_are formals vs s.stobjs))
                (sound_inside w base scope formals ins vs fs a s.symbols s.stobjs c.sound);
            together = record {
              table = c.together.table;
              truth = c.together.truth;
              grown = c.together.grown;
              lists = beside_inner w base s.symbols s.symbols formals vs s.stobjs b.stobjs (passed_by (names s.stobjs) s.symbols formals ins vs fs a seen c.stands.known) c.together.lists;
              outer = c.together.outer;
              calls = c.together.calls;
            };
            shown_are = inner_named s.symbols formals vs;
            knows = known_inner (length s.symbols) formals vs c.known;
          }))

      -- what else is known of it
      did_asked : (form : Core) (outs : List Out) → (checked : IsChecked w formals ins form outs) → AreSeenIn w base checked.world → IsSuited w (length base.table.symbols) form
          → (s : State ℕ) (t : StateOf (Store ℕ)) (b : State QualifiedName) → (c : Asked s t b)
          → IfGives (DidAs w base itself scope (results ins vs outs) s t (form_counted (thy w base threaded limit symbols offset) form (bind formals (all_held s.symbols (things b.stobjs) vs) []))) (scoped (on_lists w threaded base.table.packages limit) ev formals vs form s)
      did_asked form outs checked seen_in suited s t b c =
          did_scoped w base threaded followed limit symbols ev el h f scope itself formals ins vs fs distinct a seen r s t (things b.stobjs) (kin_of w base offset scope s t b c.stands c.together) c.stands c.same c.sound c.known form outs checked seen_in suited

      -- what comes after a guard; of the whole it is known that this holds where it gives values
      pub answers_guarded : (Q : List (Shown ℕ) → State ℕ → Type 0) (name : ℕ) (guard : Core) (go : State ℕ → Outcome ℕ) (to : ℕ → ℕ → State QualifiedName → Outcome QualifiedName)
          → (checked : IsChecked w formals ins guard one_ordinary) → AreSeenIn w base checked.world → IsSuited w (length base.table.symbols) guard
          → (s : State ℕ) (t : StateOf (Store ℕ)) (b : State QualifiedName) → Asked s t b → WhenGives Q (with_guard (on_lists w threaded base.table.packages limit) ev name formals guard vs go s)
          → ((u : State ℕ) (v : StateOf (Store ℕ)) (d : State QualifiedName) → Asked u v d → Extends (table_of base.table.packages s.symbols) (table_of base.table.packages u.symbols) → names u.stobjs ≡ names s.stobjs → u.stobjs ≡ s.stobjs
          → WhenGives Q (go u) → AnswersAs w base offset s.symbols (names s.stobjs) d.calls (go u) (λ m k. to m k d))
          → AnswersAs w base offset s.symbols (names s.stobjs) b.calls (with_guard (on_lists w threaded base.table.packages limit) ev name formals guard vs go s)
          (λ m k. with_guard (on_names w base threaded limit symbols offset m k) (av m k) name formals guard (map (shown_named s.symbols) vs) (to m k) b)
      answers_guarded Q name guard go to checked seen_in suited s t b c whole next =
          answers_then_old w base offset s.symbols (names s.stobjs) b.calls Both (scoped (on_lists w threaded base.table.packages limit) ev formals vs guard s)
          (λ m k. scoped (on_names w base threaded limit symbols offset m k) (av m k) formals (map (shown_named s.symbols) vs) guard b)
          (λ test after. if is_false (on_lists w threaded base.table.packages limit) test then stops_here (Guard name vs) after else go after)
          (λ m k test after. if is_false (on_names w base threaded limit symbols offset m k) test then stops_here (Guard name (map (shown_named s.symbols) vs)) after else to m k after)
          (both (scoped (on_lists w threaded base.table.packages limit) ev formals vs guard s) (did_asked guard one_ordinary checked seen_in suited s t b c) whole)
          (answers_scoped guard one_ordinary checked seen_in suited s t b c)
          (λ given u d g.
          rw (false_named u.symbols (naming w base offset u g.after g.together) given g.knows)
          (by_test given u d.0 g (is_nil by_number (object_of by_number (single by_number given))) d.1))
        where
          Both : List (Shown ℕ) → State ℕ → Type 0
          Both given u = DidAs w base itself scope one_ordinary s t (form_counted (thy w base threaded limit symbols offset) guard (bind formals (all_held s.symbols (things b.stobjs) vs) [])) given u
              × WhenGives Q (if is_false (on_lists w threaded base.table.packages limit) given then stops_here (Guard name vs) u else go u)

          both : (p : Outcome ℕ) → IfGives (DidAs w base itself scope one_ordinary s t (form_counted (thy w base threaded limit symbols offset) guard (bind formals (all_held s.symbols (things b.stobjs) vs) []))) p
              → WhenGives Q (then_with p (λ test after. if is_false (on_lists w threaded base.table.packages limit) test then stops_here (Guard name vs) after else go after)) → IfGives Both p
          both (Gives given u) d e = (d, e)
          both (Stops stop origin u) d e = tt
          both Unknown d e = d

          none_written : (us : List Write) → AreWrites w (May scope one_ordinary) us → stobjs_after us s.stobjs ≡ s.stobjs
          none_written [] b = refl
          none_written (p ∷ us) b = false_true b.0.0

          by_test : (given : List (Shown ℕ)) (u : State ℕ) → (d : DidAs w base itself scope one_ordinary s t (form_counted (thy w base threaded limit symbols offset) guard (bind formals (all_held s.symbols (things b.stobjs) vs) [])) given u)
              → (g : GivesAs w base offset s.symbols (names s.stobjs) b.calls given u (λ m k. scoped (on_names w base threaded limit symbols offset m k) (av m k) formals (map (shown_named s.symbols) vs) guard b))
              → (q : Bool) → WhenGives Q (if q then stops_here (Guard name vs) u else go u)
              → AnswersAs w base offset s.symbols (names s.stobjs) g.after.calls (if q then stops_here (Guard name vs) u else go u) (λ m k. if q then stops_here (Guard name (map (shown_named s.symbols) vs)) g.after else to m k g.after)
          by_test given u d g true e =
              subst (λ (ns : List ℕ). AnswersAs w base offset s.symbols ns g.after.calls (stops_here (Guard name vs) u) (λ m k. stops_here (Guard name (map (shown_named s.symbols) vs)) g.after)) g.same_names
              (answers_earlier w base offset s.symbols u.symbols (names u.stobjs) g.after.calls g.after.calls g.more_symbols (omega arith) (stops_here (Guard name vs) u) (λ m k. stops_here (Guard name (map (shown_named s.symbols) vs)) g.after)
              (answers_as w base offset u.symbols (names u.stobjs) g.after.calls 0 (stops_here (Guard name vs) u) (λ m k. stops_here (stop_named u.symbols (Guard name vs)) g.after) (λ m k. stops_here (Guard name (map (shown_named s.symbols) vs)) g.after)
              (λ m k i j. ap (λ (zs : List (Shown QualifiedName)). stops_here (Guard name zs) g.after) (sym (values_stay (table_of base.table.packages s.symbols) (table_of base.table.packages u.symbols) g.more_symbols vs c.known)))
              (answers_stops w base offset u g.after (Guard name vs) g.together)))
          by_test given u d g false e =
              next u d.to g.after
              (record {
                stands = stands_moved w scope (May scope one_ordinary) s t u d.to (λ x i. i.1) c.stands d.moves;
                same = d.moves.same;
                sound = d.mine.sound;
                together = g.together;
                known = all_stay (table_of base.table.packages s.symbols) (table_of base.table.packages u.symbols) g.more_symbols vs c.known;
              }) g.more_symbols g.same_names (d.moves.stobjs ∙ none_written d.moves.writes d.moves.allowed) e
