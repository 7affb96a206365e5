-- Calls: guards and bodies, primitives, and functions of stobjs.
use Rattle.std.proofs.Common.{◌≡◌, ℕ, List, [], ◌∷◌, map, length, true, false, None, sym, ap, ◌∙◌, subst, inl, inr}
use Rattle.std.specs.Prelude.{◌⊎◌}
use Rattle.model_symbols.specs.Symbols.{QualifiedName}
use Rattle.model_prims.specs.Kinds.{by_number}
use Rattle.model_lists.specs.Lists.{StobjList, as_object}
use Rattle.model_lists.specs.Layouts.{Layout, recognizes}
use Rattle.model_terms.specs.declared.rule.Mode.TheVariants.{Executable}
use Rattle.model_terms.specs.Cores.{Core}
use Rattle.model_terms.specs.Worlds.{World, Out, Scope}
use Rattle.model_terms.specs.Classes.{has, repeats}
use Rattle.model_eval.specs.Outcomes.{Shown, Stobjs, StateOf, State, Outcome, Gives, Stops, Unknown}
use Rattle.model_eval.specs.Keeping.{handed, outer_value}
use Rattle.model_eval.specs.PlacesKeeping.{Store}
use Rattle.model_eval.specs.ListsKeeping.{lists_keeping}
use Rattle.model_eval.specs.Variables.{inner_variables, list_of}
use Rattle.model_eval.specs.Evaluated.{Evaluator, EvaluatorOf, scoped}
use Rattle.model_logic.specs.Logic.{Theory, Thing, bind}
use Rattle.model_accepted.specs.Threaded.{layout_of, AreFormals, formal_entries, IsChecked, IsThreaded}
use Rattle.model_accepted.specs.StobjScopes.{IsStobj, AreOutputs}
use Rattle.model_in_place.specs.Standing.{Stands, AreSame}
use Rattle.model_in_place.specs.Writes.{Write, stobjs_after, AreWrites, Moves}
use Rattle.model_in_place.specs.Calls.{Pairs, pairs_of, names_in, firsts, seconds, actual, lists_for, places_for, lists_back, writes_out, AreArguments}
use Rattle.model_accepted.proofs.AcceptLemmas.{accepted_first, true_false}
use Rattle.model_in_place.proofs.CallLemmas.{inner_objects_are, handed_back_is, writes_for, objects_back}
use Rattle.model_in_place.proofs.FormalLemmas.{firsts_distinct, seconds_are, formal_first, formal_variables, stands_inside, known_inside}
use Rattle.model_in_place.proofs.CallMeeting.{May, results, on_lists, at_places, Meets, executable_not_logic, meets_scoped}
use Rattle.model_follows.specs.Costs.{Counted, form_counted, Ends}
use Rattle.model_follows.specs.FollowedWorlds.{KnowsList, IsSuited}
use Rattle.model_follows.proofs.EndedLemmas.{Ended}
use Rattle.model_follows.proofs.HeldThings.{Ground, Held, all_held, Kin, AreKin, kin_same, kin_alike}
use Rattle.model_follows.specs.Follows.{thing_of_list, one_thing, KnowsAll, table_of, IsSound, IfGives}
use Rattle.model_follows.proofs.ThingLemmas.{knows_list_stays, same_held, outputs_in, list_stays}
use Rattle.model_follows.proofs.Following.{gives_map, gives_both, gives_moves, nil_known, MineAs, AreSeenIn, Lawful, Follows, DidAs, Did, did}
use Rattle.model_follows.proofs.PartFollowing.{book}
use Rattle.model_follows.proofs.FormalThings.{AreSeen, held_for, held_back, back_at, back_other, actual_second, actual_or_not, formal_seen, formal_stobj, kin_inside, list_inside, actual_object, written_or_not, sound_inside, named_inside, things_outside, known_outside}

module _ (w : World) (base : Ground) (threaded : IsThreaded w) (followed : Lawful w base threaded) (limit : ℕ) (symbols : List QualifiedName)
    (ev : Evaluator ℕ) (el : EvaluatorOf ℕ (Store ℕ)) (h : Meets w threaded base.table.packages limit ev el) (f : Follows w base (book w base threaded limit symbols) ev) (scope : Scope) (seen_as : ℕ → ℕ) where
  abbrev pub theory : Theory
  theory = book w base threaded limit symbols

  -- ---- a guard or a body over formals

  module _ (formals : List ℕ) (ins : List Out) (vs : List (Shown ℕ)) (fs : AreFormals formals ins) (distinct : repeats formals ≡ false) (a : AreArguments w scope ins vs) (seen : AreSeen base seen_as ins vs) (r : repeats (names_in vs) ≡ false)
      (s : State ℕ) (t : StateOf (Store ℕ)) (lists : Held) (kin : AreKin w base seen_as scope s.symbols s.stobjs lists) (stands : Stands w scope s.stobjs t.stobjs) (same : AreSame s t) (sound : IsSound w base.table scope s.symbols s.stobjs) (known : KnowsAll (length s.symbols) vs) where
    abbrev pairs : Pairs
    pairs = pairs_of formals vs

    abbrev inner_s : State ℕ
    inner_s = record s { stobjs = lists_for pairs s.stobjs }

    abbrev inner_t : StateOf (Store ℕ)
    inner_t = record t { stobjs = record t.stobjs { scope = places_for pairs t.stobjs.scope } }

    -- what is given inside, seen outside
    handed_mine : (outs : List Out) (logic : Counted) (given : List (Shown ℕ)) (u : State ℕ) → Did w base (formal_entries formals ins) outs inner_s inner_t logic given u
        → MineAs w base seen_as scope s logic (map (outer_value formals vs) given) (record u { stobjs = lists_back pairs u.stobjs s.stobjs })
    handed_mine outs logic given u d =
        subst (λ (os : Stobjs ℕ). MineAs w base seen_as scope s logic (map (outer_value formals vs) given) (record u { stobjs = os })) (sym outside_is)
        (record {
          last = outer_lists;
          kin = record { each = λ y i. kin_by y i (actual_or_not pairs y (firsts_distinct formals vs distinct)) };
          sound = record {
            table = d.mine.sound.table;
            truth = d.mine.sound.truth;
            grown = d.mine.sound.grown;
            known = λ y i. known_by y i (written_or_not w pairs (May (formal_entries formals ins) outs) d.moves.writes s.stobjs y d.moves.allowed);
            recognized = λ y i. recognized_by y i (written_or_not w pairs (May (formal_entries formals ins) outs) d.moves.writes s.stobjs y d.moves.allowed);
          };
          grown = d.mine.grown;
          known = known_outside w base scope formals ins vs fs a (length u.symbols) given d.mine.known;
          ends = subst (λ (os : List Thing). Ended w logic os) (sym things_are) d.mine.ends;
        })
      where
        outside : Stobjs ℕ
        outside = stobjs_after (writes_out pairs d.moves.writes) s.stobjs

        of_firsts : (us : List Write) → AreWrites w (May (formal_entries formals ins) outs) us → AreWrites w (λ x. has (firsts pairs) x ≡ true) us
        of_firsts [] b = tt
        of_firsts (q ∷ us) b = (formal_first w scope formals ins vs q.0 fs a b.0.1, b.1, of_firsts us b.2)

        once : repeats (seconds pairs) ≡ false
        once = ap repeats (seconds_are w scope formals ins vs fs a) ∙ r

        inside_is : u.stobjs ≡ lists_for pairs outside
        inside_is = d.moves.stobjs ∙ writes_for w pairs d.moves.writes s.stobjs once (of_firsts d.moves.writes d.moves.allowed) (known_inside w scope formals ins vs s.stobjs t.stobjs fs a stands)

        outside_is : lists_back pairs u.stobjs s.stobjs ≡ outside
        outside_is =
            ap (λ (os : Stobjs ℕ). lists_back pairs os s.stobjs) d.moves.stobjs
            ∙ objects_back w pairs d.moves.writes s.stobjs (firsts_distinct formals vs distinct) once (of_firsts d.moves.writes d.moves.allowed) (known_inside w scope formals ins vs s.stobjs t.stobjs fs a stands)

        list_is : (x : ℕ) → IsStobj (formal_entries formals ins) x → list_of outside (actual pairs x) ≡ list_of u.stobjs x
        list_is x i = sym (ap (λ (os : Stobjs ℕ). list_of os x) inside_is ∙ list_inside w base scope formals ins vs fs a outside x i)

        outer_lists : Held
        outer_lists = held_back pairs d.mine.last lists

        list_back : (x : ℕ) → IsStobj (formal_entries formals ins) x → outer_lists (actual pairs x) ≡ d.mine.last x
        list_back x i = back_at pairs d.mine.last lists x once (formal_first w scope formals ins vs x fs a i)

        things_are : all_held u.symbols outer_lists (map (outer_value formals vs) given) ≡ all_held u.symbols d.mine.last given
        things_are =
            things_outside w base scope formals ins vs fs a u.symbols outer_lists outs given d.outputs
            ∙ same_held u.symbols (formal_entries formals ins) given d.mine.last (held_for pairs outer_lists) (outputs_in (formal_entries formals ins) outs given d.outputs) list_back

        kin_by : (y : ℕ) → IsStobj scope y → ((x : ℕ) × (has (firsts pairs) x ≡ true) × (y ≡ actual pairs x)) ⊎ (has (seconds pairs) y ≡ false) → Kin w base u.symbols (seen_as y) (list_of outside y) (outer_lists y)
        kin_by y i (inl e) =
            let here : IsStobj (formal_entries formals ins) e.0 = formal_stobj w scope formals ins vs e.0 fs distinct a e.1 in
            subst (λ (z : ℕ). Kin w base u.symbols (seen_as z) (list_of outside z) (outer_lists z)) (sym e.2)
            (kin_same w base u.symbols u.symbols (seen_as (actual pairs e.0)) (list_of u.stobjs e.0) (list_of outside (actual pairs e.0)) (d.mine.last e.0) (outer_lists (actual pairs e.0))
            (ap (thing_of_list u.symbols) (list_is e.0 here)) (list_back e.0 here)
            (kin_alike w base u.symbols e.0 (seen_as (actual pairs e.0)) (list_of u.stobjs e.0) (d.mine.last e.0) (formal_seen w base seen_as scope formals ins vs e.0 fs a seen e.1) (d.mine.kin.each e.0 here)))
        kin_by y i (inr e) =
            kin_same w base s.symbols u.symbols (seen_as y) (list_of s.stobjs y) (list_of outside y) (lists y) (outer_lists y)
            (ap (thing_of_list u.symbols) (not_written (written_or_not w pairs (May (formal_entries formals ins) outs) d.moves.writes s.stobjs y d.moves.allowed))
            ∙ list_stays (table_of base.table.packages s.symbols) (table_of base.table.packages u.symbols) d.mine.grown (list_of s.stobjs y) (nil_known w base scope s.symbols s.stobjs sound) (sound.known y i))
            (back_other pairs d.mine.last lists y e) (kin.each y i)
          where
            not_written : ((x : ℕ) × May (formal_entries formals ins) outs x × (y ≡ actual pairs x)) ⊎ (list_of outside y ≡ list_of s.stobjs y) → list_of outside y ≡ list_of s.stobjs y
            not_written (inl g) = true_false (sym (actual_second pairs g.0 (formal_first w scope formals ins vs g.0 fs a g.1.1)) ∙ (ap (has (seconds pairs)) (sym g.2) ∙ e))
            not_written (inr g) = g

        known_by : (y : ℕ) → IsStobj scope y → ((x : ℕ) × May (formal_entries formals ins) outs x × (y ≡ actual pairs x)) ⊎ (list_of outside y ≡ list_of s.stobjs y) → KnowsList (length u.symbols) (list_of outside y)
        known_by y i (inl e) = subst (KnowsList (length u.symbols)) (sym (ap (list_of outside) e.2 ∙ list_is e.0 e.1.1)) (d.mine.sound.known e.0 e.1.1)
        known_by y i (inr e) =
            subst (KnowsList (length u.symbols)) (sym e) (knows_list_stays (table_of base.table.packages s.symbols) (table_of base.table.packages u.symbols) d.mine.grown (list_of s.stobjs y) (sound.known y i))

        recognized_by : (y : ℕ) → IsStobj scope y → ((x : ℕ) × May (formal_entries formals ins) outs x × (y ≡ actual pairs x)) ⊎ (list_of outside y ≡ list_of s.stobjs y)
            → recognizes by_number (layout_of w y) (as_object by_number (list_of outside y)) ≡ true
        recognized_by y i (inl e) =
            ap (λ (l : StobjList ℕ). recognizes by_number (layout_of w y) (as_object by_number l)) (ap (list_of outside) e.2 ∙ list_is e.0 e.1.1)
            ∙ (ap (λ (m : Layout ℕ). recognizes by_number m (as_object by_number (list_of u.stobjs e.0))) (ap (layout_of w) e.2 ∙ sym (actual_object w base scope formals ins vs fs a e.0 e.1.1).1)
            ∙ d.mine.sound.recognized e.0 e.1.1)
        recognized_by y i (inr e) = ap (λ (l : StobjList ℕ). recognizes by_number (layout_of w y) (as_object by_number l)) e ∙ sound.recognized y i

    mine_handed : (outs : List Out) (logic : Counted) (p : Outcome ℕ) → IfGives (Did w base (formal_entries formals ins) outs inner_s inner_t logic) p → IfGives (MineAs w base seen_as scope s logic) (handed lists_keeping formals vs s.stobjs p)
    mine_handed outs logic (Gives given u) d =
        subst (λ (os : Stobjs ℕ). MineAs w base seen_as scope s logic (map (outer_value formals vs) given) (record u { stobjs = os })) (sym (handed_back_is formals vs u.stobjs s.stobjs)) (handed_mine outs logic given u d)
    mine_handed outs logic (Stops stop origin u) d = tt
    mine_handed outs logic Unknown d = d

    pub follows_scoped : (form : Core) (outs : List Out) → (checked : IsChecked w formals ins form outs) → AreSeenIn w base checked.world → IsSuited w (length base.table.symbols) form
        → IfGives (MineAs w base seen_as scope s (form_counted theory form (bind formals (all_held s.symbols lists vs) []))) (scoped (on_lists w threaded base.table.packages limit) ev formals vs form s)
    follows_scoped form outs checked seen_in suited =
        subst (λ (os : Stobjs ℕ). IfGives (MineAs w base seen_as scope s (form_counted theory form (bind formals (all_held s.symbols lists vs) []))) (handed lists_keeping formals vs s.stobjs (ev form (inner_variables formals vs) (record s { stobjs = os }))))
        (sym (inner_objects_are formals vs s.stobjs))
        (mine_handed outs (form_counted theory form (bind formals (all_held s.symbols lists vs) [])) (ev form (inner_variables formals vs) inner_s)
        (did w base threaded limit theory ev el h f checked.world Executable (formal_entries formals ins) form None outs
        (record { suited_world = record { suits = checked.suits; seen = seen_in }; runs = executable_not_logic; accepted = accepted_first checked.world Executable (formal_entries formals ins) form outs checked.accepted; formed = checked.formed; suited = suited })
        (inner_variables formals vs) inner_s inner_t (bind formals (all_held s.symbols lists vs) [])
        (record {
          are = record { each = formal_variables w scope formals ins vs fs distinct a };
          stands = stands_inside w scope formals ins vs s.stobjs t.stobjs fs a r stands;
          same = record { symbols = same.symbols; calls = same.calls; outer = same.outer };
          sound = sound_inside w base scope formals ins vs fs a s.symbols s.stobjs sound;
          lists = held_for pairs lists;
          kin = kin_inside w base scope formals ins vs fs a seen_as s.symbols s.stobjs lists seen kin;
          named = named_inside w base scope formals ins vs fs a s.symbols s.stobjs lists sound known;
        })))

    -- all that is known of it outside
    pub did_scoped : (form : Core) (outs : List Out) → (checked : IsChecked w formals ins form outs) → AreSeenIn w base checked.world → IsSuited w (length base.table.symbols) form
        → IfGives (DidAs w base seen_as scope (results ins vs outs) s t (form_counted theory form (bind formals (all_held s.symbols lists vs) []))) (scoped (on_lists w threaded base.table.packages limit) ev formals vs form s)
    did_scoped form outs checked seen_in suited =
        let logic : Counted = form_counted theory form (bind formals (all_held s.symbols lists vs) []) in
        gives_map (λ given u. (AreOutputs scope (results ins vs outs) given × ((v : StateOf (Store ℕ)) × Moves w (May scope (results ins vs outs)) s t u v)) × MineAs w base seen_as scope s logic given u)
        (DidAs w base seen_as scope (results ins vs outs) s t logic) (scoped (on_lists w threaded base.table.packages limit) ev formals vs form s)
        (λ given u m. record { outputs = m.0.0; to = m.0.1.0; moves = m.0.1.1; mine = m.1 })
        (gives_both (λ given u. AreOutputs scope (results ins vs outs) given × ((v : StateOf (Store ℕ)) × Moves w (May scope (results ins vs outs)) s t u v)) (MineAs w base seen_as scope s logic) (scoped (on_lists w threaded base.table.packages limit) ev formals vs form s)
        (gives_moves w (AreOutputs scope (results ins vs outs)) (May scope (results ins vs outs)) (IsStobj scope) s t (scoped (on_lists w threaded base.table.packages limit) ev formals vs form s) (scoped (at_places w threaded base.table.packages limit) el formals vs form t)
        (meets_scoped w threaded base.table.packages limit ev el h scope formals ins vs fs distinct a r s t stands form outs checked same))
        (follows_scoped form outs checked seen_in suited))
