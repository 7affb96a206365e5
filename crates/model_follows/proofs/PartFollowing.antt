-- Forms in order: parts and bindings that change no stobj, and the actuals of a call.
use Rattle.std.proofs.Common.{◌≡◌, ℕ, List, [], ◌∷◌, ◌++◌, length, false, Some, None, refl, sym, ap, ◌∙◌, subst, arith}
use Rattle.std.specs.Prelude.{◌≢◌}
use Rattle.std.specs.Option.{option_map_or}
use Rattle.std.proofs.lemmas.List.{append_assoc}
use Rattle.model_symbols.specs.Symbols.{QualifiedName}
use Rattle.model_symbols.specs.Growth.{Extends}
use Rattle.model_symbols.proofs.TableLemmas.{Extends-self, Extends-then}
use Rattle.model_prims.specs.Kinds.{by_number}
use Rattle.model_terms.specs.declared.rule.Mode.{Mode}
use Rattle.model_terms.specs.declared.rule.Mode.TheVariants.{Logic}
use Rattle.model_terms.specs.Cores.{Core, Cores, none, more, Var, variable, count}
use Rattle.model_terms.specs.Worlds.{World, Out, Ordinary, Scope}
use Rattle.model_terms.specs.Worlds as worlds
use Rattle.model_terms.specs.Classes as classes
use Rattle.model_terms.specs.Classes.{has, congruent, all_congruent}
use Rattle.model_terms.specs.Outputs.{stobj_actuals}
use Rattle.model_terms.specs.Sites.{here, one_ordinary}
use Rattle.model_terms.specs.Nested.{stands_for}
use Rattle.model_eval.specs.Outcomes.{Shown, Plain, StobjNamed, StateOf, State, Outcome, Gives}
use Rattle.model_eval.specs.PlacesKeeping.{Store}
use Rattle.model_eval.specs.Variables.{Variables, variable_in, single, list_of}
use Rattle.model_eval.specs.Evaluated.{Evaluator, EvaluatorOf, in_order}
use Rattle.model_logic.specs.Logic.{Theory, Thing, Values, value_in, found, form_value, form_values}
use Rattle.model_accepted.specs.Threaded.{IsFormed, AreFormed, IsThreaded}
use Rattle.model_accepted.specs.StobjScopes.{IsStobj, AreVariables, AreOutputs}
use Rattle.model_in_place.specs.Calls.{names_in}
use Rattle.model_accepted.specs.Accepted.{Accepted, PartsAccepted, ActualsAccepted}
use Rattle.model_accepted.proofs.AcceptLemmas.{s1, not_false}
use Rattle.model_in_place.proofs.CallMeeting.{on_lists, Meets}
use Rattle.model_in_place.proofs.PartMeeting.{AreActuals, IsActual, actual_is, append_nothing, one_there, both_hold}
use Rattle.model_follows.specs.Costs.{Counted, caller, form_counted, Ends}
use Rattle.model_follows.specs.FollowedWorlds.{IsSuited, AreSuited}
use Rattle.model_follows.specs.Follows.{KnowsShown, KnowsAll, table_of, IfGives}
use Rattle.model_follows.proofs.CostLemmas.{costs_nothing, ends_more}
use Rattle.model_follows.proofs.ThingLemmas.{AllIn, outputs_in, shown_stays, things_stay}
use Rattle.model_follows.proofs.EndedLemmas.{Ended, ended_one, ended_single}
use Rattle.model_follows.proofs.HeldThings.{Ground, Held, held, all_held, itself}
use Rattle.model_follows.proofs.FormalThings.{AreSeen}
use Rattle.model_follows.proofs.Following.{Suited, gives_map, gives_then, unchanged, Mine, Stage, Follows, Did, did, quiet_after, mine_before}

-- a part changes no stobj: it gives none, or it is a variable
abbrev pub AreQuiet : List Out → Cores → Type 0
AreQuiet [] forms = Unit {0}
AreQuiet (k ∷ ks) none = Unit {0}
AreQuiet (Ordinary ∷ ks) (more form forms) = AreQuiet ks forms
AreQuiet (worlds.Stobj x ∷ ks) (more form forms) = (form ≡ Var x) × AreQuiet ks forms

append_none : (os : List Thing) → os ++ [] ≡ os
append_none [] = refl
append_none (o ∷ os) = ap (λ (ps : List Thing). o ∷ ps) (append_none os)

module _ (w : World) (base : Ground) (threaded : IsThreaded w) (limit : ℕ) (symbols : List QualifiedName) where
  abbrev pub book : Theory
  book = record { world = w; packages = base.table.packages; symbols = symbols }

  -- what is the same in a later state, where no stobj has changed
  pub record IsQuiet (scope : Scope) (s u : State ℕ) (before after : Held) : Type 0 where
    pub grown : Extends (table_of base.table.packages s.symbols) (table_of base.table.packages u.symbols)
    pub lists : (x : ℕ) → IsStobj scope x → list_of u.stobjs x ≡ list_of s.stobjs x
    pub same : (x : ℕ) → IsStobj scope x → after x ≡ before x

  quiet_self : (scope : Scope) (s : State ℕ) (lists : Held) → IsQuiet scope s s lists lists
  quiet_self scope s lists = record { grown = Extends-self (table_of base.table.packages s.symbols); lists = λ x o. refl; same = λ x o. refl }

  quiet_then : (scope : Scope) (s u q : State ℕ) (a b c : Held) → IsQuiet scope s u a b → IsQuiet scope u q b c → IsQuiet scope s q a c
  quiet_then scope s u q a b c h i = record { grown = Extends-then h.grown i.grown; lists = λ x o. i.lists x o ∙ h.lists x o; same = λ x o. i.same x o ∙ h.same x o }

  pub quiet_thing : (scope : Scope) (s u : State ℕ) (before after : Held) (v : Shown ℕ) → IsQuiet scope s u before after → AllIn scope (v ∷ []) → KnowsShown (length s.symbols) v
      → held u.symbols after v ≡ held s.symbols before v
  quiet_thing scope s u before after v q a k =
      first_is (things_stay (table_of base.table.packages s.symbols) (table_of base.table.packages u.symbols) q.grown scope (v ∷ []) before after a (k, tt) q.same)
    where
      first_is : held u.symbols after v ∷ [] ≡ held s.symbols before v ∷ [] → held u.symbols after v ≡ held s.symbols before v
      first_is e = cc

  pub quiet_things : (scope : Scope) (s u : State ℕ) (before after : Held) (vs : List (Shown ℕ)) → IsQuiet scope s u before after → AllIn scope vs → KnowsAll (length s.symbols) vs
      → all_held u.symbols after vs ≡ all_held s.symbols before vs
  quiet_things scope s u before after vs q a k = things_stay (table_of base.table.packages s.symbols) (table_of base.table.packages u.symbols) q.grown scope vs before after a k q.same

  -- a variable in L
  pub variable_ends : (scope : Scope) (form : Core) (variables : Variables ℕ) (s : State ℕ) (t : StateOf (Store ℕ)) (values : Values) (stage : Stage w base scope variables s t values) (x : ℕ) → form ≡ Var x → IsStobj scope x → variable_in by_number variables x ≡ StobjNamed x
      → Ends (form_counted book form values) (stage.lists x)
  unfolding form_value
  variable_ends scope form variables s t values stage x e i shown =
      subst (λ (g : Core). Ends (form_counted book g values) (stage.lists x)) (sym e)
      (subst (λ (v : Thing). Ends (λ budget nest start. found (value_in values x) start) v) (stage.named.same x (worlds.Stobj x) i ∙ ap (held s.symbols stage.lists) shown) (0, costs_nothing (value_in values x)))

  -- ordinary values are in L what they are, whatever the lists
  plain_held : (scope : Scope) (symbols : List QualifiedName) (before after : Held) (vs : List (Shown ℕ)) → AreOutputs scope one_ordinary vs → all_held symbols before vs ≡ all_held symbols after vs
  plain_held scope symbols before after [] a = refl
  plain_held scope symbols before after (Plain o ∷ []) a = refl
  plain_held scope symbols before after (Plain o ∷ (v ∷ vs)) a = absurd a.1
  plain_held scope symbols before after (StobjNamed x ∷ vs) a = absurd a.0

  -- a part gave values and changed no stobj
  record IsPart (scope : Scope) (variables : Variables ℕ) (values : Values) (kind : Out) (form : Core) (s : State ℕ) (t : StateOf (Store ℕ)) (before : Held) (vs : List (Shown ℕ)) (u : State ℕ) : Type 0 where
    outputs : AreOutputs scope (kind ∷ []) vs
    known : KnowsAll (length u.symbols) vs
    beside : StateOf (Store ℕ)
    stage : Stage w base scope variables u beside values
    quiet : IsQuiet scope s u before stage.lists
    ends : Ended w (form_counted book form values) (all_held u.symbols stage.lists vs)

  module _ (ev : Evaluator ℕ) (el : EvaluatorOf ℕ (Store ℕ)) (h : Meets w threaded base.table.packages limit ev el) (f : Follows w base book ev)
      (c : World) (mode : Mode) (scope : Scope) (suited_world : Suited w base c) (n : mode ≢ Logic) (variables : Variables ℕ) (values : Values) where
    -- the rest, once parts of these kinds gave values
    abbrev pub GoFollows : List Out → List (Shown ℕ) → List Thing → (List (Shown ℕ) → State ℕ → Outcome ℕ) → (List Thing → Counted) → State ℕ → Held → Type 0
    GoFollows kinds done before go logic s lists =
        (vs all : List (Shown ℕ)) (u : State ℕ) (v : StateOf (Store ℕ)) → AreOutputs scope kinds vs → all ≡ done ++ vs → (stage : Stage w base scope variables u v values) → IsQuiet scope s u lists stage.lists → KnowsAll (length u.symbols) vs
        → IfGives (Mine w base scope u (logic (before ++ all_held u.symbols stage.lists vs))) (go all u)

    -- a part, which changes no stobj
    part_quiet : (kind : Out) (form : Core) (s : State ℕ) (t : StateOf (Store ℕ)) → Accepted c mode scope form None (kind ∷ []) → IsFormed c form → IsSuited w (length base.table.symbols) form
        → AreQuiet (kind ∷ []) (more form none) → (stage : Stage w base scope variables s t values) → IfGives (IsPart scope variables values kind form s t stage.lists) (ev form variables s)
    unfolding quiet_after
    part_quiet Ordinary form s t accepted formed suited q stage =
        gives_map (Did w base scope one_ordinary s t (form_counted book form values)) (IsPart scope variables values Ordinary form s t stage.lists) (ev form variables s)
        (λ vs u d. record {
          outputs = d.outputs;
          known = d.mine.known;
          beside = d.to;
          stage = quiet_after w base scope variables s t values (form_counted book form values) vs u stage d;
          quiet = record { grown = d.mine.grown; lists = λ x o. unchanged w scope one_ordinary s t u d.to d.moves x refl; same = λ x o. refl };
          ends = subst (λ (os : List Thing). Ended w (form_counted book form values) os) (plain_held scope u.symbols d.mine.last stage.lists vs d.outputs) d.mine.ends;
        })
        (did w base threaded limit book ev el h f c mode scope form None one_ordinary (record { suited_world = suited_world; runs = n; accepted = accepted; formed = formed; suited = suited }) variables s t values stage)
    part_quiet (worlds.Stobj x) form s t accepted formed suited q stage =
        by_value (ev form variables s) (ap (λ (g : Core). ev g variables s) q.0 ∙ h.of_lists x variables s)
        (did w base threaded limit book ev el h f c mode scope form None (worlds.Stobj x ∷ []) (record { suited_world = suited_world; runs = n; accepted = accepted; formed = formed; suited = suited }) variables s t values stage)
      where
        of_value : (v : Shown ℕ) → v ≡ variable_in by_number variables x → Did w base scope (worlds.Stobj x ∷ []) s t (form_counted book form values) (v ∷ []) s → IsPart scope variables values (worlds.Stobj x) form s t stage.lists (v ∷ []) s
        of_value (Plain o) e d = absurd d.outputs.0
        of_value (StobjNamed y) e d = record {
          outputs = d.outputs;
          known = d.mine.known;
          beside = t;
          stage = stage;
          quiet = quiet_self scope s stage.lists;
          ends =
              ended_one w (form_counted book form values) (stage.lists y ∷ [])
              (subst (λ (z : ℕ). Ends (form_counted book form values) (stage.lists z)) (sym d.outputs.0.0)
              (variable_ends scope form variables s t values stage x q.0 d.outputs.0.1 (sym e ∙ ap (λ (z : ℕ). StobjNamed z) d.outputs.0.0)));
        }

        by_value : (a : Outcome ℕ) → a ≡ Gives (variable_in by_number variables x ∷ []) s → IfGives (Did w base scope (worlds.Stobj x ∷ []) s t (form_counted book form values)) a
            → IfGives (IsPart scope variables values (worlds.Stobj x) form s t stage.lists) a
        by_value a e =
            subst (λ (z : Outcome ℕ). IfGives (Did w base scope (worlds.Stobj x ∷ []) s t (form_counted book form values)) z → IfGives (IsPart scope variables values (worlds.Stobj x) form s t stage.lists) z) (sym e)
            (of_value (variable_in by_number variables x) refl)

    pub follows_parts : (kinds : List Out) (forms : Cores) (done : List (Shown ℕ)) (before : List Thing) (go : List (Shown ℕ) → State ℕ → Outcome ℕ) (logic : List Thing → Counted) (s : State ℕ) (t : StateOf (Store ℕ))
        → PartsAccepted c mode scope kinds forms → AreFormed c forms → AreSuited w (length base.table.symbols) forms → count forms ≡ length kinds → AreQuiet kinds forms → (stage : Stage w base scope variables s t values)
        → GoFollows kinds done before go logic s stage.lists
        → IfGives (Mine w base scope s (λ budget nest start. form_values book budget (caller book budget nest) forms values before (λ os calls. logic os budget nest calls) start))
        (in_order (on_lists w threaded base.table.packages limit) ev forms variables done go s)
    unfolding in_order AreFormed AreSuited form_values
    follows_parts [] none done before go logic s t p formed suited counted q stage k =
        subst (λ (os : List Thing). IfGives (Mine w base scope s (logic os)) (go done s)) (append_none before)
        (k [] done s t tt (append_nothing done) stage (quiet_self scope s stage.lists) tt)
    follows_parts (kind ∷ kinds) none done before go logic s t p formed suited counted q stage k = absurd (omega (arith, counted))
    follows_parts [] (more form forms) done before go logic s t p formed suited counted q stage k = absurd (omega (arith, counted))
    follows_parts (kind ∷ kinds) (more form forms) done before go logic s t p formed suited counted q stage k =
        let fewer : count forms ≡ length kinds = omega (arith, counted) in
        gives_then _ (Mine w base scope s (λ budget nest start. form_values book budget (caller book budget nest) (more form forms) values before (λ os calls. logic os budget nest calls) start))
        (ev form variables s) (λ vs after. in_order (on_lists w threaded base.table.packages limit) ev forms variables (done ++ single by_number vs ∷ []) go after)
        (part_quiet kind form s t p.0 formed.0 suited.0 (first_quiet kind q) stage)
        (λ vs u d. next
        (λ x thing y z after g. follows_parts kinds forms (done ++ x ∷ []) (before ++ thing ∷ []) go logic y z p.1 formed.1 suited.1 fewer (later_quiet kind q) after g)
        vs u d)
      where
        first_quiet : (kind : Out) → AreQuiet (kind ∷ kinds) (more form forms) → AreQuiet (kind ∷ []) (more form none)
        first_quiet Ordinary i = tt
        first_quiet (worlds.Stobj x) i = (i.0, tt)

        later_quiet : (kind : Out) → AreQuiet (kind ∷ kinds) (more form forms) → AreQuiet kinds forms
        later_quiet Ordinary i = i
        later_quiet (worlds.Stobj x) i = i.1

        next : ((x : Shown ℕ) (thing : Thing) (y : State ℕ) (z : StateOf (Store ℕ)) → (after : Stage w base scope variables y z values) → GoFollows kinds (done ++ x ∷ []) (before ++ thing ∷ []) go logic y after.lists
            → IfGives (Mine w base scope y (λ budget nest start. form_values book budget (caller book budget nest) forms values (before ++ thing ∷ []) (λ os calls. logic os budget nest calls) start))
            (in_order (on_lists w threaded base.table.packages limit) ev forms variables (done ++ x ∷ []) go y))
            → (vs : List (Shown ℕ)) (u : State ℕ) → IsPart scope variables values kind form s t stage.lists vs u
            → IfGives (Mine w base scope s (λ budget nest start. form_values book budget (caller book budget nest) (more form forms) values before (λ os calls. logic os budget nest calls) start))
            (in_order (on_lists w threaded base.table.packages limit) ev forms variables (done ++ single by_number vs ∷ []) go u)
        next rest [] u d = absurd d.outputs
        next rest (x ∷ (y ∷ ys)) u d = absurd d.outputs.1
        next rest (x ∷ []) u d =
            let thing : Thing = held u.symbols d.stage.lists x in
            gives_map (Mine w base scope u (λ budget nest start. form_values book budget (caller book budget nest) forms values (before ++ thing ∷ []) (λ os calls. logic os budget nest calls) start)) _
            (in_order (on_lists w threaded base.table.packages limit) ev forms variables (done ++ x ∷ []) go u)
            (λ ws z m. mine_before w base scope s u _ _ ws z d.quiet.grown (λ r e. ends_more book form forms values before logic thing r (ended_single w (form_counted book form values) thing d.ends) e) m)
            (rest x thing u d.beside d.stage
            (λ us all z r a same stage_z quiet_z known.
            subst (λ (os : List Thing). IfGives (Mine w base scope z (logic os)) (go all z))
            (ap (λ (o : Thing). before ++ o ∷ all_held z.symbols stage_z.lists us) (quiet_thing scope u z d.stage.lists stage_z.lists x quiet_z (outputs_in scope (kind ∷ []) (x ∷ []) d.outputs) d.known.0)
            ∙ sym (append_assoc before (thing ∷ []) (all_held z.symbols stage_z.lists us)))
            (k (x ∷ us) all z r (d.outputs.0, a) (same ∙ append_assoc done (x ∷ []) us) stage_z (quiet_then scope s u z stage.lists d.stage.lists stage_z.lists d.quiet quiet_z)
            (shown_stays (table_of base.table.packages u.symbols) (table_of base.table.packages z.symbols) quiet_z.grown x d.known.0, known))))

    -- ---- actuals

    -- the rest, once the actuals gave arguments
    abbrev pub GoActuals : List Out → Cores → List (Shown ℕ) → List Thing → (List (Shown ℕ) → State ℕ → Outcome ℕ) → (List Thing → Counted) → AreVariables scope variables → State ℕ → Held → Type 0
    GoActuals ins forms done before go logic are s lists =
        (vs all : List (Shown ℕ)) (u : State ℕ) (v : StateOf (Store ℕ)) → AreActuals w threaded base.table.packages limit ev el h c mode scope suited_world.suits n variables are ins forms vs → AreSeen base itself ins vs → all ≡ done ++ vs
        → (stage : Stage w base scope variables u v values) → IsQuiet scope s u lists stage.lists → KnowsAll (length u.symbols) vs
        → IfGives (Mine w base scope u (logic (before ++ all_held u.symbols stage.lists vs))) (go all u)

    pub follows_actuals : (are : AreVariables scope variables) (ins : List Out) (forms : Cores) (done : List (Shown ℕ)) (before : List Thing) (go : List (Shown ℕ) → State ℕ → Outcome ℕ) (logic : List Thing → Counted) (s : State ℕ) (t : StateOf (Store ℕ))
        → ActualsAccepted c mode scope ins forms → AreFormed c forms → AreSuited w (length base.table.symbols) forms → length ins ≡ count forms → (stage : Stage w base scope variables s t values)
        → GoActuals ins forms done before go logic are s stage.lists
        → IfGives (Mine w base scope s (λ budget nest start. form_values book budget (caller book budget nest) forms values before (λ os calls. logic os budget nest calls) start))
        (in_order (on_lists w threaded base.table.packages limit) ev forms variables done go s)
    unfolding in_order AreFormed AreSuited form_value form_values
    follows_actuals are [] none done before go logic s t p formed suited counted stage k =
        subst (λ (os : List Thing). IfGives (Mine w base scope s (logic os)) (go done s)) (append_none before)
        (k [] done s t (record { arguments = tt; there = refl; congruent_ones = refl }) tt (append_nothing done) stage (quiet_self scope s stage.lists) tt)
    follows_actuals are (kind ∷ ins) none done before go logic s t p formed suited counted stage k = absurd (omega (arith, counted))
    follows_actuals are [] (more form forms) done before go logic s t p formed suited counted stage k = absurd (omega (arith, counted))
    follows_actuals are (Ordinary ∷ ins) (more form forms) done before go logic s t p formed suited counted stage k =
        let fewer : length ins ≡ count forms = omega (arith, counted) in
        gives_then _ (Mine w base scope s (λ budget nest start. form_values book budget (caller book budget nest) (more form forms) values before (λ os calls. logic os budget nest calls) start))
        (ev form variables s) (λ vs after. in_order (on_lists w threaded base.table.packages limit) ev forms variables (done ++ single by_number vs ∷ []) go after)
        (part_quiet Ordinary form s t p.0 formed.0 suited.0 tt stage)
        (λ vs u d. next
        (λ x thing y z after g. follows_actuals are ins forms (done ++ x ∷ []) (before ++ thing ∷ []) go logic y z p.1 formed.1 suited.1 fewer after g)
        vs u d)
      where
        next : ((x : Shown ℕ) (thing : Thing) (y : State ℕ) (z : StateOf (Store ℕ)) → (after : Stage w base scope variables y z values) → GoActuals ins forms (done ++ x ∷ []) (before ++ thing ∷ []) go logic are y after.lists
            → IfGives (Mine w base scope y (λ budget nest start. form_values book budget (caller book budget nest) forms values (before ++ thing ∷ []) (λ os calls. logic os budget nest calls) start))
            (in_order (on_lists w threaded base.table.packages limit) ev forms variables (done ++ x ∷ []) go y))
            → (vs : List (Shown ℕ)) (u : State ℕ) → IsPart scope variables values Ordinary form s t stage.lists vs u
            → IfGives (Mine w base scope s (λ budget nest start. form_values book budget (caller book budget nest) (more form forms) values before (λ os calls. logic os budget nest calls) start))
            (in_order (on_lists w threaded base.table.packages limit) ev forms variables (done ++ single by_number vs ∷ []) go u)
        next rest [] u d = absurd d.outputs
        next rest (x ∷ (y ∷ ys)) u d = absurd d.outputs.1
        next rest (StobjNamed x ∷ []) u d = absurd d.outputs.0
        next rest (Plain o ∷ []) u d =
            let thing : Thing = held u.symbols d.stage.lists (Plain o) in
            gives_map (Mine w base scope u (λ budget nest start. form_values book budget (caller book budget nest) forms values (before ++ thing ∷ []) (λ os calls. logic os budget nest calls) start)) _
            (in_order (on_lists w threaded base.table.packages limit) ev forms variables (done ++ Plain o ∷ []) go u)
            (λ ws z m. mine_before w base scope s u _ _ ws z d.quiet.grown (λ r e. ends_more book form forms values before logic thing r (ended_single w (form_counted book form values) thing d.ends) e) m)
            (rest (Plain o) thing u d.beside d.stage
            (λ us all z r a seen same stage_z quiet_z known.
            subst (λ (os : List Thing). IfGives (Mine w base scope z (logic os)) (go all z))
            (ap (λ (q : Thing). before ++ q ∷ all_held z.symbols stage_z.lists us) (quiet_thing scope u z d.stage.lists stage_z.lists (Plain o) quiet_z (tt, tt) d.known.0)
            ∙ sym (append_assoc before (thing ∷ []) (all_held z.symbols stage_z.lists us)))
            (k (Plain o ∷ us) all z r (record { arguments = (tt, a.arguments); there = a.there; congruent_ones = a.congruent_ones }) seen (same ∙ append_assoc done (Plain o ∷ []) us) stage_z
            (quiet_then scope s u z stage.lists d.stage.lists stage_z.lists d.quiet quiet_z) (shown_stays (table_of base.table.packages u.symbols) (table_of base.table.packages z.symbols) quiet_z.grown (Plain o) d.known.0, known))))
    follows_actuals are (worlds.Stobj o ∷ ins) (more form forms) done before go logic s t p formed suited counted stage k =
        let fewer : length ins ≡ count forms = omega (arith, counted) in
        let actual : IsActual w threaded base.table.packages limit ev el h c mode scope suited_world.suits n variables are o form
        = actual_is w threaded base.table.packages limit ev el h c mode scope suited_world.suits n variables are o form (not_false (option_map_or (λ x. stands_for c scope x o) (variable form) false) (s1 c mode (here form scope (Some o) _) n p.0.0)) in
        let thing : Thing = stage.lists actual.name in
        let first : ev form variables s ≡ Gives (StobjNamed actual.name ∷ []) s
        = ap (λ (f : Core). ev f variables s) actual.is ∙ (h.of_lists actual.name variables s ∙ ap (λ (v : Shown ℕ). Gives (v ∷ []) s) actual.shown) in
        rw first
        (gives_map (Mine w base scope s (λ budget nest start. form_values book budget (caller book budget nest) forms values (before ++ thing ∷ []) (λ os calls. logic os budget nest calls) start)) _
        (in_order (on_lists w threaded base.table.packages limit) ev forms variables (done ++ StobjNamed actual.name ∷ []) go s)
        (λ ws z m. mine_before w base scope s s _ _ ws z (Extends-self (table_of base.table.packages s.symbols)) (λ r e. ends_more book form forms values before logic thing r (variable_ends scope form variables s t values stage actual.name actual.is actual.in_scope actual.shown) e) m)
        (follows_actuals are ins forms (done ++ StobjNamed actual.name ∷ []) (before ++ thing ∷ []) go logic s t p.1 formed.1 suited.1 fewer stage
        (λ us all z r a seen same stage_z quiet_z known.
        subst (λ (os : List Thing). IfGives (Mine w base scope z (logic os)) (go all z))
        (ap (λ (q : Thing). before ++ q ∷ all_held z.symbols stage_z.lists us) (quiet_thing scope s z stage.lists stage_z.lists (StobjNamed actual.name) quiet_z (actual.in_scope, tt) tt)
        ∙ sym (append_assoc before (thing ∷ []) (all_held z.symbols stage_z.lists us)))
        (k (StobjNamed actual.name ∷ us) all z r
        (record {
          arguments = ((actual.in_scope, suited_world.suits.layouts o actual.name actual.alike), a.arguments);
          there = one_there form actual.name (stobj_actuals ins forms) (names_in us) actual.is a.there;
          congruent_ones = both_hold (congruent c o actual.name) (all_congruent c (classes.stobjs ins) (names_in us)) actual.alike a.congruent_ones;
        })
        (suited_world.seen.alike o actual.name actual.alike, seen)
        (same ∙ append_assoc done (StobjNamed actual.name ∷ []) us) stage_z quiet_z (tt, known)))))
