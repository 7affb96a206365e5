-- Forms in order, and every kind of form.
use Rattle.std.proofs.Common.{◌≡◌, ℕ, ◌<◌, List, [], ◌∷◌, ◌++◌, map, length, false, Option, Some, None, refl, sym, ap, ◌∙◌, subst, arith}
use Rattle.std.specs.Prelude.{◌≢◌}
use Rattle.model_accepted.specs.Accepted.{ActualsAccepted, PartsAccepted}
use Rattle.model_answers.proofs.Setting.{Answers, Staged, naming, nils, stage_of, staged_after, things, values_of}
use Rattle.model_answers.specs.Beside.{AnswersAs, AreTogether}
use Rattle.model_accepted.specs.Threaded.{AreFormed, IsThreaded}
use Rattle.model_accepted.specs.StobjScopes.{AreOutputs, AreVariables}
use Rattle.model_follows.proofs.FormalThings.{AreSeen}
use Rattle.model_follows.specs.FollowedWorlds.{AreSuited}
use Rattle.model_terms.specs.Cores.{Core, Cores, count, more, none, variable}
use Rattle.model_follows.proofs.Following.{Did, Follows, Form, Suited, did}
use Rattle.model_eval.specs.Evaluated.{Evaluator, EvaluatorOf, Rules, in_order}
use Rattle.model_symbols.specs.Growth.{Extends}
use Rattle.model_eval.specs.Outcomes.{Gives, Outcome, Plain, Shown, State, StateOf, StobjNamed, then_with}
use Rattle.model_follows.proofs.HeldThings.{Ground, itself}
use Rattle.model_follows.specs.Follows.{IfGives, KnowsAll, KnowsShown, table_of}
use Rattle.model_in_place.proofs.PartMeeting.{IsActual, actual_is, append_nothing, both_hold, one_there, AreActuals}
use Rattle.model_terms.specs.declared.rule.Mode.TheVariants.{Logic}
use Rattle.model_in_place.proofs.CallMeeting.{Meets, on_lists}
use Rattle.model_terms.specs.declared.rule.Mode.{Mode}
use Rattle.model_terms.specs.Worlds.{Ordinary, Out, Scope, World}
use Rattle.model_symbols.specs.Symbols.{QualifiedName}
use Rattle.model_eval.specs.PlacesKeeping.{Store}
use Rattle.model_logic.specs.Logic.{Theory}
use Rattle.model_eval.specs.Variables.{Variables, single, variable_in}
use Rattle.model_abstract.specs.Rules.{abstract_rules}
use Rattle.model_terms.specs.Classes.{all_congruent, congruent}
use Rattle.model_follows.proofs.ThingLemmas.{all_stay}
use Rattle.model_answers.proofs.Outcomes.{answers_as, answers_then}
use Rattle.std.proofs.lemmas.List.{append_assoc}
use Rattle.model_answers.proofs.Naming.{known_append, append_named, single_named, values_stay, variable_named}
use Rattle.model_follows.proofs.PartFollowing.{book}
use Rattle.model_prims.specs.Kinds.{by_name, by_number}
use Rattle.model_follows.specs.Costs.{form_counted}
use Rattle.model_terms.specs.Sites.{here, one_ordinary}
use Rattle.model_eval_laws.specs.Scope.{names}
use Rattle.model_in_place.specs.Calls.{names_in}
use Rattle.model_symbols.specs.Opening.{nil}
use Rattle.model_accepted.proofs.AcceptLemmas.{not_false, s1}
use Rattle.std.specs.Option.{option_map_or}
use Rattle.model_terms.specs.Nested.{stands_for}
use Rattle.model_terms.specs.Outputs.{stobj_actuals}
use Rattle.model_abstract_books.specs.Answers.{shown_named}
use Rattle.model_terms.specs.Worlds as worlds
use Rattle.model_terms.specs.Classes as classes

module _ (w : World) (base : Ground) (threaded : IsThreaded w) (limit : ℕ) (symbols : List QualifiedName) (offset : ℕ) where
  abbrev pub thy : Theory
  thy = book w base threaded limit symbols

  abbrev pub on_names : ℕ → ℕ → Rules QualifiedName
  on_names m k = abstract_rules (book w base threaded limit symbols) m k

  module _ (ev : Evaluator ℕ) (el : EvaluatorOf ℕ (Store ℕ)) (h : Meets w threaded base.table.packages limit ev el) (f : Follows w base (book w base threaded limit symbols) ev) (av : ℕ → ℕ → Evaluator QualifiedName) (an : Answers w base offset ev av) where
    -- a form, once others were evaluated
    pub answers_next : (there : List ℕ) (c : World) (mode : Mode) (scope : Scope) (form : Core) (formal : Option ℕ) (expected : List Out) → Form w base c mode scope form formal expected
        → (variables : Variables ℕ) (s : State ℕ) (t : StateOf (Store ℕ)) (shown : Variables QualifiedName) (a : State QualifiedName) → Staged w base offset scope variables s t shown a → names s.stobjs ≡ there
        → AnswersAs w base offset s.symbols there a.calls (ev form variables s) (λ m k. av m k form shown a)
    answers_next there c mode scope form formal expected is variables s t shown a st e =
        subst (λ (ns : List ℕ). AnswersAs w base offset s.symbols ns a.calls (ev form variables s) (λ m k. av m k form shown a)) e (an.answers c mode scope form formal expected is variables s t shown a st)

    -- what else is known of a form
    pub did_staged : (c : World) (mode : Mode) (scope : Scope) (form : Core) (formal : Option ℕ) (expected : List Out) → Form w base c mode scope form formal expected
        → (variables : Variables ℕ) (s : State ℕ) (t : StateOf (Store ℕ)) (shown : Variables QualifiedName) (a : State QualifiedName) → Staged w base offset scope variables s t shown a
        → IfGives (Did w base scope expected s t (form_counted thy form (values_of s.symbols (things a.stobjs) variables))) (ev form variables s)
    did_staged c mode scope form formal expected is variables s t shown a st =
        did w base threaded limit thy ev el h f c mode scope form formal expected is variables s t (values_of s.symbols (things a.stobjs) variables) (stage_of w base offset scope variables s t shown a st)

    -- a form and then the rest
    pub answers_first : (c : World) (mode : Mode) (scope : Scope) (form : Core) (formal : Option ℕ) (expected : List Out) → Form w base c mode scope form formal expected
        → (variables : Variables ℕ) (s : State ℕ) (t : StateOf (Store ℕ)) (shown : Variables QualifiedName) (a : State QualifiedName) → Staged w base offset scope variables s t shown a
        → (there : List ℕ) → names s.stobjs ≡ there
        → (go : List (Shown ℕ) → State ℕ → Outcome ℕ) (to : ℕ → ℕ → List (Shown QualifiedName) → State QualifiedName → Outcome QualifiedName)
        → ((given : List (Shown ℕ)) (u : State ℕ) (v : StateOf (Store ℕ)) (b : State QualifiedName) → AreOutputs scope expected given → KnowsAll (length u.symbols) given
        → Extends (table_of base.table.packages s.symbols) (table_of base.table.packages u.symbols) → Staged w base offset scope variables u v shown b → names u.stobjs ≡ there
        → AnswersAs w base offset u.symbols there b.calls (go given u) (λ m k. to m k (map (shown_named u.symbols) given) b))
        → AnswersAs w base offset s.symbols there a.calls (then_with (ev form variables s) go) (λ m k. then_with (av m k form shown a) (to m k))
    answers_first c mode scope form formal expected is variables s t shown a st there e go to next =
        subst (λ (ns : List ℕ). AnswersAs w base offset s.symbols ns a.calls (then_with (ev form variables s) go) (λ m k. then_with (av m k form shown a) (to m k))) e
        (answers_then w base offset s.symbols (names s.stobjs) a.calls (Did w base scope expected s t (form_counted thy form (values_of s.symbols (things a.stobjs) variables)))
        (ev form variables s) (λ m k. av m k form shown a) go to
        (did_staged c mode scope form formal expected is variables s t shown a st) (an.answers c mode scope form formal expected is variables s t shown a st)
        (λ given u d g.
        subst (λ (ns : List ℕ). AnswersAs w base offset u.symbols ns g.after.calls (go given u) (λ m k. to m k (map (shown_named u.symbols) given) g.after)) (sym e)
        (next given u d.to g.after d.outputs g.knows g.more_symbols
        (staged_after w base offset scope expected variables s t shown a (form_counted thy form (values_of s.symbols (things a.stobjs) variables)) given u (λ m k. av m k form shown a) st d g) (g.same_names ∙ e))))

    -- ---- forms in order

    module _ (c : World) (mode : Mode) (scope : Scope) (suited_world : Suited w base c) (n : mode ≢ Logic) (variables : Variables ℕ) (shown : Variables QualifiedName) (there : List ℕ) where
      -- the rest, once parts of these kinds gave values
      abbrev pub GoAnswers : List Out → List (Shown ℕ) → (List (Shown ℕ) → State ℕ → Outcome ℕ) → (ℕ → ℕ → List (Shown QualifiedName) → State QualifiedName → Outcome QualifiedName) → Type 0
      GoAnswers kinds done go to =
          (vs all : List (Shown ℕ)) (u : State ℕ) (v : StateOf (Store ℕ)) (b : State QualifiedName) → AreOutputs scope kinds vs → all ≡ done ++ vs → KnowsAll (length u.symbols) all → Staged w base offset scope variables u v shown b → names u.stobjs ≡ there
          → AnswersAs w base offset u.symbols there b.calls (go all u) (λ m k. to m k (map (shown_named u.symbols) all) b)

      -- values so far, and one more
      pub named_more : (old : List QualifiedName) (u : State ℕ) (b : State QualifiedName) (done given : List (Shown ℕ)) → AreTogether w base offset u b → Extends (table_of base.table.packages old) (table_of base.table.packages u.symbols) → KnowsAll (length old) done
          → map (shown_named old) done ++ single by_name (map (shown_named u.symbols) given) ∷ [] ≡ map (shown_named u.symbols) (done ++ single by_number given ∷ [])
      named_more old u b done given together grown known =
          rw (sym (values_stay (table_of base.table.packages old) (table_of base.table.packages u.symbols) grown done known), single_named u.symbols (naming w base offset u b together) given)
          (sym (append_named u.symbols done (single by_number given ∷ [])))

      pub known_more : (old : List QualifiedName) (u : State ℕ) (done given : List (Shown ℕ)) → nil < length u.symbols → Extends (table_of base.table.packages old) (table_of base.table.packages u.symbols) → KnowsAll (length old) done → KnowsAll (length u.symbols) given
          → KnowsAll (length u.symbols) (done ++ single by_number given ∷ [])
      known_more old u done given l grown known k =
          known_append (length u.symbols) done (single by_number given ∷ []) (all_stay (table_of base.table.packages old) (table_of base.table.packages u.symbols) grown done known) (first_known given k, tt)
        where
          first_known : (vs : List (Shown ℕ)) → KnowsAll (length u.symbols) vs → KnowsShown (length u.symbols) (single by_number vs)
          first_known [] i = l
          first_known (v ∷ vs) i = i.0

      pub answers_parts : (kinds : List Out) (forms : Cores) (done : List (Shown ℕ)) (go : List (Shown ℕ) → State ℕ → Outcome ℕ) (to : ℕ → ℕ → List (Shown QualifiedName) → State QualifiedName → Outcome QualifiedName) (s : State ℕ) (t : StateOf (Store ℕ)) (a : State QualifiedName)
          → PartsAccepted c mode scope kinds forms → AreFormed c forms → AreSuited w (length base.table.symbols) forms → count forms ≡ length kinds → Staged w base offset scope variables s t shown a → KnowsAll (length s.symbols) done → names s.stobjs ≡ there
          → GoAnswers kinds done go to
          → AnswersAs w base offset s.symbols there a.calls (in_order (on_lists w threaded base.table.packages limit) ev forms variables done go s)
          (λ m k. in_order (on_names m k) (av m k) forms shown (map (shown_named s.symbols) done) (to m k) a)
      unfolding in_order AreFormed AreSuited
      answers_parts [] none done go to s t a p formed suited counted st known e next = next [] done s t a tt (append_nothing done) known st e
      answers_parts (kind ∷ kinds) none done go to s t a p formed suited counted st known e next = absurd (omega (arith, counted))
      answers_parts [] (more form forms) done go to s t a p formed suited counted st known e next = absurd (omega (arith, counted))
      answers_parts (kind ∷ kinds) (more form forms) done go to s t a p formed suited counted st known e next =
          let fewer : count forms ≡ length kinds = omega (arith, counted) in
          answers_first c mode scope form None (kind ∷ []) (record { suited_world = suited_world; runs = n; accepted = p.0; formed = formed.0; suited = suited.0 }) variables s t shown a st there e
          (λ given after. in_order (on_lists w threaded base.table.packages limit) ev forms variables (done ++ single by_number given ∷ []) go after)
          (λ m k given after. in_order (on_names m k) (av m k) forms shown (map (shown_named s.symbols) done ++ single by_name given ∷ []) (to m k) after)
          (λ given u v b outputs knows grown after same.
          subst (λ (ds : List (Shown QualifiedName)). AnswersAs w base offset u.symbols there b.calls (in_order (on_lists w threaded base.table.packages limit) ev forms variables (done ++ single by_number given ∷ []) go u)
          (λ m k. in_order (on_names m k) (av m k) forms shown ds (to m k) b))
          (sym (named_more s.symbols u b done given after.together grown known))
          (answers_parts kinds forms (done ++ single by_number given ∷ []) go to u v b p.1 formed.1 suited.1 fewer after (known_more s.symbols u done given (nils w base offset u b after.together) grown known knows) same
          (λ vs all q r d outs is all_known last names_are. next (single by_number given ∷ vs) all q r d (one_more given vs outputs outs) (is ∙ append_assoc done (single by_number given ∷ []) vs) all_known last names_are)))
        where
          one_more : (vs us : List (Shown ℕ)) → AreOutputs scope (kind ∷ []) vs → AreOutputs scope kinds us → AreOutputs scope (kind ∷ kinds) (single by_number vs ∷ us)
          one_more [] us i j = absurd i
          one_more (v ∷ vs) us i j = (i.0, j)

      -- ---- actuals

      abbrev pub GoActuals : AreVariables scope variables → List Out → Cores → List (Shown ℕ) → (List (Shown ℕ) → State ℕ → Outcome ℕ) → (ℕ → ℕ → List (Shown QualifiedName) → State QualifiedName → Outcome QualifiedName) → Type 0
      GoActuals are ins forms done go to =
          (vs all : List (Shown ℕ)) (u : State ℕ) (v : StateOf (Store ℕ)) (b : State QualifiedName) → AreActuals w threaded base.table.packages limit ev el h c mode scope suited_world.suits n variables are ins forms vs → AreSeen base itself ins vs → all ≡ done ++ vs
          → KnowsAll (length u.symbols) all → Staged w base offset scope variables u v shown b → names u.stobjs ≡ there
          → AnswersAs w base offset u.symbols there b.calls (go all u) (λ m k. to m k (map (shown_named u.symbols) all) b)

      pub answers_actuals : (are : AreVariables scope variables) (ins : List Out) (forms : Cores) (done : List (Shown ℕ)) (go : List (Shown ℕ) → State ℕ → Outcome ℕ) (to : ℕ → ℕ → List (Shown QualifiedName) → State QualifiedName → Outcome QualifiedName) (s : State ℕ) (t : StateOf (Store ℕ)) (a : State QualifiedName)
          → ActualsAccepted c mode scope ins forms → AreFormed c forms → AreSuited w (length base.table.symbols) forms → length ins ≡ count forms → Staged w base offset scope variables s t shown a → KnowsAll (length s.symbols) done → names s.stobjs ≡ there
          → GoActuals are ins forms done go to
          → AnswersAs w base offset s.symbols there a.calls (in_order (on_lists w threaded base.table.packages limit) ev forms variables done go s)
          (λ m k. in_order (on_names m k) (av m k) forms shown (map (shown_named s.symbols) done) (to m k) a)
      unfolding in_order AreFormed AreSuited
      answers_actuals are [] none done go to s t a p formed suited counted st known e next =
          next [] done s t a (record { arguments = tt; there = refl; congruent_ones = refl }) tt (append_nothing done) known st e
      answers_actuals are (kind ∷ ins) none done go to s t a p formed suited counted st known e next = absurd (omega (arith, counted))
      answers_actuals are [] (more form forms) done go to s t a p formed suited counted st known e next = absurd (omega (arith, counted))
      answers_actuals are (Ordinary ∷ ins) (more form forms) done go to s t a p formed suited counted st known e next =
          let fewer : length ins ≡ count forms = omega (arith, counted) in
          answers_first c mode scope form None one_ordinary (record { suited_world = suited_world; runs = n; accepted = p.0; formed = formed.0; suited = suited.0 }) variables s t shown a st there e
          (λ given after. in_order (on_lists w threaded base.table.packages limit) ev forms variables (done ++ single by_number given ∷ []) go after)
          (λ m k given after. in_order (on_names m k) (av m k) forms shown (map (shown_named s.symbols) done ++ single by_name given ∷ []) (to m k) after)
          (λ given u v b outputs knows grown after same.
          subst (λ (ds : List (Shown QualifiedName)). AnswersAs w base offset u.symbols there b.calls (in_order (on_lists w threaded base.table.packages limit) ev forms variables (done ++ single by_number given ∷ []) go u)
          (λ m k. in_order (on_names m k) (av m k) forms shown ds (to m k) b))
          (sym (named_more s.symbols u b done given after.together grown known))
          (answers_actuals are ins forms (done ++ single by_number given ∷ []) go to u v b p.1 formed.1 suited.1 fewer after (known_more s.symbols u done given (nils w base offset u b after.together) grown known knows) same
          (λ vs all q r d act seen is all_known last names_are. one_ordinary_more given outputs vs all q r d act seen (is ∙ append_assoc done (single by_number given ∷ []) vs) all_known last names_are)))
        where
          one_ordinary_more : (given : List (Shown ℕ)) → AreOutputs scope one_ordinary given → (vs all : List (Shown ℕ)) (q : State ℕ) (r : StateOf (Store ℕ)) (d : State QualifiedName)
              → AreActuals w threaded base.table.packages limit ev el h c mode scope suited_world.suits n variables are ins forms vs → AreSeen base itself ins vs → all ≡ done ++ (single by_number given ∷ vs)
              → KnowsAll (length q.symbols) all → Staged w base offset scope variables q r shown d → names q.stobjs ≡ there
              → AnswersAs w base offset q.symbols there d.calls (go all q) (λ m k. to m k (map (shown_named q.symbols) all) d)
          one_ordinary_more [] o vs all q r d act seen is all_known last names_are = absurd o
          one_ordinary_more (x ∷ (y ∷ ys)) o vs all q r d act seen is all_known last names_are = absurd o.1
          one_ordinary_more (StobjNamed x ∷ []) o vs all q r d act seen is all_known last names_are = absurd o.0
          one_ordinary_more (Plain x ∷ []) o vs all q r d act seen is all_known last names_are =
              next (Plain x ∷ vs) all q r d (record { arguments = (tt, act.arguments); there = act.there; congruent_ones = act.congruent_ones }) seen is all_known last names_are
      answers_actuals are (worlds.Stobj o ∷ ins) (more form forms) done go to s t a p formed suited counted st known e next =
          let fewer : length ins ≡ count forms = omega (arith, counted) in
          let actual : IsActual w threaded base.table.packages limit ev el h c mode scope suited_world.suits n variables are o form
          = actual_is w threaded base.table.packages limit ev el h c mode scope suited_world.suits n variables are o form (not_false (option_map_or (λ x. stands_for c scope x o) (variable form) false) (s1 c mode (here form scope (Some o) _) n p.0.0)) in
          let first : ev form variables s ≡ Gives (StobjNamed actual.name ∷ []) s
          = ap (λ (f : Core). ev f variables s) actual.is ∙ (h.of_lists actual.name variables s ∙ ap (λ (v : Shown ℕ). Gives (v ∷ []) s) actual.shown) in
          let second : ((m k : ℕ) → av m k form shown a ≡ Gives (StobjNamed actual.name ∷ []) a)
          = λ m k.
          ap (λ (f : Core). av m k f shown a) actual.is
          ∙ (an.leaves m k actual.name shown a
          ∙ ap (λ (v : Shown QualifiedName). Gives (v ∷ []) a)
          (ap (λ (vs : Variables QualifiedName). variable_in by_name vs actual.name) st.shown_are
          ∙ (variable_named s.symbols (naming w base offset s a st.together) variables actual.name ∙ ap (shown_named s.symbols) actual.shown))) in
          rw first
          (answers_as w base offset s.symbols there a.calls 0 (in_order (on_lists w threaded base.table.packages limit) ev forms variables (done ++ StobjNamed actual.name ∷ []) go s)
          (λ m k. in_order (on_names m k) (av m k) forms shown (map (shown_named s.symbols) (done ++ StobjNamed actual.name ∷ [])) (to m k) a)
          (λ m k. then_with (av m k form shown a) (λ given after. in_order (on_names m k) (av m k) forms shown (map (shown_named s.symbols) done ++ single by_name given ∷ []) (to m k) after))
          (λ m k i j.
          ap (λ (z : Outcome QualifiedName). then_with z (λ given after. in_order (on_names m k) (av m k) forms shown (map (shown_named s.symbols) done ++ single by_name given ∷ []) (to m k) after)) (second m k)
          ∙ ap (λ (ds : List (Shown QualifiedName)). in_order (on_names m k) (av m k) forms shown ds (to m k) a) (sym (append_named s.symbols done (StobjNamed actual.name ∷ []))))
          (answers_actuals are ins forms (done ++ StobjNamed actual.name ∷ []) go to s t a p.1 formed.1 suited.1 fewer st (known_append (length s.symbols) done (StobjNamed actual.name ∷ []) known (tt, tt)) e
          (λ vs all q r d act seen is all_known last names_are.
          next (StobjNamed actual.name ∷ vs) all q r d
          (record {
            arguments = ((actual.in_scope, suited_world.suits.layouts o actual.name actual.alike), act.arguments);
            there = one_there form actual.name (stobj_actuals ins forms) (names_in vs) actual.is act.there;
            congruent_ones = both_hold (congruent c o actual.name) (all_congruent c (classes.stobjs ins) (names_in vs)) actual.alike act.congruent_ones;
          })
          (suited_world.seen.alike o actual.name actual.alike, seen) (is ∙ append_assoc done (StobjNamed actual.name ∷ []) vs) all_known last names_are)))
