-- Every kind of form, and every depth.
use Rattle.std.proofs.Common.{◌≡◌, ℕ, zero, suc, List, [], ◌∷◌, map, length, Bool, true, false, Option, Some, None, refl, sym, ap, ◌∙◌, subst}
use Rattle.std.specs.Prelude.{◌||◌, not, nat_eq, if◌then◌else◌}
use Rattle.model_accepted.specs.Accepted.{Accepted, ActualsAccepted, PartsAccepted}
use Rattle.model_answers.proofs.Setting.{Answers, Staged, naming, nils, staged_bound}
use Rattle.model_answers.specs.Beside.{AnswersAs, Run}
use Rattle.model_in_place.specs.Calls.{AreArguments, names_in}
use Rattle.model_accepted.specs.Threaded.{AreFormed, IsThreaded}
use Rattle.model_accepted.specs.StobjScopes.{AreOutputs}
use Rattle.model_follows.proofs.FormalThings.{AreSeen}
use Rattle.model_in_place.specs.Writes.{AreWrites}
use Rattle.model_answers.proofs.Calls.{Asked}
use Rattle.model_terms.specs.Cores.{Call, Const, Core, Let, MustBeEqual, MvLet, StobjLet, Var, WithLocal, count, If, Mv}
use Rattle.model_eval.specs.Evaluated.{Evaluator, EvaluatorOf, Rules, called, exec_called, is_false, leaf, leaf_or, of_abstract, opened, evaluated}
use Rattle.model_symbols.specs.Growth.{Extends}
use Rattle.model_follows.proofs.Following.{Follows, Form}
use Rattle.model_terms.specs.Worlds.{FunctionOfAbstract, OfAbstract, Out, Scope, Signature, World, definition}
use Rattle.model_eval.specs.Outcomes.{Gives, Outcome, Plain, Shown, State, StateOf, Depth, stops_here}
use Rattle.model_follows.proofs.HeldThings.{Ground, ground_book, itself}
use Rattle.model_in_place.proofs.PartMeeting.{IsCalled, all_of, called_is}
use Rattle.model_follows.specs.Abstract.{IsFollowedBeside, ObligationsInLogic, abstract_ground}
use Rattle.model_follows.specs.FollowedWorlds.{IsSuited}
use Rattle.model_follows.specs.Follows.{KnowsAll, table_of}
use Rattle.model_in_place.proofs.CallMeeting.{May, Meets, on_lists, results, at_places}
use Rattle.model_terms.specs.declared.rule.Mode.{Mode}
use Rattle.model_symbols.specs.Symbols.{QualifiedName, Table, form_of}
use Rattle.model_eval.specs.PlacesKeeping.{Store}
use Rattle.model_logic.specs.Logic.{Thing, bind, logic}
use Rattle.model_eval.specs.Variables.{Variables, bound, object_of, single, variable_in}
use Rattle.model_answers.proofs.Outcomes.{WhenGives, answers_as, answers_gives, when_map}
use Rattle.model_answers.proofs.Called.{Wrote, answers_called}
use Rattle.model_answers.proofs.Exports.{answers_abstract}
use Rattle.model_answers.proofs.Forms.{answers_actuals, answers_first, answers_next, answers_parts, on_names}
use Rattle.model_terms.specs.Rules.{any_wrong_part}
use Rattle.model_terms.specs.Scopes.{binding, name_kinds}
use Rattle.model_follows.proofs.PartFollowing.{book}
use Rattle.model_prims.specs.Kinds.{by_name, by_number, is_nil}
use Rattle.std.proofs.lemmas.Bool.{eqb-true}
use Rattle.model_answers.proofs.Naming.{false_named, known_variable, variable_named}
use Rattle.model_follows.proofs.ThingLemmas.{form_stays, knows_stays}
use Rattle.model_terms.specs.Sites.{here, one_ordinary}
use Rattle.model_in_place.proofs.FormMeeting.{length_kinds, meets_evaluated}
use Rattle.model_eval_laws.specs.Scope.{names}
use Rattle.model_accepted.proofs.AcceptLemmas.{neither, not_false, of_call, of_if, of_let, of_must_be_equal, of_mv, of_mv_let, s9, true_false}
use Rattle.model_terms.specs.Classes.{repeats}
use Rattle.model_abstract_books.specs.Answers.{shown_named}
use Rattle.model_terms.specs.Outputs.{stobj_actuals}
use Rattle.model_follows.proofs.ExportFollowing.{abstracts_follow}
use Rattle.model_answers.proofs.Locals.{answers_local}
use Rattle.model_answers.proofs.KidForms.{answers_stobj_let}
use Rattle.model_follows.proofs.FormFollowing.{follows_evaluated}
use Rattle.model_terms.specs.Classes as classes

-- a form that neither binds children nor makes a stobj
abbrev IsSimple : Core → Type 0
IsSimple (Var x) = Unit {0}
IsSimple (Const o) = Unit {0}
IsSimple (If test b d) = Unit {0}
IsSimple (Let xs forms other) = Unit {0}
IsSimple (Mv parts) = Unit {0}
IsSimple (MvLet xs first other) = Unit {0}
IsSimple (StobjLet xs forms vars producer consumer) = ⊥
IsSimple (WithLocal stobj xs producer other) = ⊥
IsSimple (MustBeEqual logic exec) = Unit {0}
IsSimple (Call g actuals) = Unit {0}

module _ (w : World) (table : Table) (symbols : List QualifiedName) (threaded : IsThreaded w) (followed : IsFollowedBeside w (abstract_ground w table symbols) threaded) (limit : ℕ) (bg : Extends table (table_of table.packages symbols))
    (obligations : ObligationsInLogic (ground_book w (abstract_ground w table symbols))) (offset : ℕ) where
  abbrev base : Ground
  base = abstract_ground w table symbols

  abbrev rules : Rules ℕ
  rules = on_lists w threaded table.packages limit

  abbrev named_rules : ℕ → ℕ → Rules QualifiedName
  named_rules m k = on_names w (abstract_ground w table symbols) threaded limit symbols offset m k

  -- what is said of a form
  abbrev pub Said : World → Mode → Scope → Core → Option ℕ → List Out → Variables ℕ → State ℕ → StateOf (Store ℕ) → Variables QualifiedName → State QualifiedName → Outcome ℕ → Run w (abstract_ground w table symbols) → Type 0
  Said c mode scope form formal expected variables s t shown a p run =
      Form w (abstract_ground w table symbols) c mode scope form formal expected → Staged w (abstract_ground w table symbols) offset scope variables s t shown a → AnswersAs w (abstract_ground w table symbols) offset s.symbols (names s.stobjs) a.calls p run

  answers_leaf : (c : World) (mode : Mode) (scope : Scope) (form : Core) (formal : Option ℕ) (expected : List Out) (variables : Variables ℕ) (s : State ℕ) (t : StateOf (Store ℕ)) (shown : Variables QualifiedName) (a : State QualifiedName) (p : Outcome ℕ) (run : Run w (abstract_ground w table symbols))
      → Said c mode scope form formal expected variables s t shown a p run
      → Said c mode scope form formal expected variables s t shown a (leaf_or (on_lists w threaded table.packages limit) (leaf (on_lists w threaded table.packages limit) form variables) s p)
      (λ m k. leaf_or (on_names w (abstract_ground w table symbols) threaded limit symbols offset m k) (leaf (on_names w (abstract_ground w table symbols) threaded limit symbols offset m k) form shown) a (run m k))
  unfolding IsSuited
  answers_leaf c mode scope (Var x) formal expected variables s t shown a p run next form st =
      answers_as w (abstract_ground w table symbols) offset s.symbols (names s.stobjs) a.calls 0 (Gives (variable_in by_number variables x ∷ []) s) (λ m k. Gives (map (shown_named s.symbols) (variable_in by_number variables x ∷ [])) a) (λ m k. Gives (variable_in by_name shown x ∷ []) a)
      (λ m k i j. ap (λ (v : Shown QualifiedName). Gives (v ∷ []) a) (ap (λ (vs : Variables QualifiedName). variable_in by_name vs x) st.shown_are ∙ variable_named s.symbols (naming w (abstract_ground w table symbols) offset s a st.together) variables x))
      (answers_gives w (abstract_ground w table symbols) offset s a (variable_in by_number variables x ∷ []) st.together (known_variable (length s.symbols) variables x (nils w (abstract_ground w table symbols) offset s a st.together) st.knows, tt))
  answers_leaf c mode scope (Const o) formal expected variables s t shown a p run next form st =
      answers_as w (abstract_ground w table symbols) offset s.symbols (names s.stobjs) a.calls 0 (Gives (Plain o ∷ []) s) (λ m k. Gives (map (shown_named s.symbols) (Plain o ∷ [])) a) (λ m k. Gives (Plain (form_of symbols o) ∷ []) a)
      (λ m k i j. ap (λ (q : Thing). Gives (Plain q ∷ []) a) (form_stays table (table_of table.packages symbols) bg o form.suited ∙ sym (form_stays table (table_of table.packages s.symbols) st.together.grown o form.suited)))
      (answers_gives w (abstract_ground w table symbols) offset s a (Plain o ∷ []) st.together (knows_stays table (table_of table.packages s.symbols) st.together.grown o form.suited, tt))
  answers_leaf c mode scope (If test b d) formal expected variables s t shown a p run next form st = next form st
  answers_leaf c mode scope (Let ns bind other) formal expected variables s t shown a p run next form st = next form st
  answers_leaf c mode scope (Mv parts) formal expected variables s t shown a p run next form st = next form st
  answers_leaf c mode scope (MvLet ns bind other) formal expected variables s t shown a p run next form st = next form st
  answers_leaf c mode scope (StobjLet ns forms vars producer consumer) formal expected variables s t shown a p run next form st = next form st
  answers_leaf c mode scope (WithLocal stobj ns producer other) formal expected variables s t shown a p run next form st = next form st
  answers_leaf c mode scope (MustBeEqual logic exec) formal expected variables s t shown a p run next form st = next form st
  answers_leaf c mode scope (Call g actuals) formal expected variables s t shown a p run next form st = next form st

  module _ (ev : Evaluator ℕ) (el : EvaluatorOf ℕ (Store ℕ)) (h : Meets w threaded table.packages limit ev el) (f : Follows w (abstract_ground w table symbols) (book w (abstract_ground w table symbols) threaded limit symbols) ev) (av : ℕ → ℕ → Evaluator QualifiedName) (an : Answers w (abstract_ground w table symbols) offset ev av) where
    -- a body, once there are values for its names
    answers_bound : (there : List ℕ) (c : World) (mode : Mode) (scope : Scope) (xs : List ℕ) (form : Core) (expected : List Out) (variables : Variables ℕ) (vs : List (Shown ℕ)) (u : State ℕ) (v : StateOf (Store ℕ)) (shown : Variables QualifiedName) (b : State QualifiedName)
        → Form w (abstract_ground w table symbols) c mode (binding c scope xs) form None expected → Staged w (abstract_ground w table symbols) offset scope variables u v shown b → AreOutputs scope (name_kinds c xs) vs → KnowsAll (length u.symbols) vs → names u.stobjs ≡ there
        → AnswersAs w (abstract_ground w table symbols) offset u.symbols there b.calls (ev form (bound xs vs variables) u) (λ m k. av m k form (bound xs (map (shown_named u.symbols) vs) shown) b)
    answers_bound there c mode scope xs form expected variables vs u v shown b is st outputs known e =
        answers_next w (abstract_ground w table symbols) threaded limit symbols offset ev el h f av an there c mode (binding c scope xs) form None expected is (bound xs vs variables) u v (bound xs (map (shown_named u.symbols) vs) shown) b
        (staged_bound w (abstract_ground w table symbols) offset c scope xs vs variables u v shown b st outputs known) e

    answers_simple : (c : World) (mode : Mode) (scope : Scope) (form : Core) (formal : Option ℕ) (expected : List Out) (variables : Variables ℕ) (s : State ℕ) (t : StateOf (Store ℕ)) (shown : Variables QualifiedName) (a : State QualifiedName) → IsSimple form
        → Said c mode scope form formal expected variables s t shown a (opened (on_lists w threaded table.packages limit) ev form variables s) (λ m k. opened (on_names w (abstract_ground w table symbols) threaded limit symbols offset m k) (av m k) form shown a)
    unfolding IsSuited AreFormed
    answers_simple c mode scope (Var x) formal expected variables s t shown a i form st = λ e. true_false e
    answers_simple c mode scope (Const o) formal expected variables s t shown a i form st = λ e. true_false e
    answers_simple c mode scope (If test b d) formal expected variables s t shown a i form st =
        let parts : Accepted c mode scope test None one_ordinary × Accepted c mode scope b None expected × Accepted c mode scope d None expected = of_if c mode scope formal expected test b d form.accepted in
        answers_first w (abstract_ground w table symbols) threaded limit symbols offset ev el h f av an c mode scope test None one_ordinary (record { suited_world = form.suited_world; runs = form.runs; accepted = parts.0; formed = form.formed.0; suited = form.suited.0 }) variables s t shown a st (names s.stobjs) refl
        (λ vs after. ev (if is_false (on_lists w threaded table.packages limit) vs then d else b) variables after)
        (λ m k vs after. av m k (if is_false (on_names w (abstract_ground w table symbols) threaded limit symbols offset m k) vs then d else b) shown after)
        (λ given u v z outputs knows grown after same.
        rw (false_named u.symbols (naming w (abstract_ground w table symbols) offset u z after.together) given knows)
        (by_test (is_nil by_number (object_of by_number (single by_number given))) u z
        (answers_next w (abstract_ground w table symbols) threaded limit symbols offset ev el h f av an (names s.stobjs) c mode scope d None expected (record { suited_world = form.suited_world; runs = form.runs; accepted = parts.2; formed = form.formed.2; suited = form.suited.2 }) variables u v shown z after same)
        (answers_next w (abstract_ground w table symbols) threaded limit symbols offset ev el h f av an (names s.stobjs) c mode scope b None expected (record { suited_world = form.suited_world; runs = form.runs; accepted = parts.1; formed = form.formed.1; suited = form.suited.1 }) variables u v shown z after same)))
      where
        by_test : (q : Bool) (u : State ℕ) (z : State QualifiedName)
            → AnswersAs w (abstract_ground w table symbols) offset u.symbols (names s.stobjs) z.calls (ev d variables u) (λ m k. av m k d shown z) → AnswersAs w (abstract_ground w table symbols) offset u.symbols (names s.stobjs) z.calls (ev b variables u) (λ m k. av m k b shown z)
            → AnswersAs w (abstract_ground w table symbols) offset u.symbols (names s.stobjs) z.calls (ev (if q then d else b) variables u) (λ m k. av m k (if q then d else b) shown z)
        by_test true u z first second = first
        by_test false u z first second = second
    answers_simple c mode scope (Let xs forms other) formal expected variables s t shown a i form st =
        answers_parts w (abstract_ground w table symbols) threaded limit symbols offset ev el h f av an c mode scope form.suited_world form.runs variables shown (names s.stobjs) (name_kinds c xs) forms []
        (λ given after. ev other (bound xs given variables) after) (λ m k given after. av m k other (bound xs given shown) after) s t a
        parts.0 form.formed.1 form.suited.0 (form.formed.0 ∙ sym (length_kinds c xs)) st tt refl
        (λ vs all u v b outputs is known after same.
        answers_bound (names s.stobjs) c mode scope xs other expected variables all u v shown b (record { suited_world = form.suited_world; runs = form.runs; accepted = parts.1; formed = form.formed.2; suited = form.suited.1 }) after (subst (AreOutputs scope (name_kinds c xs)) (sym is) outputs) known same)
      where
        parts : PartsAccepted c mode scope (name_kinds c xs) forms × Accepted c mode (binding c scope xs) other None expected
        parts = of_let c mode scope formal expected xs forms other form.accepted
    answers_simple c mode scope (Mv parts) formal expected variables s t shown a i form st =
        let counted : (not (nat_eq (count parts) (length expected)) ≡ false) × ((any_wrong_part expected parts || repeats (classes.stobjs expected)) ≡ false)
        = neither (not (nat_eq (count parts) (length expected))) (any_wrong_part expected parts || repeats (classes.stobjs expected)) (s9 c mode (here (Mv parts) scope formal expected) form.runs form.accepted.0) in
        answers_parts w (abstract_ground w table symbols) threaded limit symbols offset ev el h f av an c mode scope form.suited_world form.runs variables shown (names s.stobjs) expected parts [] Gives (λ m k given after. Gives given after) s t a
        (of_mv c mode scope formal expected parts form.accepted) form.formed form.suited.1 (eqb-true (count parts) (length expected) (not_false (nat_eq (count parts) (length expected)) counted.0)) st tt refl
        (λ vs all u v b outputs is known after same.
        subst (λ (ns : List ℕ). AnswersAs w (abstract_ground w table symbols) offset u.symbols ns b.calls (Gives all u) (λ m k. Gives (map (shown_named u.symbols) all) b)) same
        (answers_gives w (abstract_ground w table symbols) offset u b all after.together known))
    answers_simple c mode scope (MvLet xs first other) formal expected variables s t shown a i form st =
        let parts : Accepted c mode scope first None (name_kinds c xs) × Accepted c mode (binding c scope xs) other None expected = of_mv_let c mode scope formal expected xs first other form.accepted in
        answers_first w (abstract_ground w table symbols) threaded limit symbols offset ev el h f av an c mode scope first None (name_kinds c xs) (record { suited_world = form.suited_world; runs = form.runs; accepted = parts.0; formed = form.formed.0; suited = form.suited.1 }) variables s t shown a st (names s.stobjs) refl
        (λ given after. ev other (bound xs given variables) after) (λ m k given after. av m k other (bound xs given shown) after)
        (λ given u v z outputs knows grown after same.
        answers_bound (names s.stobjs) c mode scope xs other expected variables given u v shown z (record { suited_world = form.suited_world; runs = form.runs; accepted = parts.1; formed = form.formed.1; suited = form.suited.2 }) after outputs knows same)
    answers_simple c mode scope (StobjLet xs forms vars producer consumer) formal expected variables s t shown a i form st = absurd i
    answers_simple c mode scope (WithLocal stobj xs producer other) formal expected variables s t shown a i form st = absurd i
    answers_simple c mode scope (MustBeEqual logic exec) formal expected variables s t shown a i form st =
        an.answers c mode scope logic None expected
        (record { suited_world = form.suited_world; runs = form.runs; accepted = (of_must_be_equal c mode scope formal expected logic exec form.accepted).0; formed = form.formed.0; suited = form.suited }) variables s t shown a st
    answers_simple c mode scope (Call g actuals) formal expected variables s t shown a i form st =
        let call : IsCalled w threaded table.packages limit ev el h c mode scope form.suited_world.suits form.runs variables st.are g actuals expected
        = called_is w threaded table.packages limit ev el h c mode scope form.suited_world.suits form.runs variables st.are g actuals formal expected form.accepted form.formed.0 in
        answers_actuals w (abstract_ground w table symbols) threaded limit symbols offset ev el h f av an c mode scope form.suited_world form.runs variables shown (names s.stobjs) st.are call.signature.ins actuals []
        (called (on_lists w threaded table.packages limit) ev g) (λ m k. called (on_names w (abstract_ground w table symbols) threaded limit symbols offset m k) (av m k) g) s t a
        (subst (λ (ins : List Out). ActualsAccepted c mode scope ins actuals) call.ins (of_call c mode scope formal expected g actuals form.accepted)) form.formed.1 form.suited call.arity st tt refl
        (λ vs all u v b act seen is known after same.
        let once : repeats (names_in vs) ≡ false = ap repeats (sym (all_of w threaded table.packages limit ev el h c mode scope form.suited_world.suits form.runs variables st.are (stobj_actuals call.signature.ins actuals) (names_in vs) act.there)) ∙ call.once in
        subst (λ (zs : List (Shown ℕ)). AnswersAs w (abstract_ground w table symbols) offset u.symbols (names s.stobjs) b.calls (called (on_lists w threaded table.packages limit) ev g zs u)
        (λ m k. called (on_names w (abstract_ground w table symbols) threaded limit symbols offset m k) (av m k) g (map (shown_named u.symbols) zs) b)) (sym is)
        (subst (λ (ns : List ℕ). AnswersAs w (abstract_ground w table symbols) offset u.symbols ns b.calls (called (on_lists w threaded table.packages limit) ev g vs u)
        (λ m k. called (on_names w (abstract_ground w table symbols) threaded limit symbols offset m k) (av m k) g (map (shown_named u.symbols) vs) b)) same
        (answers_called w (abstract_ground w table symbols) threaded followed.lawful limit symbols offset ev el h f av an scope bg call.signature.ins vs act.arguments seen once g call.signature refl call.runs_there u v b
        (record { stands = after.stands; same = after.same; sound = after.sound; together = after.together; known = subst (KnowsAll (length u.symbols)) is known })
        (λ q there sig x y z asked wrote. abstract_called g vs call.signature act.arguments seen once q there sig x y z asked wrote))))
      where
        abstract_called : (name : ℕ) (vs : List (Shown ℕ)) (sig : Signature) (arguments : AreArguments w scope sig.ins vs) (seen : AreSeen (abstract_ground w table symbols) itself sig.ins vs) (once : repeats (names_in vs) ≡ false)
            → (q : FunctionOfAbstract) → definition w name ≡ Some (OfAbstract q) → q.signature ≡ sig → (x : State ℕ) (y : StateOf (Store ℕ)) (z : State QualifiedName)
            → Asked w (abstract_ground w table symbols) threaded followed.lawful limit symbols offset ev el h f av an scope sig.ins vs arguments seen once x y z
            → WhenGives (Wrote w (abstract_ground w table symbols) threaded followed.lawful limit symbols offset ev el h f av an scope bg sig.ins vs arguments seen once sig.outs x.stobjs) (of_abstract (on_lists w threaded table.packages limit) ev (exec_called (on_lists w threaded table.packages limit) ev vs) q q.role vs x)
            → AnswersAs w (abstract_ground w table symbols) offset x.symbols (names x.stobjs) z.calls (of_abstract (on_lists w threaded table.packages limit) ev (exec_called (on_lists w threaded table.packages limit) ev vs) q q.role vs x)
            (λ m k. of_abstract (on_names w (abstract_ground w table symbols) threaded limit symbols offset m k) (av m k) (exec_called (on_names w (abstract_ground w table symbols) threaded limit symbols offset m k) (av m k) (map (shown_named x.symbols) vs)) q q.role (map (shown_named x.symbols) vs) z)
        abstract_called name vs sig arguments seen once q there e x y z asked wrote = go q.signature refl
          where
            go : (sg : Signature) → q.signature ≡ sg → AnswersAs w (abstract_ground w table symbols) offset x.symbols (names x.stobjs) z.calls (of_abstract (on_lists w threaded table.packages limit) ev (exec_called (on_lists w threaded table.packages limit) ev vs) q q.role vs x)
                (λ m k. of_abstract (on_names w (abstract_ground w table symbols) threaded limit symbols offset m k) (av m k) (exec_called (on_names w (abstract_ground w table symbols) threaded limit symbols offset m k) (av m k) (map (shown_named x.symbols) vs)) q q.role (map (shown_named x.symbols) vs) z)
            go sg g =
                answers_abstract w table symbols threaded followed limit bg obligations offset ev el h f av an scope name q vs (subst (λ (k : Signature). AreArguments w scope k.ins vs) (sym e) arguments) (subst (λ (k : Signature). AreSeen (abstract_ground w table symbols) itself k.ins vs) (sym e) seen) once there x y z
                (record { stands = asked.stands; same = asked.same; sound = asked.sound; together = asked.together; known = asked.known })
                (when_map (of_abstract (on_lists w threaded table.packages limit) ev (exec_called (on_lists w threaded table.packages limit) ev vs) q q.role vs x)
                (λ given y m. record {
                  outputs = subst (λ (k : Signature). AreOutputs scope (results k.ins vs k.outs) given) (sym e) m.outputs;
                  writes = m.writes;
                  allowed = subst (λ (k : Signature). AreWrites w (May scope (results k.ins vs k.outs)) m.writes) (sym e) m.allowed;
                  stobjs = m.stobjs;
                  fits = m.fits;
                }) wrote)

    -- ---- every form

    answers_opened : (c : World) (mode : Mode) (scope : Scope) (form : Core) (formal : Option ℕ) (expected : List Out) (variables : Variables ℕ) (s : State ℕ) (t : StateOf (Store ℕ)) (shown : Variables QualifiedName) (a : State QualifiedName)
        → Said c mode scope form formal expected variables s t shown a (opened (on_lists w threaded table.packages limit) ev form variables s) (λ m k. opened (on_names w (abstract_ground w table symbols) threaded limit symbols offset m k) (av m k) form shown a)
    answers_opened c mode scope (Var x) formal expected variables s t shown a form st = answers_simple c mode scope (Var x) formal expected variables s t shown a tt form st
    answers_opened c mode scope (Const o) formal expected variables s t shown a form st = answers_simple c mode scope (Const o) formal expected variables s t shown a tt form st
    answers_opened c mode scope (If test b d) formal expected variables s t shown a form st = answers_simple c mode scope (If test b d) formal expected variables s t shown a tt form st
    answers_opened c mode scope (Let xs forms other) formal expected variables s t shown a form st = answers_simple c mode scope (Let xs forms other) formal expected variables s t shown a tt form st
    answers_opened c mode scope (Mv parts) formal expected variables s t shown a form st = answers_simple c mode scope (Mv parts) formal expected variables s t shown a tt form st
    answers_opened c mode scope (MvLet xs first other) formal expected variables s t shown a form st = answers_simple c mode scope (MvLet xs first other) formal expected variables s t shown a tt form st
    answers_opened c mode scope (StobjLet ns forms vars producer consumer) formal expected variables s t shown a form st =
        answers_stobj_let w table symbols threaded followed limit bg obligations offset ev el h f av an c mode scope ns forms vars producer consumer formal expected variables s t shown a form st
    answers_opened c mode scope (WithLocal stobj locals producer other) formal expected variables s t shown a form st =
        answers_local w table symbols threaded followed limit bg obligations offset ev el h f av an c mode scope stobj locals producer other formal expected variables s t shown a form st
    answers_opened c mode scope (MustBeEqual logic exec) formal expected variables s t shown a form st = answers_simple c mode scope (MustBeEqual logic exec) formal expected variables s t shown a tt form st
    answers_opened c mode scope (Call g actuals) formal expected variables s t shown a form st = answers_simple c mode scope (Call g actuals) formal expected variables s t shown a tt form st

  -- ---- every depth

  pub answers_evaluated : (d : ℕ) → Answers w (abstract_ground w table symbols) offset (evaluated (on_lists w threaded table.packages limit) d) (λ m k. evaluated (on_names w (abstract_ground w table symbols) threaded limit symbols offset m k) d)
  unfolding evaluated
  answers_evaluated zero = record {
    answers = λ c mode scope form formal expected is variables s t shown a st.
        answers_leaf c mode scope form formal expected variables s t shown a (stops_here Depth s) (λ m k. stops_here Depth a) (λ i j e. true_false e) is st;
    leaves = λ m k x shown a. refl;
  }
  answers_evaluated (suc d) = record {
    answers = λ c mode scope form formal expected is variables s t shown a st.
        answers_leaf c mode scope form formal expected variables s t shown a (opened (on_lists w threaded table.packages limit) (evaluated (on_lists w threaded table.packages limit) d) form variables s)
        (λ m k. opened (on_names w (abstract_ground w table symbols) threaded limit symbols offset m k) (evaluated (on_names w (abstract_ground w table symbols) threaded limit symbols offset m k) d) form shown a)
        (answers_opened (evaluated (on_lists w threaded table.packages limit) d) (evaluated (at_places w threaded table.packages limit) d) (meets_evaluated w threaded table.packages limit d)
        (follows_evaluated w (abstract_ground w table symbols) threaded followed.lawful limit symbols bg (abstracts_follow w table symbols threaded followed limit bg obligations) d)
        (λ m k. evaluated (on_names w (abstract_ground w table symbols) threaded limit symbols offset m k) d) (answers_evaluated d) c mode scope form formal expected variables s t shown a) is st;
    leaves = λ m k x shown a. refl;
  }
