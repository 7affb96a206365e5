-- A stobj of a form's own.
use Rattle.std.proofs.Common.{◌≡◌, ℕ, zero, suc, ◌+◌, ◌≤◌, ◌<◌, List, [], ◌∷◌, map, length, Option, Some, None, refl, sym, ap, ◌∙◌, subst, inl, inr, arith}
use Rattle.std.specs.Prelude.{◌⊎◌, drop, option_map}
use Rattle.model_terms.specs.Worlds.{Abstract, AbstractDescriptor, Concrete, Constant, Defined, Definition, Generated, Macro, Named, OfAbstract, Out, Primitive, Scope, Signed, World, definition}
use Rattle.model_answers.specs.Beside.{AlikeBy, AnswersAs, AreTogether, GoesWith, KnowsVariables, Run, StopsAs, named_variables}
use Rattle.model_answers.proofs.Setting.{Answers, Staged, stage_of, things, values_of}
use Rattle.model_accepted.specs.StobjScopes.{AreOutputs}
use Rattle.model_lists.specs.Layouts.{Array, Children, Field, Hash, Layout, NoField, Scalar, initial, repeated}
use Rattle.model_abstract.specs.Corresponding.{CallHolds, named_list}
use Rattle.model_terms.specs.Cores.{Core, WithLocal}
use Rattle.model_follows.specs.Abstract.{CreatorHolds, IsFollowedBeside, ObligationsInLogic, abstract_ground, abstract_of}
use Rattle.model_follows.specs.Costs.{Ends, caller}
use Rattle.model_eval.specs.Evaluated.{Evaluator, EvaluatorOf, opened, with_fresh}
use Rattle.model_symbols.specs.Growth.{Extends}
use Rattle.model_follows.proofs.Following.{Follows, Form, Stage}
use Rattle.model_logic.specs.Logic.{Found, Theory, Thing, Values, creator_of}
use Rattle.model_eval.specs.Outcomes.{Gives, Outcome, Shown, State, StateOf, StobjNamed, Stobjs, Stops, Unknown, counting, one_more_call, with_state}
use Rattle.model_follows.proofs.HeldThings.{Ground, Kin, ground_book, itself}
use Rattle.model_follows.specs.FollowedWorlds.{HasAbstractCreator, HasCreator, IsSuited, KnowsList}
use Rattle.model_follows.proofs.LocalThings.{IsMadeInLogic, new_object}
use Rattle.model_follows.specs.Follows.{IsSound, table_of}
use Rattle.model_accepted.specs.Threaded.{IsThreaded, layout_of, AreFormed}
use Rattle.model_lists.specs.Lists.{Item, StobjList, Value, as_object}
use Rattle.model_in_place.proofs.CallMeeting.{Meets, on_lists}
use Rattle.model_terms.specs.declared.rule.Mode.{Mode}
use Rattle.model_symbols.specs.Symbols.{QualifiedName, Table, form_of, symbol_at}
use Rattle.model_eval.specs.PlacesKeeping.{Store}
use Rattle.model_eval.specs.Variables.{Variables, bound}
use Rattle.model_abstract.specs.Rules.{abstract_fresh, fresh_defined}
use Rattle.model_follows.proofs.ExportFollowing.{abstracts_follow}
use Rattle.model_answers.proofs.Outcomes.{answers_as, answers_counting, answers_then}
use Rattle.model_answers.proofs.Forms.{answers_next, on_names}
use Rattle.model_answers.proofs.Lists.{beside_drop}
use Rattle.model_follows.proofs.LocalFollowing.{body_ready, producer_ready}
use Rattle.model_terms.specs.Scopes.{body_scope, local_scope, name_kinds}
use Rattle.model_follows.proofs.PartFollowing.{book}
use Rattle.model_follows.proofs.EffectFollowing.{book_layout, initial_known, layout_weaker}
use Rattle.model_answers.proofs.Naming.{bound_named, known_bound, knows_variables_stay, variables_stay}
use Rattle.model_prims.specs.Kinds.{by_name}
use Rattle.model_follows.proofs.LaterLemmas.{call_costs}
use Rattle.model_follows.proofs.LayoutThings.{initial_named, named_layout}
use Rattle.model_prims.proofs.FollowLemmas.{is_naming}
use Rattle.model_eval.specs.StobjLayouts.{layout_within, stobj_layout}
use Rattle.model_eval.specs.ListsKeeping.{lists_keeping}
use Rattle.model_eval_laws.specs.Scope.{names}
use Rattle.model_eval_laws.proofs.Lists.{names_drop}
use Rattle.model_accepted.proofs.AcceptLemmas.{of_with_local}
use Rattle.model_abstract_books.specs.Answers.{shown_named}
use Rattle.model_terms.specs.Rounds.{signed}
use Rattle.model_eval.specs.Keeping.{unmaking}
use Rattle.model_lists_laws.proofs.LogicalLemmas.{is_recognized}
use Rattle.model_lists_laws.proofs.StandingLemmas.{new_stobjs_stand}

-- ---- new lists

module _ (symbols : List QualifiedName) where
  repeated_listed : (n : ℕ) (l : StobjList ℕ) → repeated n (named_list symbols l) ≡ named_list symbols (repeated n l)
  repeated_listed zero l = refl
  repeated_listed (suc n) l = ap (λ (r : StobjList QualifiedName). Item (named_list symbols l) r) (repeated_listed n l)

  pub initial_listed : (l : Layout ℕ) → initial (named_layout (symbol_at symbols) l) ≡ named_list symbols (initial l)
  initial_listed (Scalar t o) = refl
  initial_listed (Array t o n resizable) = repeated_listed n (Value o)
  initial_listed (Hash test) = refl
  initial_listed (Children n kid) = ap (repeated n) (initial_listed kid) ∙ repeated_listed n (initial kid)
  initial_listed NoField = refl
  initial_listed (Field first others) = rw (initial_listed first, initial_listed others) refl

-- a name that is no abstract stobj's has the list of its layout
fresh_is : (b : Theory) (m x : ℕ) (d : Option Definition) → abstract_of d ≡ None → definition b.world x ≡ d → fresh_defined b m x d ≡ Some (initial (stobj_layout (form_of b.symbols) b.world x))
unfolding layout_within
fresh_is b m x None e i = rw i refl
fresh_is b m x (Some (Primitive p row)) e i = rw i refl
fresh_is b m x (Some (Defined f)) e i = rw i refl
fresh_is b m x (Some (Macro p formals other)) e i = rw i refl
fresh_is b m x (Some (Constant p value)) e i = rw i refl
fresh_is b m x (Some (Concrete d class)) e i = refl
fresh_is b m x (Some (Generated g)) e i = rw i refl
fresh_is b m x (Some (Abstract d)) e i = some_none e
  where
    some_none : Some d ≡ None → fresh_defined b m x (Some (Abstract d)) ≡ Some (initial (stobj_layout (form_of b.symbols) b.world x))
    some_none q = cc
fresh_is b m x (Some (OfAbstract f)) e i = rw i refl
fresh_is b m x (Some (Named p formals)) e i = rw i refl
fresh_is b m x (Some (Signed p formals signed executable)) e i = rw i refl

module _ (w : World) (g : Ground) (offset : ℕ) where
  -- an outcome without the innermost stobj
  answers_unmade : (old : List QualifiedName) (there : List ℕ) (x low : ℕ) (p : Outcome ℕ) (run : Run w g) → AnswersAs w g offset old (x ∷ there) low p run
      → AnswersAs w g offset old there low (with_state (unmaking lists_keeping) p) (λ m k. with_state (unmaking lists_keeping) (run m k))
  answers_unmade old there x low (Gives given u) run h = record {
    after = record h.after { stobjs = drop 1 h.after.stobjs };
    together = record {
      table = h.together.table;
      truth = h.together.truth;
      grown = h.together.grown;
      lists = beside_drop w g u.symbols 1 u.stobjs h.after.stobjs h.together.lists;
      outer = h.together.outer;
      calls = h.together.calls;
    };
    more_symbols = h.more_symbols;
    same_names = names_drop (x ∷ []) there u.stobjs h.same_names;
    more = h.more;
    knows = h.knows;
    budget = h.budget;
    runs = λ m k i j. ap (λ (q : Outcome QualifiedName). with_state (unmaking lists_keeping) q) (h.runs m k i j);
  }
  answers_unmade old there x low (Stops stop origin u) run h = λ e. let i : StopsAs w g offset old (x ∷ there) low stop origin u run = h e in record {
    after = record i.after { stobjs = drop 1 i.after.stobjs };
    together = record {
      table = i.together.table;
      truth = i.together.truth;
      grown = i.together.grown;
      lists = beside_drop w g u.symbols 1 u.stobjs i.after.stobjs i.together.lists;
      outer = i.together.outer;
      calls = i.together.calls;
    };
    more_symbols = i.more_symbols;
    same_names = names_drop (x ∷ []) there u.stobjs i.same_names;
    more = i.more;
    budget = i.budget;
    runs = λ m k y j. ap (λ (q : Outcome QualifiedName). with_state (unmaking lists_keeping) q) (i.runs m k y j);
  }
  answers_unmade old there x low Unknown run h = tt

  pub staged_of : (scope : Scope) (variables : Variables ℕ) (s : State ℕ) (t : StateOf (Store ℕ)) (shown : Variables QualifiedName) (a : State QualifiedName) (values : Values)
      → Stage w g scope variables s t values → AreTogether w g offset s a → shown ≡ named_variables s.symbols variables → KnowsVariables (length s.symbols) variables → Staged w g offset scope variables s t shown a
  staged_of scope variables s t shown a values stage together e k = record { are = stage.are; stands = stage.stands; same = stage.same; sound = stage.sound; together = together; shown_are = e; knows = k }

module _ (w : World) (table : Table) (symbols : List QualifiedName) (threaded : IsThreaded w) (followed : IsFollowedBeside w (abstract_ground w table symbols) threaded) (limit : ℕ) (bg : Extends table (table_of table.packages symbols))
    (obligations : ObligationsInLogic (ground_book w (abstract_ground w table symbols))) (offset : ℕ)
    (ev : Evaluator ℕ) (el : EvaluatorOf ℕ (Store ℕ)) (h : Meets w threaded table.packages limit ev el) (f : Follows w (abstract_ground w table symbols) (book w (abstract_ground w table symbols) threaded limit symbols) ev) (av : ℕ → ℕ → Evaluator QualifiedName) (an : Answers w (abstract_ground w table symbols) offset ev av) where
  abbrev base : Ground
  base = abstract_ground w table symbols

  abbrev logic_theory : Theory
  logic_theory = book w (abstract_ground w table symbols) threaded limit symbols

  -- the list of a new stobj in abstract evaluation
  record IsNew (stobj : ℕ) (now : List QualifiedName) : Type 0 where
    list : StobjList QualifiedName
    need : ℕ
    found_at : (m : ℕ) → need ≤ m → abstract_fresh logic_theory m stobj ≡ Some list
    goes : GoesWith w (abstract_ground w table symbols) now stobj (initial (layout_of w stobj)) list

  new_known : (stobj : ℕ) (now : List QualifiedName) → Extends table (table_of table.packages now) → KnowsList (length now) (initial (layout_of w stobj))
  new_known stobj now grown = initial_known (λ q. q < length now) (layout_of w stobj) (layout_weaker table (table_of table.packages now) grown (layout_of w stobj) (followed.lawful.layouts stobj))

  plain_new : (scope : Scope) (stobj : ℕ) (now : List QualifiedName) → Extends table (table_of table.packages now) → abstract_of (definition w stobj) ≡ None → IsNew stobj now
  plain_new scope stobj now grown e = record {
    list = named_list now (initial (layout_of w stobj));
    need = 0;
    found_at = λ m i.
        fresh_is logic_theory m stobj (definition w stobj) e refl
        ∙ ap (λ (l : StobjList QualifiedName). Some l) (ap (λ (l : Layout QualifiedName). initial l) (book_layout w (abstract_ground w table symbols) threaded followed.lawful limit symbols scope bg itself now grown stobj) ∙ initial_listed now (layout_of w stobj));
    goes = record {
      fits = new_stobjs_stand.fields (layout_of w stobj);
      recognized = is_recognized.numbered (layout_of w stobj) (followed.lawful.initials stobj);
      known = new_known stobj now grown;
      alike = subst (λ (v : Option AbstractDescriptor). AlikeBy (ground_book w (abstract_ground w table symbols)) v now (initial (layout_of w stobj)) (named_list now (initial (layout_of w stobj)))) (sym e) refl;
    };
  }

  abstract_new : (scope : Scope) (stobj : ℕ) (now : List QualifiedName) (stobjs : Stobjs ℕ) → IsSound w table scope now stobjs → HasAbstractCreator w stobj → IsNew stobj now
  abstract_new scope stobj now stobjs sound c =
      let made : CreatorHolds logic_theory stobj c.descriptor = obligations.creators stobj c.descriptor c.stobj in
      let costs : Ends (λ budget nest start. caller logic_theory budget nest c.descriptor.creator.logic [] start) made.made = call_costs logic_theory c.descriptor.creator.logic [] made.made made.ends in
      record {
        list = Value made.made;
        need = costs.0;
        found_at = λ m i.
            ap (fresh_defined logic_theory m stobj) c.stobj
            ∙ ap (λ (q : Option Found). option_map (λ (o : Thing). Value o) (option_map (λ (z : Found). z.value) q)) (costs.1.gives m m 0 (omega (arith, i)) i);
        goes = record {
          fits = new_stobjs_stand.fields (layout_of w stobj);
          recognized = is_recognized.numbered (layout_of w stobj) (followed.lawful.initials stobj);
          known = new_known stobj now sound.grown;
          alike = subst (λ (v : Option AbstractDescriptor). AlikeBy (ground_book w (abstract_ground w table symbols)) v now (initial (layout_of w stobj)) (Value made.made)) (sym (ap abstract_of c.stobj))
              (record {
                corresponding =
                    subst (λ (l : Thing). CallHolds logic_theory c.descriptor.corr (l ∷ made.made ∷ []))
                    (ap (λ (m : Layout QualifiedName). as_object by_name (initial m)) (book_layout w (abstract_ground w table symbols) threaded followed.lawful limit symbols scope bg itself now sound.grown stobj)
                    ∙ initial_named (symbol_at now) (λ q. q < length now) (is_naming (table_of table.packages now) sound.table sound.truth) (layout_of w stobj))
                    made.corresponds;
                well_formed = made.well_formed;
                homes = made.homes;
              });
        };
      }

  new_stobj : (scope : Scope) (stobj : ℕ) (now : List QualifiedName) (stobjs : Stobjs ℕ) → IsSound w table scope now stobjs → HasCreator w stobj ⊎ HasAbstractCreator w stobj → IsNew stobj now
  new_stobj scope stobj now stobjs sound (inl c) =
      plain_new scope stobj now sound.grown (ap (abstract_ground w table symbols).view (sym c.made_of) ∙ followed.lawful.plain (creator_of (definition w stobj)) c.creator c.there)
  new_stobj scope stobj now stobjs sound (inr c) = abstract_new scope stobj now stobjs sound c

  made_here : (scope : Scope) (stobj : ℕ) (s : State ℕ) → IsSound w table scope s.symbols s.stobjs → HasCreator w stobj ⊎ HasAbstractCreator w stobj → IsMadeInLogic w (abstract_ground w table symbols) threaded followed.lawful limit symbols bg ev el h f stobj s.symbols
  made_here scope stobj s sound (inl c) = new_object w (abstract_ground w table symbols) threaded followed.lawful limit symbols bg ev el h f scope stobj s.symbols s.stobjs sound c
  made_here scope stobj s sound (inr c) =
      let new : (made : Thing) × Ends (λ budget nest start. caller logic_theory budget nest (creator_of (definition w stobj)) [] start) made × Kin w (abstract_ground w table symbols) s.symbols stobj (initial (layout_of w stobj)) made
      = (abstracts_follow w table symbols threaded followed limit bg obligations).makes stobj c scope s.symbols s.stobjs sound in
      record { made = new.0; makes = new.1; kin = new.2 }

  pub answers_local : (c : World) (mode : Mode) (scope : Scope) (stobj : ℕ) (locals : List ℕ) (producer other : Core) (formal : Option ℕ) (expected : List Out) (variables : Variables ℕ) (s : State ℕ) (t : StateOf (Store ℕ)) (shown : Variables QualifiedName) (a : State QualifiedName)
      → Form w (abstract_ground w table symbols) c mode scope (WithLocal stobj locals producer other) formal expected → Staged w (abstract_ground w table symbols) offset scope variables s t shown a
      → AnswersAs w (abstract_ground w table symbols) offset s.symbols (names s.stobjs) a.calls (opened (on_lists w threaded table.packages limit) ev (WithLocal stobj locals producer other) variables s)
      (λ m k. opened (on_names w (abstract_ground w table symbols) threaded limit symbols offset m k) (av m k) (WithLocal stobj locals producer other) shown a)
  unfolding IsSuited AreFormed
  answers_local c mode scope stobj locals producer other formal expected variables s t shown a form st =
      answers_then w (abstract_ground w table symbols) offset s.symbols (names s.stobjs) a.calls Ready
      (counting limit s (with_fresh (on_lists w threaded table.packages limit) ev stobj (Some (initial (layout_of w stobj))) producer variables))
      (λ m k. counting k a (with_fresh (on_names w (abstract_ground w table symbols) threaded limit symbols offset m k) (av m k) stobj (abstract_fresh logic_theory m stobj) producer shown))
      (λ given after. ev other (bound locals given variables) after) (λ m k given after. av m k other (bound locals given shown) after)
      (body_ready w (abstract_ground w table symbols) threaded followed.lawful limit symbols bg ev el h f c mode scope stobj locals producer other formal expected variables s t (values_of s.symbols (things a.stobjs) variables) form.suited_world form.runs form.accepted form.formed.0 form.formed.1
      form.suited.0 made form.suited.2 form.suited.3 stage)
      (answers_counting w (abstract_ground w table symbols) offset s.symbols (names s.stobjs) limit s a (with_fresh (on_lists w threaded table.packages limit) ev stobj (Some (initial (layout_of w stobj))) producer variables)
      (λ m k. with_fresh (on_names w (abstract_ground w table symbols) threaded limit symbols offset m k) (av m k) stobj (abstract_fresh logic_theory m stobj) producer shown)
      (answers_as w (abstract_ground w table symbols) offset s.symbols (names s.stobjs) (a.calls + 1) new.need (with_state (unmaking lists_keeping) (ev producer ((stobj, StobjNamed stobj) ∷ variables) inner_s))
      (λ m k. with_state (unmaking lists_keeping) (av m k producer ((stobj, StobjNamed stobj) ∷ shown) inner_a))
      (λ m k. with_fresh (on_names w (abstract_ground w table symbols) threaded limit symbols offset m k) (av m k) stobj (abstract_fresh logic_theory m stobj) producer shown (one_more_call a))
      (λ m k i j. ap (λ (l : Option (StobjList QualifiedName)). with_fresh (on_names w (abstract_ground w table symbols) threaded limit symbols offset m k) (av m k) stobj l producer shown (one_more_call a)) (new.found_at m i))
      (answers_unmade w (abstract_ground w table symbols) offset s.symbols (names s.stobjs) stobj (a.calls + 1) (ev producer ((stobj, StobjNamed stobj) ∷ variables) inner_s) (λ m k. av m k producer ((stobj, StobjNamed stobj) ∷ shown) inner_a)
      (an.answers c mode (local_scope c scope stobj) producer None (name_kinds c locals)
      (record { suited_world = form.suited_world; runs = form.runs; accepted = (of_with_local c mode scope formal expected stobj locals producer other form.accepted).0; formed = form.formed.0; suited = form.suited.2 })
      ((stobj, StobjNamed stobj) ∷ variables) inner_s ready.0 ((stobj, StobjNamed stobj) ∷ shown) inner_a
      (staged_of w (abstract_ground w table symbols) offset (local_scope c scope stobj) ((stobj, StobjNamed stobj) ∷ variables) inner_s ready.0 ((stobj, StobjNamed stobj) ∷ shown) inner_a ((stobj, made.made) ∷ values_of s.symbols (things a.stobjs) variables) ready.1
      (record {
        table = st.together.table;
        truth = st.together.truth;
        grown = st.together.grown;
        lists = (refl, new.goes, st.together.lists);
        outer = ap (λ (n : ℕ). n + 1) st.together.outer;
        calls = omega (arith, st.together.calls);
      })
      (ap (λ (vs : Variables QualifiedName). (stobj, StobjNamed stobj) ∷ vs) st.shown_are) (tt, st.knows))))))
      (λ given u d g.
      answers_next w (abstract_ground w table symbols) threaded limit symbols offset ev el h f av an (names s.stobjs) c mode (body_scope c scope stobj locals) other None expected
      (record { suited_world = form.suited_world; runs = form.runs; accepted = (of_with_local c mode scope formal expected stobj locals producer other form.accepted).1; formed = form.formed.1; suited = form.suited.3 })
      (bound locals given variables) u d.1.0 (bound locals (map (shown_named u.symbols) given) shown) g.after
      (staged_of w (abstract_ground w table symbols) offset (body_scope c scope stobj locals) (bound locals given variables) u d.1.0 (bound locals (map (shown_named u.symbols) given) shown) g.after d.1.1 d.1.2 g.together
      (ap (bound locals (map (shown_named u.symbols) given)) (st.shown_are ∙ sym (variables_stay (table_of table.packages s.symbols) (table_of table.packages u.symbols) g.more_symbols variables st.knows)) ∙ bound_named u.symbols locals given variables)
      (known_bound (length u.symbols) locals given variables g.knows (knows_variables_stay (table_of table.packages s.symbols) (table_of table.packages u.symbols) g.more_symbols variables st.knows)))
      g.same_names)
    where
      Ready : List (Shown ℕ) → State ℕ → Type 0
      Ready vs z = AreOutputs (local_scope c scope stobj) (name_kinds c locals) vs × ((v : StateOf (Store ℕ)) × (others : Values) × Stage w (abstract_ground w table symbols) (body_scope c scope stobj locals) (bound locals vs variables) z v others)

      stage : Stage w (abstract_ground w table symbols) scope variables s t (values_of s.symbols (things a.stobjs) variables)
      stage = stage_of w (abstract_ground w table symbols) offset scope variables s t shown a st

      made : IsMadeInLogic w (abstract_ground w table symbols) threaded followed.lawful limit symbols bg ev el h f stobj s.symbols
      made = made_here scope stobj s st.sound form.suited.1

      new : IsNew stobj s.symbols
      new = new_stobj scope stobj s.symbols s.stobjs st.sound form.suited.1

      inner_s : State ℕ
      inner_s = record (one_more_call s) { stobjs = (stobj, initial (layout_of w stobj)) ∷ s.stobjs }

      inner_a : State QualifiedName
      inner_a = record (one_more_call a) { stobjs = (stobj, new.list) ∷ a.stobjs }

      ready : (v : StateOf (Store ℕ)) × Stage w (abstract_ground w table symbols) (local_scope c scope stobj) ((stobj, StobjNamed stobj) ∷ variables) inner_s v ((stobj, made.made) ∷ values_of s.symbols (things a.stobjs) variables)
      ready =
          producer_ready w (abstract_ground w table symbols) threaded followed.lawful limit symbols bg ev el h f c mode scope stobj locals producer other formal expected variables s t (values_of s.symbols (things a.stobjs) variables) form.suited_world form.runs form.accepted form.formed.0 form.formed.1
          form.suited.0 made form.suited.2 form.suited.3 stage
