-- The children that a form binds, one after another.
use Rattle.std.proofs.Common.{◌≡◌, ℕ, ◌+◌, List, [], ◌∷◌, ◌++◌, map, Bool, true, false, Option, Some, None, refl, sym, ap, ◌∙◌, subst}
use Rattle.std.specs.Prelude.{◌≢◌, pos, negsuc, option_map, if◌then◌else◌}
use Rattle.std.specs.Option.{option_map_or}
use Rattle.model_terms.specs.Worlds.{AbstractDescriptor, Scope, World, definition}
use Rattle.model_answers.specs.Beside.{AlikeBy, AnswersAs, AreTogether, GoesWith, named_variables}
use Rattle.model_answers.proofs.Setting.{Answers, Staged, naming, stage_of, things, values_of}
use Rattle.model_accepted.proofs.KidLemmas.{AreBindings, AreBound, AreLoans, bindings_are}
use Rattle.model_accepted.specs.StobjScopes.{AreVariables, IsStobj}
use Rattle.model_follows.proofs.KidBorrowing.{index_same}
use Rattle.model_terms.specs.Nested.{BoundChild, bound_children, child_stobj, have_indices, is_index}
use Rattle.model_terms.specs.Cores.{Call, Const, Core, Cores, If, Let, MustBeEqual, Mv, MvLet, Reached, StobjLet, Var, WithLocal, more, none, reached}
use Rattle.model_answers.proofs.Kids.{append_loans, loan_values_named, reached_named}
use Rattle.model_follows.proofs.Following.{Follows, Suited}
use Rattle.model_eval.specs.Evaluated.{Evaluator, EvaluatorOf, Rules, all_borrowed, borrowed, borrowed_from, borrowing, index_of, loan_of}
use Rattle.model_symbols.specs.Growth.{Extends}
use Rattle.model_eval.specs.Outcomes.{Guard, Outcome, Shown, State, StateOf, StobjNamed, Stobjs, one_more_call, stops_here}
use Rattle.model_follows.specs.Follows.{table_of}
use Rattle.model_objects.specs.Object.{Integer, Pair, Symbol, Text, named}
use Rattle.model_follows.specs.Abstract.{IsFollowedBeside, ObligationsInLogic, abstract_ground}
use Rattle.model_accepted.specs.Threaded.{IsThreaded}
use Rattle.model_eval.specs.Keeping.{Loan}
use Rattle.model_terms.specs.declared.rule.Mode.TheVariants.{Logic}
use Rattle.model_in_place.proofs.CallMeeting.{Meets, on_lists}
use Rattle.model_terms.specs.declared.rule.Mode.{Mode}
use Rattle.model_symbols.specs.Symbols.{QualifiedName, Table, symbol_at}
use Rattle.model_lists.specs.Lists.{StobjList, item}
use Rattle.model_eval.specs.PlacesKeeping.{Store}
use Rattle.model_logic.specs.Logic.{Theory, Thing, bind, index_value, logic_loans}
use Rattle.model_eval.specs.Variables.{Variables, list_of, object_of, variable_in}
use Rattle.model_answers.proofs.Outcomes.{answers_as, answers_counting, answers_stops, together_counted}
use Rattle.model_answers.proofs.Forms.{on_names}
use Rattle.std.proofs.lemmas.List.{append_assoc}
use Rattle.model_eval.specs.Lending.{field_number, is_reached, loan_values}
use Rattle.model_answers.proofs.Lists.{beside_at}
use Rattle.model_follows.proofs.PartFollowing.{book}
use Rattle.model_accepted.proofs.AcceptLemmas.{both_true, false_true}
use Rattle.model_answers.proofs.Naming.{object_named, variable_named}
use Rattle.model_prims.specs.Kinds.{by_name, by_number}
use Rattle.model_in_place.proofs.WriteLemmas.{counted_same}
use Rattle.model_follows.proofs.HeldThings.{ground_book}
use Rattle.model_eval_laws.specs.Scope.{names}
use Rattle.model_answers.proofs.Effects.{item_named}
use Rattle.model_in_place.proofs.KidMeeting.{loan_is}
use Rattle.model_abstract.specs.Corresponding.{named_list}
use Rattle.model_follows.proofs.KidThings.{named_loan}
use Rattle.model_accepted.proofs.ScopeLemmas.{none_some, some_same}
use Rattle.model_abstract_books.specs.Answers.{shown_named}

module _ (w : World) (table : Table) (symbols : List QualifiedName) (threaded : IsThreaded w) (followed : IsFollowedBeside w (abstract_ground w table symbols) threaded) (limit : ℕ) (bg : Extends table (table_of table.packages symbols))
    (obligations : ObligationsInLogic (ground_book w (abstract_ground w table symbols))) (offset : ℕ)
    (ev : Evaluator ℕ) (el : EvaluatorOf ℕ (Store ℕ)) (h : Meets w threaded table.packages limit ev el) (f : Follows w (abstract_ground w table symbols) (book w (abstract_ground w table symbols) threaded limit symbols) ev) (av : ℕ → ℕ → Evaluator QualifiedName) (an : Answers w (abstract_ground w table symbols) offset ev av) where
  abbrev rules : Rules ℕ
  rules = on_lists w threaded table.packages limit

  abbrev named_rules : ℕ → ℕ → Rules QualifiedName
  named_rules m k = on_names w (abstract_ground w table symbols) threaded limit symbols offset m k

  abbrev thy : Theory
  thy = book w (abstract_ground w table symbols) threaded limit symbols

  -- ---- indices

  index_is : (scope : Scope) (vars : List ℕ) (variables : Variables ℕ) (s : State ℕ) (a : State QualifiedName) (shown : Variables QualifiedName) → AreTogether w (abstract_ground w table symbols) offset s a → shown ≡ named_variables s.symbols variables
      → (index : Option Core) (m k : ℕ) → option_map_or (is_index scope vars) index true ≡ true → index_of (named_rules m k) index shown ≡ option_map (named (symbol_at s.symbols)) (index_of rules index variables)
  index_is scope vars variables s a shown together e None m k i = refl
  index_is scope vars variables s a shown together e (Some (Var x)) m k i =
      ap (λ (q : Thing). Some q)
      (ap (λ (vs : Variables QualifiedName). object_of by_name (variable_in by_name vs x)) e
      ∙ (ap (object_of by_name) (variable_named s.symbols (naming w (abstract_ground w table symbols) offset s a together) variables x) ∙ object_named s.symbols (naming w (abstract_ground w table symbols) offset s a together) (variable_in by_number variables x)))
  index_is scope vars variables s a shown together e (Some (Const (Integer (pos n)))) m k i = refl
  index_is scope vars variables s a shown together e (Some (Const (Integer (negsuc n)))) m k i = false_true i
  index_is scope vars variables s a shown together e (Some (Const (Symbol q))) m k i = false_true i
  index_is scope vars variables s a shown together e (Some (Const (Text bytes))) m k i = false_true i
  index_is scope vars variables s a shown together e (Some (Const (Pair b d))) m k i = false_true i
  index_is scope vars variables s a shown together e (Some (If b d c)) m k i = false_true i
  index_is scope vars variables s a shown together e (Some (Let ns fs other)) m k i = false_true i
  index_is scope vars variables s a shown together e (Some (Mv parts)) m k i = false_true i
  index_is scope vars variables s a shown together e (Some (MvLet ns fs other)) m k i = false_true i
  index_is scope vars variables s a shown together e (Some (StobjLet ns fs vs pr co)) m k i = false_true i
  index_is scope vars variables s a shown together e (Some (WithLocal o ns pr other)) m k i = false_true i
  index_is scope vars variables s a shown together e (Some (MustBeEqual b d)) m k i = false_true i
  index_is scope vars variables s a shown together e (Some (Call g actuals)) m k i = false_true i

  staged_counted : (scope : Scope) (variables : Variables ℕ) (s : State ℕ) (t : StateOf (Store ℕ)) (shown : Variables QualifiedName) (a : State QualifiedName) → Staged w (abstract_ground w table symbols) offset scope variables s t shown a
      → Staged w (abstract_ground w table symbols) offset scope variables (one_more_call s) (one_more_call t) shown (one_more_call a)
  staged_counted scope variables s t shown a st = record {
    are = st.are;
    stands = st.stands;
    same = counted_same w s t st.same;
    sound = st.sound;
    together = together_counted w (abstract_ground w table symbols) offset s a st.together;
    shown_are = st.shown_are;
    knows = st.knows;
  }

  -- ---- the bindings

  module _ (c : World) (mode : Mode) (scope : Scope) (suited_world : Suited w (abstract_ground w table symbols) c) (n : mode ≢ Logic) (variables : Variables ℕ) (shown : Variables QualifiedName) (are : AreVariables scope variables) (there : List ℕ) (vars : List ℕ) (p : ℕ) (parent : StobjList ℕ) (stobj : IsStobj scope p)
      (shown_parent : variable_in by_number variables p ≡ StobjNamed p) (plain_parent_view : (abstract_ground w table symbols).view p ≡ None) (sy : List QualifiedName) (os : Stobjs ℕ) where
    abbrev pub GoLoans : List ℕ → Cores → List BoundChild → List (Loan ℕ) → (List (Loan ℕ) → State ℕ → Outcome ℕ) → (ℕ → ℕ → List (Loan QualifiedName) → State QualifiedName → Outcome QualifiedName) → Type 0
    GoLoans ns forms bs done go to =
        (ls all : List (Loan ℕ)) (u : State ℕ) (v : StateOf (Store ℕ)) (b : State QualifiedName) → AreLoans w p parent bs ls → all ≡ done ++ ls
        → logic_loans thy ns forms (values_of u.symbols (things b.stobjs) variables) ≡ map (named_loan (symbol_at sy)) ls → u.symbols ≡ sy → u.stobjs ≡ os
        → Staged w (abstract_ground w table symbols) offset scope variables u v shown b
        → AnswersAs w (abstract_ground w table symbols) offset u.symbols there b.calls (go all u) (λ m k. to m k (map (named_loan (symbol_at sy)) all) b)

    pub answers_borrowed : (ns : List ℕ) (forms : Cores) (bs : List BoundChild) (done : List (Loan ℕ)) (go : List (Loan ℕ) → State ℕ → Outcome ℕ) (to : ℕ → ℕ → List (Loan QualifiedName) → State QualifiedName → Outcome QualifiedName) (s : State ℕ) (t : StateOf (Store ℕ)) (a : State QualifiedName)
        → bound_children c ns forms ≡ Some bs → AreBound c p bs → have_indices scope vars bs ≡ true → list_of s.stobjs p ≡ parent → s.symbols ≡ sy → s.stobjs ≡ os → names s.stobjs ≡ there → Staged w (abstract_ground w table symbols) offset scope variables s t shown a
        → GoLoans ns forms bs done go to
        → AnswersAs w (abstract_ground w table symbols) offset s.symbols there a.calls (all_borrowed (on_lists w threaded table.packages limit) ns forms variables done go s)
        (λ m k. all_borrowed (on_names w (abstract_ground w table symbols) threaded limit symbols offset m k) ns forms shown (map (named_loan (symbol_at sy)) done) (to m k) a)
    unfolding all_borrowed
    answers_borrowed [] none bs done go to s t a bind bound_all ix same es eo en st next =
        next [] done s t a (subst (λ (m : List BoundChild). AreLoans w p parent m []) (some_same bind) tt) (append_nothing done) refl es eo st
      where
        append_nothing : (ls : List (Loan ℕ)) → ls ≡ ls ++ []
        append_nothing [] = refl
        append_nothing (l ∷ ls) = ap (λ (ms : List (Loan ℕ)). l ∷ ms) (append_nothing ls)
    answers_borrowed [] (more g fs) bs done go to s t a bind bound_all ix same es eo en st next = none_some bind
    answers_borrowed (x ∷ xs) none bs done go to s t a bind bound_all ix same es eo en st next = none_some bind
    answers_borrowed (x ∷ xs) (more g fs) bs done go to s t a bind bound_all ix same es eo en st next =
        let is : AreBindings c x xs g fs bs = bindings_are c x xs g fs bs bind in
        let all : AreBound c p (is.first ∷ is.others) = subst (AreBound c p) is.all bound_all in
        let ixs : (option_map_or (is_index scope vars) is.first.index true ≡ true) × (have_indices scope vars is.others ≡ true)
        = both_true (option_map_or (is_index scope vars) is.first.index true) (have_indices scope vars is.others) (subst (λ (m : List BoundChild). have_indices scope vars m ≡ true) is.all ix) in
        let l : Loan ℕ = loan_of (on_lists w threaded table.packages limit) x p is.is.by variables in
        let from : variable_in by_number variables is.is.by.parent ≡ StobjNamed p = ap (variable_in by_number variables) (sym is.is.parent ∙ all.0) ∙ shown_parent in
        let from_named : variable_in by_name shown is.is.by.parent ≡ StobjNamed p
        = ap (λ (vs : Variables QualifiedName). variable_in by_name vs is.is.by.parent) st.shown_are
        ∙ (variable_named s.symbols (naming w (abstract_ground w table symbols) offset s a st.together) variables is.is.by.parent ∙ ap (shown_named s.symbols) from) in
        let index_ok : option_map_or (is_index scope vars) is.is.by.index true ≡ true = ap (λ (i : Option Core). option_map_or (is_index scope vars) i true) (sym is.is.index) ∙ ixs.0 in
        subst (λ (r : Option Reached). AnswersAs w (abstract_ground w table symbols) offset s.symbols there a.calls (borrowed (on_lists w threaded table.packages limit) x r variables (λ loan after. all_borrowed (on_lists w threaded table.packages limit) xs fs variables (done ++ loan ∷ []) go after) s)
        (λ m k. borrowed (on_names w (abstract_ground w table symbols) threaded limit symbols offset m k) x r shown (λ loan after. all_borrowed (on_names w (abstract_ground w table symbols) threaded limit symbols offset m k) xs fs shown (map (named_loan (symbol_at sy)) done ++ loan ∷ []) (to m k) after) a)) (sym is.is.called)
        (subst (λ (q : Shown ℕ). AnswersAs w (abstract_ground w table symbols) offset s.symbols there a.calls (borrowed_from (on_lists w threaded table.packages limit) x is.is.by q variables (λ loan after. all_borrowed (on_lists w threaded table.packages limit) xs fs variables (done ++ loan ∷ []) go after) s)
        (λ m k. borrowed_from (on_names w (abstract_ground w table symbols) threaded limit symbols offset m k) x is.is.by (variable_in by_name shown is.is.by.parent) shown (λ loan after. all_borrowed (on_names w (abstract_ground w table symbols) threaded limit symbols offset m k) xs fs shown (map (named_loan (symbol_at sy)) done ++ loan ∷ []) (to m k) after) a)) (sym from)
        (subst (λ (q : Shown QualifiedName). AnswersAs w (abstract_ground w table symbols) offset s.symbols there a.calls (borrowed_from (on_lists w threaded table.packages limit) x is.is.by (StobjNamed p) variables (λ loan after. all_borrowed (on_lists w threaded table.packages limit) xs fs variables (done ++ loan ∷ []) go after) s)
        (λ m k. borrowed_from (on_names w (abstract_ground w table symbols) threaded limit symbols offset m k) x is.is.by q shown (λ loan after. all_borrowed (on_names w (abstract_ground w table symbols) threaded limit symbols offset m k) xs fs shown (map (named_loan (symbol_at sy)) done ++ loan ∷ []) (to m k) after) a)) (sym from_named)
        (answers_counting w (abstract_ground w table symbols) offset s.symbols there limit s a (borrowing (on_lists w threaded table.packages limit) is.is.by.accessor l (λ after. all_borrowed (on_lists w threaded table.packages limit) xs fs variables (done ++ l ∷ []) go after))
        (λ m k. borrowing (on_names w (abstract_ground w table symbols) threaded limit symbols offset m k) is.is.by.accessor (loan_of (on_names w (abstract_ground w table symbols) threaded limit symbols offset m k) x p is.is.by shown)
        (λ after. all_borrowed (on_names w (abstract_ground w table symbols) threaded limit symbols offset m k) xs fs shown (map (named_loan (symbol_at sy)) done ++ loan_of (on_names w (abstract_ground w table symbols) threaded limit symbols offset m k) x p is.is.by shown ∷ []) (to m k) after))
        (answers_as w (abstract_ground w table symbols) offset s.symbols there (a.calls + 1) 0
        (borrowing (on_lists w threaded table.packages limit) is.is.by.accessor l (λ after. all_borrowed (on_lists w threaded table.packages limit) xs fs variables (done ++ l ∷ []) go after) (one_more_call s))
        (λ m k. if is_reached l.index (item l.field (list_of s.stobjs p))
        then all_borrowed (on_names w (abstract_ground w table symbols) threaded limit symbols offset m k) xs fs shown (map (named_loan (symbol_at sy)) (done ++ l ∷ [])) (to m k) (one_more_call a)
        else stops_here (Guard is.is.by.accessor (map (shown_named s.symbols) (loan_values l))) (one_more_call a))
        (λ m k. borrowing (on_names w (abstract_ground w table symbols) threaded limit symbols offset m k) is.is.by.accessor (loan_of (on_names w (abstract_ground w table symbols) threaded limit symbols offset m k) x p is.is.by shown)
        (λ after. all_borrowed (on_names w (abstract_ground w table symbols) threaded limit symbols offset m k) xs fs shown (map (named_loan (symbol_at sy)) done ++ loan_of (on_names w (abstract_ground w table symbols) threaded limit symbols offset m k) x p is.is.by shown ∷ []) (to m k) after) (one_more_call a))
        (λ m k i j. named_step m k is.is.by index_ok)
        (by_test (is_reached l.index (item l.field (list_of s.stobjs p))) l is.is.by.accessor
        (λ r. subst (λ (ns : List ℕ). AnswersAs w (abstract_ground w table symbols) offset s.symbols there (a.calls + 1) (all_borrowed (on_lists w threaded table.packages limit) xs fs variables (done ++ l ∷ []) go (one_more_call s))
        (λ m k. all_borrowed (on_names w (abstract_ground w table symbols) threaded limit symbols offset m k) xs fs shown (map (named_loan (symbol_at sy)) (done ++ l ∷ [])) (to m k) (one_more_call a))) en
        (answers_borrowed xs fs is.others (done ++ l ∷ []) go to (one_more_call s) (one_more_call t) (one_more_call a) is.later all.3 ixs.1 same es eo en (staged_counted scope variables s t shown a st)
        (λ ls every u v b loans q ll us uo after.
        next (l ∷ ls) every u v b
        (subst (λ (m : List BoundChild). AreLoans w p parent m (l ∷ ls)) (sym is.all) (
          loan_is w threaded table.packages limit ev el h c mode scope suited_world.suits n variables are p parent stobj shown_parent x g is.first is.is all.0 (suited_world.suits.layouts is.first.accessor.stobj p all.1) (suited_world.suits.layouts (child_stobj is.first.accessor.holds) is.first.name all.2)
              (ap (λ (m : StobjList ℕ). is_reached l.index (item l.field m)) (sym same) ∙ r),
          loans,
        ))
        (q ∙ append_assoc done (l ∷ []) ls)
        (loan_same is.is.by is.is.called (sym is.is.parent ∙ all.0) index_ok u v b us after ls ll)
        us uo after)))
        refl)))))
      where
        named_step : (m k : ℕ) (by : Reached) → option_map_or (is_index scope vars) by.index true ≡ true
            → borrowing (on_names w (abstract_ground w table symbols) threaded limit symbols offset m k) by.accessor (loan_of (on_names w (abstract_ground w table symbols) threaded limit symbols offset m k) x p by shown)
            (λ after. all_borrowed (on_names w (abstract_ground w table symbols) threaded limit symbols offset m k) xs fs shown (map (named_loan (symbol_at sy)) done ++ loan_of (on_names w (abstract_ground w table symbols) threaded limit symbols offset m k) x p by shown ∷ []) (to m k) after) (one_more_call a)
            ≡ (if is_reached (index_of (on_lists w threaded table.packages limit) by.index variables) (item (field_number (definition w by.accessor)) (list_of s.stobjs p))
            then all_borrowed (on_names w (abstract_ground w table symbols) threaded limit symbols offset m k) xs fs shown (map (named_loan (symbol_at sy)) (done ++ loan_of (on_lists w threaded table.packages limit) x p by variables ∷ [])) (to m k) (one_more_call a)
            else stops_here (Guard by.accessor (map (shown_named s.symbols) (loan_values (loan_of (on_lists w threaded table.packages limit) x p by variables)))) (one_more_call a))
        named_step m k by i =
            let index : index_of (on_names w (abstract_ground w table symbols) threaded limit symbols offset m k) by.index shown ≡ option_map (named (symbol_at s.symbols)) (index_of (on_lists w threaded table.packages limit) by.index variables) = index_is scope vars variables s a shown st.together st.shown_are by.index m k i in
            let beside : GoesWith w (abstract_ground w table symbols) s.symbols p (list_of s.stobjs p) (list_of a.stobjs p) = beside_at w (abstract_ground w table symbols) s.symbols s.stobjs a.stobjs p st.together.lists (st.stands.known p stobj) in
            let listed : list_of a.stobjs p ≡ named_list s.symbols (list_of s.stobjs p) = sym (subst (λ (v : Option AbstractDescriptor). AlikeBy (ground_book w (abstract_ground w table symbols)) v s.symbols (list_of s.stobjs p) (list_of a.stobjs p)) plain_parent_view beside.alike) in
            let fld : ℕ = field_number (definition w by.accessor) in
            let reaches : is_reached (option_map (named (symbol_at s.symbols)) (index_of (on_lists w threaded table.packages limit) by.index variables)) (item (field_number (definition w by.accessor)) (list_of a.stobjs p)) ≡ is_reached (index_of (on_lists w threaded table.packages limit) by.index variables) (item (field_number (definition w by.accessor)) (list_of s.stobjs p))
            = ap (λ (q : StobjList QualifiedName). is_reached (option_map (named (symbol_at s.symbols)) (index_of (on_lists w threaded table.packages limit) by.index variables)) (item (field_number (definition w by.accessor)) q)) listed
            ∙ (ap (is_reached (option_map (named (symbol_at s.symbols)) (index_of (on_lists w threaded table.packages limit) by.index variables))) (item_named s.symbols (naming w (abstract_ground w table symbols) offset s a st.together) (field_number (definition w by.accessor)) (list_of s.stobjs p))
            ∙ reached_named (symbol_at s.symbols) s.symbols (naming w (abstract_ground w table symbols) offset s a st.together) (index_of (on_lists w threaded table.packages limit) by.index variables) (item (field_number (definition w by.accessor)) (list_of s.stobjs p))) in
            let l : Loan ℕ = loan_of (on_lists w threaded table.packages limit) x p by variables in
            ap (λ (q : Option Thing). borrowing (on_names w (abstract_ground w table symbols) threaded limit symbols offset m k) by.accessor (record { child = x; parent = p; field = field_number (definition w by.accessor); index = q })
            (λ after. all_borrowed (on_names w (abstract_ground w table symbols) threaded limit symbols offset m k) xs fs shown (map (named_loan (symbol_at sy)) done ++ record { child = x; parent = p; field = field_number (definition w by.accessor); index = q } ∷ []) (to m k) after) (one_more_call a)) index
            ∙ (ap (λ (q : Bool). if q
            then all_borrowed (on_names w (abstract_ground w table symbols) threaded limit symbols offset m k) xs fs shown (map (named_loan (symbol_at sy)) done ++ named_loan (symbol_at s.symbols) l ∷ []) (to m k) (one_more_call a)
            else stops_here (Guard by.accessor (loan_values (named_loan (symbol_at s.symbols) l))) (one_more_call a)) reaches
            ∙ (ap (λ (zs : List (Loan QualifiedName)). if is_reached l.index (item l.field (list_of s.stobjs p))
            then all_borrowed (on_names w (abstract_ground w table symbols) threaded limit symbols offset m k) xs fs shown zs (to m k) (one_more_call a)
            else stops_here (Guard by.accessor (loan_values (named_loan (symbol_at s.symbols) l))) (one_more_call a))
            (ap (λ (q : List QualifiedName). map (named_loan (symbol_at sy)) done ++ named_loan (symbol_at q) l ∷ []) es ∙ sym (append_loans (symbol_at sy) done (l ∷ [])))
            ∙ ap (λ (zs : List (Shown QualifiedName)). if is_reached l.index (item l.field (list_of s.stobjs p))
            then all_borrowed (on_names w (abstract_ground w table symbols) threaded limit symbols offset m k) xs fs shown (map (named_loan (symbol_at sy)) (done ++ l ∷ [])) (to m k) (one_more_call a)
            else stops_here (Guard by.accessor zs) (one_more_call a)) (sym (loan_values_named s.symbols l))))

        by_test : (q : Bool) (l : Loan ℕ) (accessor : ℕ)
            → (is_reached l.index (item l.field (list_of s.stobjs p)) ≡ true → AnswersAs w (abstract_ground w table symbols) offset s.symbols there (a.calls + 1) (all_borrowed (on_lists w threaded table.packages limit) xs fs variables (done ++ l ∷ []) go (one_more_call s))
            (λ m k. all_borrowed (on_names w (abstract_ground w table symbols) threaded limit symbols offset m k) xs fs shown (map (named_loan (symbol_at sy)) (done ++ l ∷ [])) (to m k) (one_more_call a)))
            → is_reached l.index (item l.field (list_of s.stobjs p)) ≡ q
            → AnswersAs w (abstract_ground w table symbols) offset s.symbols there (a.calls + 1)
            (if q then all_borrowed (on_lists w threaded table.packages limit) xs fs variables (done ++ l ∷ []) go (one_more_call s) else stops_here (Guard accessor (loan_values l)) (one_more_call s))
            (λ m k. if q
            then all_borrowed (on_names w (abstract_ground w table symbols) threaded limit symbols offset m k) xs fs shown (map (named_loan (symbol_at sy)) (done ++ l ∷ [])) (to m k) (one_more_call a)
            else stops_here (Guard accessor (map (shown_named s.symbols) (loan_values l))) (one_more_call a))
        by_test true l accessor y e = y e
        by_test false l accessor y e =
            subst (λ (ns : List ℕ). AnswersAs w (abstract_ground w table symbols) offset s.symbols ns (a.calls + 1) (stops_here (Guard accessor (loan_values l)) (one_more_call s)) (λ m k. stops_here (Guard accessor (map (shown_named s.symbols) (loan_values l))) (one_more_call a))) en
            (answers_stops w (abstract_ground w table symbols) offset (one_more_call s) (one_more_call a) (Guard accessor (loan_values l)) (together_counted w (abstract_ground w table symbols) offset s a st.together))

        loan_same : (by : Reached) → reached g ≡ Some by → by.parent ≡ p → option_map_or (is_index scope vars) by.index true ≡ true
            → (u : State ℕ) (v : StateOf (Store ℕ)) (b : State QualifiedName) → u.symbols ≡ sy → Staged w (abstract_ground w table symbols) offset scope variables u v shown b
            → (ls : List (Loan ℕ)) → logic_loans thy xs fs (values_of u.symbols (things b.stobjs) variables) ≡ map (named_loan (symbol_at sy)) ls
            → logic_loans thy (x ∷ xs) (more g fs) (values_of u.symbols (things b.stobjs) variables) ≡ named_loan (symbol_at sy) (loan_of (on_lists w threaded table.packages limit) x p by variables) ∷ map (named_loan (symbol_at sy)) ls
        loan_same by e d i u v b us after ls ll =
            let index : index_value thy by.index (values_of u.symbols (things b.stobjs) variables) ≡ option_map (named (symbol_at sy)) (index_of (on_lists w threaded table.packages limit) by.index variables)
            = subst (λ (z : List QualifiedName). index_value thy by.index (values_of u.symbols (things b.stobjs) variables) ≡ option_map (named (symbol_at z)) (index_of (on_lists w threaded table.packages limit) by.index variables)) us
            (index_same w (abstract_ground w table symbols) threaded followed.lawful limit symbols bg ev el h f scope vars variables u v (values_of u.symbols (things b.stobjs) variables) by.index (stage_of w (abstract_ground w table symbols) offset scope variables u v shown b after) i) in
            rw (e, d, ll, index) refl
