-- `STOBJ-LET` in place and on lists.
use Rattle.std.proofs.Common.{◌≡◌, ℕ, ◌<◌, List, [], ◌∷◌, ◌++◌, Bool, true, false, Option, Some, None, refl, sym, ap, ◌∙◌, subst, inl, inr}
use Rattle.std.specs.Prelude.{◌≢◌, ◌⊎◌, pos, unwrap_or, if◌then◌else◌}
use Rattle.std.proofs.lemmas.List.{append_assoc}
use Rattle.model_objects.specs.Object.{Object, Integer}
use Rattle.model_symbols.specs.Symbols.{Package}
use Rattle.model_prims.specs.Kinds.{by_number}
use Rattle.model_lists.specs.Lists.{StobjList, size, item}
use Rattle.model_lists.specs.Layouts.{Layout, Children}
use Rattle.model_terms.specs.declared.rule.Mode.{Mode}
use Rattle.model_terms.specs.declared.rule.Mode.TheVariants.{Logic}
use Rattle.model_terms.specs.Cores.{Core, Cores, none, more, Reached, StobjLet}
use Rattle.model_terms.specs.Worlds.{World, definition, Out, Ordinary, Scope}
use Rattle.model_terms.specs.Worlds as worlds
use Rattle.model_terms.specs.Classes.{has, is_stobj_name}
use Rattle.model_terms.specs.Scopes.{kind_in, kind_of, name_kinds, producer_scope, consumer_scope}
use Rattle.model_terms.specs.Accessors.{HeldStobjs, One, Many}
use Rattle.model_terms.specs.Sites.{here, parent_in}
use Rattle.model_terms.specs.Nested.{BoundChild, bound_children, child_stobj, is_stobj, stobj_let_holds}
use Rattle.model_eval.specs.Outcomes.{Shown, StobjNamed, Guard, StateOf, State, OutcomeOf, Outcome, stops_here, then_with, one_more_call}
use Rattle.model_eval.specs.Keeping.{Loan}
use Rattle.model_eval.specs.PlacesKeeping.{Store}
use Rattle.model_eval.specs.Variables.{Variables, variable_in, bound, list_of}
use Rattle.model_eval.specs.Lending.{field_number, is_reached, are_twins, indices, loan_values}
use Rattle.model_eval.specs.Evaluated.{Evaluator, EvaluatorOf, stobj_let_word, leaf, leaf_object, index_of, loan_of, borrowing, borrowed_from, borrowed, all_borrowed, lending, loaned_variables, producing, with_loans}
use Rattle.model_accepted.specs.Threaded.{IsFormed, layout_of, IsField, IsHeld, Reaches, Suits, IsThreaded}
use Rattle.model_accepted.specs.StobjScopes.{IsStobj, IsOfKind, AreVariables, AreOutputs}
use Rattle.model_in_place.specs.Standing.{Stands, AreSame}
use Rattle.model_in_place.specs.Writes.{Meet}
use Rattle.model_accepted.specs.Loans.{children, AreLent}
use Rattle.model_accepted.specs.Accepted.{Accepted}
use Rattle.model_accepted.proofs.AcceptLemmas.{of_stobj_let, s13, false_true, both_true, not_false}
use Rattle.model_accepted.proofs.ScopeLemmas.{has_object, some_same, none_some}
use Rattle.model_in_place.proofs.WriteLemmas.{outputs_wider, stands_less, stands_moved, meets_wider, meets_then, meets_stop, meets_counting, meets_counted}
use Rattle.model_in_place.proofs.RaiseLemmas.{stands_lent}
use Rattle.model_in_place.proofs.ProducingMeeting.{lent_s, lent_t, meets_given_back}
use Rattle.model_accepted.proofs.KidLemmas.{IsIndexed, IsLoan, AreLoans, loan_names, are_lent, AreBound, StobjLetHolds, stobj_let_is, IsBinding, AreBindings, bindings_are, names_bound, index_kind, reached_number}
use Rattle.model_accepted.proofs.KidScopes.{bound_names, producer_objects, producer_variables, consumer_objects, consumer_variables}
use Rattle.model_in_place.proofs.CallMeeting.{May, on_lists, at_places, Meets}

append_none : (ls : List (Loan ℕ)) → ls ≡ ls ++ []
append_none [] = refl
append_none (l ∷ ls) = ap (λ (ms : List (Loan ℕ)). l ∷ ms) (append_none ls)

module _ (w : World) (threaded : IsThreaded w) (packages : List Package) (limit : ℕ) (ev : Evaluator ℕ) (el : EvaluatorOf ℕ (Store ℕ)) (h : Meets w threaded packages limit ev el) (c : World) (mode : Mode) (scope : Scope) (suits : Suits c w) (n : mode ≢ Logic)
    (variables : Variables ℕ) (are : AreVariables scope variables) where
  -- ---- the bindings

  module _ (p : ℕ) (parent : StobjList ℕ) (stobj : IsStobj scope p) (shown : variable_in by_number variables p ≡ StobjNamed p) where
    -- a loan that was reached is one of a bound child
    pub loan_is : (x : ℕ) (f : Core) (b : BoundChild) (i : IsBinding c x f b) → b.parent ≡ p → layout_of w b.accessor.stobj ≡ layout_of w p → layout_of w (child_stobj b.accessor.holds) ≡ layout_of w b.name
        → is_reached (index_of (on_lists w threaded packages limit) i.by.index variables) (item (field_number (definition w i.by.accessor)) parent) ≡ true
        → IsLoan w p parent b (loan_of (on_lists w threaded packages limit) x p i.by variables)
    loan_is x f b i same alike named reached_it =
        let reaches : Reaches w i.by.accessor b.accessor = suits.accessors i.by.accessor b.accessor i.found in
        record {
          child = sym i.name;
          from = refl;
          number = reaches.number;
          field = reaches.field;
          there = subst (λ (k : Layout ℕ). IsField (field_number (definition w i.by.accessor)) k reaches.field) alike (subst (λ (m : ℕ). IsField m (layout_of w b.accessor.stobj) reaches.field) (sym reaches.number) reaches.there);
          kind = go (index_kind b.accessor.holds i.by.index i.takes) reaches.field reaches.held;
        }
      where
        l : Loan ℕ
        l = loan_of (on_lists w threaded packages limit) x p i.by variables

        go : ((y : ℕ) × (b.accessor.holds ≡ One y) × (i.by.index ≡ None)) ⊎ ((y : ℕ) × (j : Core) × (b.accessor.holds ≡ Many y) × (i.by.index ≡ Some j)) → (field : Layout ℕ) → IsHeld w b.accessor.holds field
            → ((l.index ≡ None) × (b.index ≡ None) × (field ≡ layout_of w x)) ⊎ IsIndexed w parent l field
        go (inl k) field held =
            inl (
              ap (λ (m : Option Core). index_of (on_lists w threaded packages limit) m variables) k.2,
              i.index ∙ k.2,
              subst (λ (m : HeldStobjs). IsHeld w m field) k.1 held ∙ (ap (λ (m : HeldStobjs). layout_of w (child_stobj m)) (sym k.1) ∙ (named ∙ ap (layout_of w) i.name)),
            )
        go (inr k) field held =
            let number : (m : ℕ) × (leaf_object (on_lists w threaded packages limit) (leaf (on_lists w threaded packages limit) k.1 variables) ≡ Integer (pos m)) × (m < size (item (field_number (definition w i.by.accessor)) parent))
            = reached_number (leaf_object (on_lists w threaded packages limit) (leaf (on_lists w threaded packages limit) k.1 variables)) (size (item (field_number (definition w i.by.accessor)) parent))
            (subst (λ (m : Option Core). is_reached (index_of (on_lists w threaded packages limit) m variables) (item (field_number (definition w i.by.accessor)) parent) ≡ true) k.3 reached_it) in
            let many : (m : ℕ) × (field ≡ Children m (layout_of w k.0)) = subst (λ (m : HeldStobjs). IsHeld w m field) k.2 held in
            inr (
              number.0,
              many.0,
              ap (λ (m : Option Core). index_of (on_lists w threaded packages limit) m variables) k.3 ∙ ap (λ (o : Object ℕ). Some o) number.1,
              number.2,
              many.1 ∙ ap (λ (m : Layout ℕ). Children many.0 m) (ap (λ (m : HeldStobjs). layout_of w (child_stobj m)) (sym k.2) ∙ (named ∙ ap (layout_of w) i.name)),
            )

    -- one accessor's call
    meets_one : (x : ℕ) (by : Reached) (Are : List (Shown ℕ) → Type 0) (expected : List Out) (go : Loan ℕ → State ℕ → Outcome ℕ) (to : Loan ℕ → StateOf (Store ℕ) → OutcomeOf ℕ (Store ℕ)) (s : State ℕ) (t : StateOf (Store ℕ))
        → variable_in by_number variables by.parent ≡ StobjNamed p → list_of s.stobjs p ≡ parent → Stands w scope s.stobjs t.stobjs → AreSame s t
        → (is_reached (index_of (on_lists w threaded packages limit) by.index variables) (item (field_number (definition w by.accessor)) parent) ≡ true → AreSame (one_more_call s) (one_more_call t)
        → Meet w Are (May scope expected) (IsStobj scope) (one_more_call s) (one_more_call t) (go (loan_of (on_lists w threaded packages limit) x p by variables) (one_more_call s)) (to (loan_of (on_lists w threaded packages limit) x p by variables) (one_more_call t)))
        → Meet w Are (May scope expected) (IsStobj scope) s t (borrowed (on_lists w threaded packages limit) x (Some by) variables go s) (borrowed (at_places w threaded packages limit) x (Some by) variables to t)
    meets_one x by Are expected go to s t from same stands e k =
        subst (λ (q : Shown ℕ). Meet w Are (May scope expected) (IsStobj scope) s t (borrowed_from (on_lists w threaded packages limit) x by q variables go s) (borrowed_from (at_places w threaded packages limit) x by q variables to t)) (sym from)
        (meets_counting w Are (May scope expected) (IsStobj scope) limit s t (borrowing (on_lists w threaded packages limit) by.accessor l (go l)) (borrowing (at_places w threaded packages limit) by.accessor l (to l)) e
        (λ i. meets_counted w Are (May scope expected) (IsStobj scope) s t (borrowing (on_lists w threaded packages limit) by.accessor l (go l) (one_more_call s)) (borrowing (at_places w threaded packages limit) by.accessor l (to l) (one_more_call t))
        (subst (λ (m : StobjList ℕ). Meet w Are (May scope expected) (IsStobj scope) (one_more_call s) (one_more_call t)
        (if is_reached l.index (item l.field m) then go l (one_more_call s) else stops_here (Guard by.accessor (loan_values l)) (one_more_call s))
        (borrowing (at_places w threaded packages limit) by.accessor l (to l) (one_more_call t))) (sym same)
        (subst (λ (m : StobjList ℕ). Meet w Are (May scope expected) (IsStobj scope) (one_more_call s) (one_more_call t)
        (if is_reached l.index (item l.field parent) then go l (one_more_call s) else stops_here (Guard by.accessor (loan_values l)) (one_more_call s))
        (if is_reached l.index (item l.field m) then to l (one_more_call t) else stops_here (Guard by.accessor (loan_values l)) (one_more_call t))) (sym same ∙ stands.same p stobj)
        (by_test (is_reached l.index (item l.field parent)) refl i)))))
      where
        l : Loan ℕ
        l = loan_of (on_lists w threaded packages limit) x p by variables

        by_test : (b : Bool) → is_reached l.index (item l.field parent) ≡ b → AreSame (one_more_call s) (one_more_call t)
            → Meet w Are (May scope expected) (IsStobj scope) (one_more_call s) (one_more_call t) (if b then go l (one_more_call s) else stops_here (Guard by.accessor (loan_values l)) (one_more_call s))
            (if b then to l (one_more_call t) else stops_here (Guard by.accessor (loan_values l)) (one_more_call t))
        by_test true f i = k f i
        by_test false f i = meets_stop w Are (May scope expected) (IsStobj scope) (one_more_call s) (one_more_call t) (Guard by.accessor (loan_values l)) i

    meets_borrowed : (names : List ℕ) (forms : Cores) (bs : List BoundChild) (done : List (Loan ℕ)) (Are : List (Shown ℕ) → Type 0) (expected : List Out)
        (go : List (Loan ℕ) → State ℕ → Outcome ℕ) (to : List (Loan ℕ) → StateOf (Store ℕ) → OutcomeOf ℕ (Store ℕ)) (s : State ℕ) (t : StateOf (Store ℕ))
        → bound_children c names forms ≡ Some bs → AreBound c p bs → list_of s.stobjs p ≡ parent → Stands w scope s.stobjs t.stobjs → AreSame s t
        → ((ls all : List (Loan ℕ)) (u : State ℕ) (v : StateOf (Store ℕ)) → AreLoans w p parent bs ls → all ≡ done ++ ls → list_of u.stobjs p ≡ parent → Stands w scope u.stobjs v.stobjs → AreSame u v
        → Meet w Are (May scope expected) (IsStobj scope) u v (go all u) (to all v))
        → Meet w Are (May scope expected) (IsStobj scope) s t (all_borrowed (on_lists w threaded packages limit) names forms variables done go s) (all_borrowed (at_places w threaded packages limit) names forms variables done to t)
    unfolding all_borrowed
    meets_borrowed [] none bs done Are expected go to s t bind a same stands e k =
        k [] done s t (subst (λ (m : List BoundChild). AreLoans w p parent m []) (some_same bind) tt) (append_none done) same stands e
    meets_borrowed [] (more f fs) bs done Are expected go to s t bind a same stands e k = none_some bind
    meets_borrowed (x ∷ xs) none bs done Are expected go to s t bind a same stands e k = none_some bind
    meets_borrowed (x ∷ xs) (more f fs) bs done Are expected go to s t bind a same stands e k =
        let is : AreBindings c x xs f fs bs = bindings_are c x xs f fs bs bind in
        let all : AreBound c p (is.first ∷ is.others) = subst (AreBound c p) is.all a in
        let l : Loan ℕ = loan_of (on_lists w threaded packages limit) x p is.is.by variables in
        let from : variable_in by_number variables is.is.by.parent ≡ StobjNamed p = ap (variable_in by_number variables) (sym is.is.parent ∙ all.0) ∙ shown in
        subst (λ (r : Option Reached). Meet w Are (May scope expected) (IsStobj scope) s t
        (borrowed (on_lists w threaded packages limit) x r variables (λ loan after. all_borrowed (on_lists w threaded packages limit) xs fs variables (done ++ loan ∷ []) go after) s)
        (borrowed (at_places w threaded packages limit) x r variables (λ loan after. all_borrowed (at_places w threaded packages limit) xs fs variables (done ++ loan ∷ []) to after) t))
        (sym is.is.called)
        (meets_one x is.is.by Are expected (λ loan after. all_borrowed (on_lists w threaded packages limit) xs fs variables (done ++ loan ∷ []) go after)
        (λ loan after. all_borrowed (at_places w threaded packages limit) xs fs variables (done ++ loan ∷ []) to after) s t from same stands e
        (λ reached_it e. meets_borrowed xs fs is.others (done ++ l ∷ []) Are expected go to (one_more_call s) (one_more_call t) is.later all.3 same stands e
        (λ ls every u v loans q same_list stands_then same_then.
        k (l ∷ ls) every u v
        (subst (λ (m : List BoundChild). AreLoans w p parent m (l ∷ ls)) (sym is.all)
        (loan_is x f is.first is.is all.0 (suits.layouts is.first.accessor.stobj p all.1) (suits.layouts (child_stobj is.first.accessor.holds) is.first.name all.2) reached_it, loans))
        (q ∙ append_assoc done (l ∷ []) ls) same_list stands_then same_then)))

  -- the parent of the rule is the stobj of its variable
  pub parent_is : (p : ℕ) → is_stobj (kind_of scope p) ≡ true → IsStobj scope p × (variable_in by_number variables p ≡ StobjNamed p)
  parent_is p e = go (kind_in scope p) refl e
    where
      go : (k : Option Out) → kind_in scope p ≡ k → is_stobj (unwrap_or k Ordinary) ≡ true → IsStobj scope p × (variable_in by_number variables p ≡ StobjNamed p)
      go None i j = false_true j
      go (Some Ordinary) i j = false_true j
      go (Some (worlds.Stobj z)) i j =
          let is : IsOfKind p (worlds.Stobj z) (variable_in by_number variables p) = are.each p (worlds.Stobj z) i in
          (i ∙ ap (λ (y : ℕ). Some (worlds.Stobj y)) is.0, is.1)

  pub meets_stobj_let : (names : List ℕ) (forms : Cores) (vars : List ℕ) (producer consumer : Core) (formal : Option ℕ) (expected : List Out) (s : State ℕ) (t : StateOf (Store ℕ))
      → Accepted c mode scope (StobjLet names forms vars producer consumer) formal expected → IsFormed c producer → IsFormed c consumer → Stands w scope s.stobjs t.stobjs → AreSame s t
      → Meet w (AreOutputs scope expected) (May scope expected) (IsStobj scope) s t
      (all_borrowed (on_lists w threaded packages limit) names forms variables [] (with_loans (on_lists w threaded packages limit) ev vars producer consumer variables) s)
      (all_borrowed (at_places w threaded packages limit) names forms variables [] (with_loans (at_places w threaded packages limit) el vars producer consumer variables) t)
  meets_stobj_let names forms vars producer consumer formal expected s t all formed_producer formed_consumer stands e =
      let holds : StobjLetHolds c scope expected names forms vars
      = stobj_let_is c scope expected names forms vars (not_false (stobj_let_holds c scope expected names forms vars) (s13 c mode (here (StobjLet names forms vars producer consumer) scope formal expected) n all.0)) in
      let p : ℕ = holds.parent in
      let parent : IsStobj scope p × (variable_in by_number variables p ≡ StobjNamed p) = parent_is p holds.stobj in
      let parts : Accepted c mode (producer_scope c scope (parent_in forms) names) producer None (name_kinds c vars) × Accepted c mode (consumer_scope c scope names vars) consumer None expected
      = of_stobj_let c mode scope formal expected names forms vars producer consumer all in
      meets_borrowed p (list_of s.stobjs p) parent.0 parent.1 names forms holds.bs [] (AreOutputs scope expected) expected
      (with_loans (on_lists w threaded packages limit) ev vars producer consumer variables) (with_loans (at_places w threaded packages limit) el vars producer consumer variables) s t
      holds.bound holds.all refl stands e
      (λ ls every u v loans q same_list stands_then same_then.
      subst (λ (ms : List (Loan ℕ)). Meet w (AreOutputs scope expected) (May scope expected) (IsStobj scope) u v
      (with_loans (on_lists w threaded packages limit) ev vars producer consumer variables ms u) (with_loans (at_places w threaded packages limit) el vars producer consumer variables ms v)) (sym q)
      (meets_loans names forms vars producer consumer expected holds parent.0 (subst (λ (m : Option ℕ). Accepted c mode (producer_scope c scope m names) producer None (name_kinds c vars)) holds.first parts.0) parts.1 formed_producer formed_consumer
      ls u v (subst (λ (m : StobjList ℕ). AreLoans w p m holds.bs ls) (sym same_list) loans) stands_then same_then))
    where
      meets_loans : (names : List ℕ) (forms : Cores) (vars : List ℕ) (producer consumer : Core) (expected : List Out) (holds : StobjLetHolds c scope expected names forms vars) → IsStobj scope holds.parent
          → Accepted c mode (producer_scope c scope (Some holds.parent) names) producer None (name_kinds c vars) → Accepted c mode (consumer_scope c scope names vars) consumer None expected
          → IsFormed c producer → IsFormed c consumer
          → (ls : List (Loan ℕ)) (u : State ℕ) (v : StateOf (Store ℕ)) → AreLoans w holds.parent (list_of u.stobjs holds.parent) holds.bs ls → Stands w scope u.stobjs v.stobjs → AreSame u v
          → Meet w (AreOutputs scope expected) (May scope expected) (IsStobj scope) u v
          (with_loans (on_lists w threaded packages limit) ev vars producer consumer variables ls u) (with_loans (at_places w threaded packages limit) el vars producer consumer variables ls v)
      meets_loans names forms vars producer consumer expected holds stobj first second formed_producer formed_consumer ls u v loans stands e = by_twins (are_twins by_number ls) refl
        where
          p : ℕ
          p = holds.parent

          inside : Scope
          inside = producer_scope c scope (Some p) names

          same_names : children ls ≡ names
          same_names = loan_names w p (list_of u.stobjs p) (stands.fits p stobj) holds.bs ls loans ∙ names_bound c names forms holds.bs holds.bound

          stobjs : (x : ℕ) → has names x ≡ true → is_stobj_name c x ≡ true
          stobjs x i = bound_names c p holds.bs x holds.all (ap (λ (ns : List ℕ). has ns x) (names_bound c names forms holds.bs holds.bound) ∙ i)

          by_twins : (b : Bool) → are_twins by_number ls ≡ b
              → Meet w (AreOutputs scope expected) (May scope expected) (IsStobj scope) u v
              (if b then stops_here (Guard stobj_let_word (indices ls)) u else then_with (producing (on_lists w threaded packages limit) ev vars producer variables ls u) (λ values after. ev consumer (bound vars values variables) after))
              (if b then stops_here (Guard stobj_let_word (indices ls)) v else then_with (producing (at_places w threaded packages limit) el vars producer variables ls v) (λ values after. el consumer (bound vars values variables) after))
          by_twins true f = meets_stop w (AreOutputs scope expected) (May scope expected) (IsStobj scope) u v (Guard stobj_let_word (indices ls)) e
          by_twins false f =
              let lends : AreLent w p (list_of u.stobjs p) ls = are_lent w p (list_of u.stobjs p) (stands.fits p stobj) holds.bs ls loans holds.distinct holds.twice f in
              let first_then : ((x : ℕ) → May inside (name_kinds c vars) x → (has vars x ≡ true) × (has (children ls) x ≡ true) × May scope expected p)
              = λ x i.
              let named : (has vars x ≡ true) × (is_stobj_name c x ≡ true) = both_true (has vars x) (is_stobj_name c x) (sym (has_object c vars x) ∙ i.0) in
              let child : has names x ≡ true = holds.children_only x named.0 named.1 in
              (named.0, ap (λ (ns : List ℕ). has ns x) same_names ∙ child, (holds.parent_out x named.0 child, stobj)) in
              meets_then w (AreOutputs inside (name_kinds c vars)) (AreOutputs scope expected) (May scope expected) (May scope expected) (IsStobj scope) u v
              (producing (on_lists w threaded packages limit) ev vars producer variables ls u) (producing (at_places w threaded packages limit) el vars producer variables ls v)
              (λ values after. ev consumer (bound vars values variables) after) (λ values after. el consumer (bound vars values variables) after)
              (λ x i. i) (λ x i. i.1)
              (meets_given_back w threaded packages limit scope p stobj u v stands ls lends (AreOutputs inside (name_kinds c vars)) (May inside (name_kinds c vars)) (IsStobj inside) (May scope expected) vars first_then
              (producer_objects c scope p names ls same_names)
              (ev producer (loaned_variables (on_lists w threaded packages limit) ls variables) (lending (on_lists w threaded packages limit) ls u)) (el producer (loaned_variables (at_places w threaded packages limit) ls variables) (lending (at_places w threaded packages limit) ls v))
              (h.meets c mode inside producer None (name_kinds c vars) suits n first formed_producer (loaned_variables (on_lists w threaded packages limit) ls variables)
              (lent_s w threaded packages limit scope p stobj u v stands ls lends) (lent_t w threaded packages limit scope p stobj u v stands ls lends)
              (producer_variables c scope p names ls same_names variables stobjs are)
              (stands_lent w scope inside p stobj u.stobjs v.stobjs ls stands lends (producer_objects c scope p names ls same_names))
              (record { symbols = e.symbols; calls = e.calls; outer = e.outer })))
              (λ vs x y a moves.
              let still : Stands w scope x.stobjs y.stobjs = stands_moved w scope (May scope expected) u v x y (λ z i. i.1) stands moves in
              let smaller : ((z : ℕ) → IsStobj (consumer_scope c scope names vars) z → IsStobj scope z) = λ z i. consumer_objects c scope p names ls same_names inside vars vs variables a z i in
              meets_wider w (AreOutputs (consumer_scope c scope names vars) expected) (AreOutputs scope expected) (May (consumer_scope c scope names vars) expected) (IsStobj (consumer_scope c scope names vars)) (May scope expected) (IsStobj scope) x y
              (ev consumer (bound vars vs variables) x) (el consumer (bound vars vs variables) y)
              (λ us o. outputs_wider (consumer_scope c scope names vars) scope expected us smaller o) (λ z i. (i.0, smaller z i.1)) smaller
              (h.meets c mode (consumer_scope c scope names vars) consumer None expected suits n second formed_consumer (bound vars vs variables) x y
              (consumer_variables c scope p names ls same_names inside vars vs variables a are) (stands_less w (consumer_scope c scope names vars) scope x.stobjs y.stobjs smaller still) moves.same))
