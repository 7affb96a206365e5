-- An evaluation with a smaller limit of calls is the one with a larger limit, or was cut.
use Rattle.std.proofs.Common.{◌≡◌, ℕ, zero, suc, ◌≤◌, List, [], ◌∷◌, ◌++◌, drop, Bool, true, false, Option, Some, None, refl, ap, arith, inl, inr}
use Rattle.std.specs.Prelude.{nat_lt, nat_eq, if◌then◌else◌}
use Rattle.std.specs.List.{list_any}
use Rattle.std.proofs.lemmas.Bool.Decides.{nat_tests}
use Rattle.model_lists.specs.Lists.{StobjList, item}
use Rattle.model_terms.specs.Cores.{Core, Cores, Reached, Var, Const, If, Let, Mv, MvLet, StobjLet, WithLocal, MustBeEqual, Call, none, more, reached}
use Rattle.model_terms.specs.Worlds.{Definition, FunctionOfAbstract, definition, Primitive, Defined, Macro, Constant, Concrete, Generated, Abstract, OfAbstract, Named, Signed}
use Rattle.model_terms.specs.declared.role.AbstractRole.{AbstractRole}
use Rattle.model_terms.specs.declared.role.AbstractRole.TheVariants as abstract_role
use Rattle.model_eval.specs.Outcomes.{Shown, Plain, StobjNamed, Stop, Guard, Steps, Stobjs, State, Outcome, Gives, Stops, Unknown, then_with, with_state, cut_at, one_more_call, counting, stops_here}
use Rattle.model_eval.specs.Variables.{Variables, variable_in, bound, single, inner_variables, list_of}
use Rattle.model_eval.specs.Lending.{Loan, is_reached, loan_values, are_twins, put_into_parent}
use Rattle.model_eval.specs.ListsKeeping.{inner_state, outer_state, back, returned}
use Rattle.model_eval.specs.Evaluated.{Rules, Evaluator, is_false, scoped, with_guard, of_abstract, by_definition, exec_called, called, in_order, leaf, leaf_or, loan_of, borrowing, borrowed_from, borrowed, all_borrowed, put_back, lending, loaned_variables, producing, with_loans, with_fresh, opened, evaluated}
use Rattle.model_eval_laws.specs.Laws.{IsSteps}
use Rattle.model_eval_laws.specs.Counting.{Counts}
use Rattle.model_eval_laws.specs.Cutting.{Cuts}
use Rattle.model_eval_laws.proofs.Counts.{grown_same, grown_objects, GoCounts, counts_cut, counts_then, counts_objects, counts_counting, RulesCount, counts_scoped, counts_abstract, counts_definition, counts_exec, counts_called, counts_in_order, counts_all_borrowed, counts_put_back, counts_with_loans, counts_fresh, counts_evaluated, counts_if}

pub below_larger : (n k limit : ℕ) → k ≤ limit → nat_lt n k ≡ true → nat_lt n limit ≡ true
below_larger n k limit h e = grind (arith, nat_tests)

module _ {S : Type 0} (limit : ℕ) where
  -- ---- outcomes

  pub cuts_same : (r : Outcome S) → Cuts limit r r
  cuts_same (Gives values state) = refl
  cuts_same (Stops stop origin state) = inr refl
  cuts_same Unknown = refl

  cuts_then : (r s : Outcome S) (go to : List (Shown S) → State S → Outcome S) → Cuts limit r s → ((values : List (Shown S)) (state : State S) → Cuts limit (go values state) (to values state)) → ((values : List (Shown S)) → GoCounts limit (to values)) → Cuts limit (then_with r go) (then_with s to)
  cuts_then (Gives values state) s go to e h c = rw e (h values state)
  cuts_then (Stops stop origin state) s go to (inl x) h c = inl (x.0, counts_then limit state s to x.1 c)
  cuts_then (Stops stop origin state) s go to (inr e) h c = inr (ap (λ y. then_with y to) e)
  cuts_then Unknown s go to e h c = ap (λ y. then_with y to) e

  -- the lists do not matter
  counts_moved : (a : State S) (os : Stobjs S) (r : Outcome S) (change : State S → Stobjs S) → Counts limit a r → Counts limit (record a { stobjs = os }) (with_state (λ s. record s { stobjs = change s }) r)
  counts_moved a os (Gives values s) change h = grown_objects limit (record a { stobjs = os }) s a.stobjs (change s) h
  counts_moved a os (Stops stop origin s) change h = (grown_objects limit (record a { stobjs = os }) s a.stobjs (change s) h.0, h.1)
  counts_moved a os Unknown change h = h

  cuts_state : (change : State S → Stobjs S) (r s : Outcome S) → Cuts limit r s → Cuts limit (with_state (λ s. record s { stobjs = change s }) r) (with_state (λ s. record s { stobjs = change s }) s)
  cuts_state change (Gives values state) s e = ap (with_state (λ s. record s { stobjs = change s })) e
  cuts_state change (Stops stop origin state) s (inl x) = inl (x.0, counts_moved state (change state) s change x.1)
  cuts_state change (Stops stop origin state) s (inr e) = inr (ap (with_state (λ s. record s { stobjs = change s })) e)
  cuts_state change Unknown s e = ap (with_state (λ s. record s { stobjs = change s })) e

  moved_back : (formals : List ℕ) (actuals : List (Shown S)) (before a : State S) (r : Outcome S) → Counts limit a r → Counts limit (outer_state formals actuals before a) (back formals actuals before r)
  moved_back formals actuals before a (Gives values s) h = grown_objects limit (outer_state formals actuals before a) s a.stobjs _ h
  moved_back formals actuals before a (Stops stop origin s) h = (grown_objects limit (outer_state formals actuals before a) s a.stobjs _ h.0, h.1)
  moved_back formals actuals before a Unknown h = h

  cuts_back : (formals : List ℕ) (actuals : List (Shown S)) (before : State S) (r s : Outcome S) → Cuts limit r s → Cuts limit (back formals actuals before r) (back formals actuals before s)
  cuts_back formals actuals before (Gives values state) s e = ap (back formals actuals before) e
  cuts_back formals actuals before (Stops stop origin state) s (inl x) = inl (x.0, moved_back formals actuals before state s x.1)
  cuts_back formals actuals before (Stops stop origin state) s (inr e) = inr (ap (back formals actuals before) e)
  cuts_back formals actuals before Unknown s e = ap (back formals actuals before) e

  moved_returned : (loans : List (Loan S)) (a : State S) (os : Stobjs S) (r : Outcome S) → Counts limit a r → Counts limit (record a { stobjs = os }) (returned loans r)
  moved_returned loans a os (Gives values s) h = grown_objects limit (record a { stobjs = os }) s a.stobjs _ h
  moved_returned loans a os (Stops stop origin s) h = (grown_objects limit (record a { stobjs = os }) s a.stobjs _ h.0, h.1)
  moved_returned loans a os Unknown h = h

  cuts_returned : (loans : List (Loan S)) (r s : Outcome S) → Cuts limit r s → Cuts limit (returned loans r) (returned loans s)
  cuts_returned loans (Gives values state) s e = ap (returned loans) e
  cuts_returned loans (Stops stop origin state) s (inl x) = inl (x.0, moved_returned loans state _ s x.1)
  cuts_returned loans (Stops stop origin state) s (inr e) = inr (ap (returned loans) e)
  cuts_returned loans Unknown s e = ap (returned loans) e

  cuts_at : (n : ℕ) (r s : Outcome S) → Cuts limit r s → Cuts limit (cut_at n r) (cut_at n s)
  cuts_at n (Gives values state) s e = ap (cut_at n) e
  cuts_at n (Stops stop origin state) s (inl x) = inl (x.0, counts_cut limit n state s x.1)
  cuts_at n (Stops stop origin state) s (inr e) = inr (ap (cut_at n) e)
  cuts_at n Unknown s e = ap (cut_at n) e

  cuts_if : (b : Bool) (r s t u : Outcome S) → Cuts limit r t → Cuts limit s u → Cuts limit (if b then r else s) (if b then t else u)
  cuts_if true r s t u e f = e
  cuts_if false r s t u e f = f

  abbrev pub ToCuts : (State S → Outcome S) → (State S → Outcome S) → Type 0
  ToCuts go to = (state : State S) → Cuts limit (go state) (to state)

  pub cuts_counting : (k : ℕ) → k ≤ limit → (state : State S) (go to : State S → Outcome S) → ToCuts go to → GoCounts limit to → Cuts limit (counting k state go) (counting limit state to)
  cuts_counting k larger state go to h c = by_test (nat_lt state.calls k) refl
    where
      by_test : (b : Bool) → nat_lt state.calls k ≡ b → Cuts limit (if b then go (one_more_call state) else stops_here Steps state) (counting limit state to)
      by_test true e = rw (below_larger state.calls k limit larger e) (h (one_more_call state))
      by_test false e = inl (tt, counts_counting limit state to c)

module _ {S : Type 0} (r : Rules S) (limit : ℕ) (larger : r.limit ≤ limit) (export : FunctionOfAbstract → List (Shown S) → Stobjs S → (State S → Outcome S) → State S → Outcome S) where
  abbrev pub longer_rules : Rules S
  longer_rules = record { world = r.world; limit = limit; kind = r.kind; see = r.see; primitive = r.primitive; fresh = r.fresh; export = export }

  abbrev pub ExportsCut : Type 0
  ExportsCut = (f : FunctionOfAbstract) (values : List (Shown S)) (before : Stobjs S) (go to : State S → Outcome S) → ToCuts limit go to → GoCounts limit to → ToCuts limit (r.export f values before go) (export f values before to)

  module _ (x : ExportsCut) (g : RulesCount longer_rules) where
    abbrev EvCuts : Evaluator S → Evaluator S → Type 0
    EvCuts ev eu = (form : Core) (variables : Variables S) (state : State S) → Cuts limit (ev form variables state) (eu form variables state)

    abbrev EvCounts : Evaluator S → Type 0
    EvCounts eu = (form : Core) (variables : Variables S) (state : State S) → Counts limit state (eu form variables state)

    stopped : (state : State S) (stop : Stop S) → (IsSteps stop → ⊥) → Counts limit state (stops_here stop state)
    stopped state stop n = (grown_same limit state, λ q. absurd (n q))

    -- ---- calls

    cuts_scoped : (ev eu : Evaluator S) (formals : List ℕ) (values : List (Shown S)) (form : Core) → EvCuts ev eu → ToCuts limit (scoped r ev formals values form) (scoped longer_rules eu formals values form)
    cuts_scoped ev eu formals values form h state = cuts_back limit formals values state _ _ (h form (inner_variables formals values) (inner_state formals values state))

    cuts_guarded : (ev eu : Evaluator S) (name : ℕ) (formals : List ℕ) (guard : Core) (values : List (Shown S)) (go to : State S → Outcome S) → EvCuts ev eu → ToCuts limit go to → GoCounts limit to → ToCuts limit (with_guard r ev name formals guard values go) (with_guard longer_rules eu name formals guard values to)
    cuts_guarded ev eu name formals guard values go to h k c state =
        cuts_then limit _ _ _ _ (cuts_scoped ev eu formals values guard h state)
        (λ test after. cuts_if limit (is_false r test) _ _ _ _ (inr refl) (k after))
        (λ test after. counts_if limit after (is_false r test) _ _ (stopped after (Guard name values) (λ q. q)) (c after))

    cuts_abstract : (ev eu : Evaluator S) (exec to : ℕ → State S → Outcome S) (f : FunctionOfAbstract) (role : AbstractRole) (values : List (Shown S)) → EvCuts ev eu → ToCuts limit (exec f.exec) (to f.exec) → GoCounts limit (to f.exec) → ToCuts limit (of_abstract r ev exec f role values) (of_abstract longer_rules eu to f role values)
    cuts_abstract ev eu exec to f abstract_role.Recognizer values h k c state = refl
    cuts_abstract ev eu exec to f abstract_role.Creator values h k c state = inr refl
    cuts_abstract ev eu exec to f abstract_role.Export values h k c state =
        cuts_at limit state.outer _ _
        (cuts_guarded ev eu f.name f.formals f.guard values _ _ h
        (x f values state.stobjs (exec f.exec) (to f.exec) k c) (g.exports f values state.stobjs (to f.exec) c) state)

    cuts_definition : (ev eu : Evaluator S) (go to : FunctionOfAbstract → State S → Outcome S) (d : Option Definition) (name : ℕ) (values : List (Shown S)) → EvCuts ev eu → EvCounts eu → ((f : FunctionOfAbstract) → ToCuts limit (go f) (to f)) → ToCuts limit (by_definition r ev go d name values) (by_definition longer_rules eu to d name values)
    cuts_definition ev eu go to None name values h c k state = inr refl
    cuts_definition ev eu go to (Some (Primitive f row)) name values h c k state = cuts_same limit _
    cuts_definition ev eu go to (Some (Defined f)) name values h c k state =
        cuts_guarded ev eu f.name f.formals f.guard values _ _ h (cuts_scoped ev eu f.formals values f.body h) (counts_scoped longer_rules g eu f.formals values f.body c) state
    cuts_definition ev eu go to (Some (Macro f formals body)) name values h c k state = inr refl
    cuts_definition ev eu go to (Some (Constant f value)) name values h c k state = inr refl
    cuts_definition ev eu go to (Some (Concrete d class)) name values h c k state = inr refl
    cuts_definition ev eu go to (Some (Generated f)) name values h c k state = cuts_same limit _
    cuts_definition ev eu go to (Some (Abstract d)) name values h c k state = inr refl
    cuts_definition ev eu go to (Some (OfAbstract f)) name values h c k state = k f state
    cuts_definition ev eu go to (Some (Named f formals)) name values h c k state = inr refl
    cuts_definition ev eu go to (Some (Signed f formals signature executable)) name values h c k state = inr refl

    cuts_exec : (ev eu : Evaluator S) (values : List (Shown S)) (name : ℕ) → EvCuts ev eu → EvCounts eu → ToCuts limit (exec_called r ev values name) (exec_called longer_rules eu values name)
    unfolding exec_called
    cuts_exec ev eu values name h c state = cuts_definition ev eu _ _ (definition r.world name) name values h c (λ f after. inr refl) state

    cuts_called : (ev eu : Evaluator S) (name : ℕ) (values : List (Shown S)) → EvCuts ev eu → EvCounts eu → ToCuts limit (called r ev name values) (called longer_rules eu name values)
    unfolding called
    cuts_called ev eu name values h c state =
        cuts_counting limit r.limit larger state _ _
        (cuts_definition ev eu _ _ (definition r.world name) name values h c
        (λ f. cuts_abstract ev eu (exec_called r ev values) (exec_called longer_rules eu values) f f.role values h (cuts_exec ev eu values f.exec h c) (counts_exec longer_rules g eu values f.exec c)))
        (counts_definition longer_rules g eu _ (definition r.world name) name values c (λ f. counts_abstract longer_rules g eu (exec_called longer_rules eu values) f f.role values c (counts_exec longer_rules g eu values f.exec c)))

    -- ---- parts

    cuts_in_order : (ev eu : Evaluator S) (forms : Cores) (variables : Variables S) (done : List (Shown S)) (go to : List (Shown S) → State S → Outcome S) → EvCuts ev eu → EvCounts eu → ((values : List (Shown S)) → ToCuts limit (go values) (to values)) → ((values : List (Shown S)) → GoCounts limit (to values)) → ToCuts limit (in_order r ev forms variables done go) (in_order longer_rules eu forms variables done to)
    unfolding in_order
    cuts_in_order ev eu none variables done go to h c k q state = k done state
    cuts_in_order ev eu (more form forms) variables done go to h c k q state =
        cuts_then limit _ _ _ _ (h form variables state)
        (λ values after. cuts_in_order ev eu forms variables (done ++ single r.kind values ∷ []) go to h c k q after)
        (λ values. counts_in_order longer_rules g eu forms variables (done ++ single r.kind values ∷ []) to c q)

    -- ---- children

    cuts_borrowed_from : (child : ℕ) (by : Reached) (p : Shown S) (variables : Variables S) (go to : Loan S → State S → Outcome S) → ((loan : Loan S) → ToCuts limit (go loan) (to loan)) → ((loan : Loan S) → GoCounts limit (to loan)) → ToCuts limit (borrowed_from r child by p variables go) (borrowed_from longer_rules child by p variables to)
    cuts_borrowed_from child by (Plain o) variables go to k c state = inr refl
    cuts_borrowed_from child by (StobjNamed p) variables go to k c state =
        let loan = loan_of r child p by variables in
        cuts_counting limit r.limit larger state (borrowing r by.accessor loan (go loan)) (borrowing longer_rules by.accessor loan (to loan))
        (λ after. cuts_if limit (is_reached loan.index (item loan.field (list_of after.stobjs loan.parent))) _ _ _ _ (k loan after) (inr refl))
        (λ after. counts_if limit after (is_reached loan.index (item loan.field (list_of after.stobjs loan.parent))) (to loan after) _ (c loan after) (stopped after (Guard by.accessor (loan_values loan)) (λ q. q)))

    cuts_borrowed : (child : ℕ) (by : Option Reached) (variables : Variables S) (go to : Loan S → State S → Outcome S) → ((loan : Loan S) → ToCuts limit (go loan) (to loan)) → ((loan : Loan S) → GoCounts limit (to loan)) → ToCuts limit (borrowed r child by variables go) (borrowed longer_rules child by variables to)
    cuts_borrowed child None variables go to k c state = inr refl
    cuts_borrowed child (Some by) variables go to k c state = cuts_borrowed_from child by (variable_in r.kind variables by.parent) variables go to k c state

    cuts_all_borrowed : (names : List ℕ) (forms : Cores) (variables : Variables S) (loans : List (Loan S)) (go to : List (Loan S) → State S → Outcome S) → ((ls : List (Loan S)) → ToCuts limit (go ls) (to ls)) → ((ls : List (Loan S)) → GoCounts limit (to ls)) → ToCuts limit (all_borrowed r names forms variables loans go) (all_borrowed longer_rules names forms variables loans to)
    unfolding all_borrowed
    cuts_all_borrowed names none variables loans go to k c state = k loans state
    cuts_all_borrowed [] (more form forms) variables loans go to k c state = k loans state
    cuts_all_borrowed (y ∷ ys) (more form forms) variables loans go to k c state =
        cuts_borrowed y (reached form) variables _ _
        (λ loan after. cuts_all_borrowed ys forms variables (loans ++ loan ∷ []) go to k c after)
        (λ loan. counts_all_borrowed longer_rules g ys forms variables (loans ++ loan ∷ []) to c) state

    cuts_put_back : (vars : List ℕ) (loans : List (Loan S)) (go to : State S → Outcome S) → ToCuts limit go to → GoCounts limit to → ToCuts limit (put_back r vars loans go) (put_back longer_rules vars loans to)
    unfolding put_back
    cuts_put_back vars [] go to k c state = k state
    cuts_put_back vars (l ∷ ls) go to k c state =
        cuts_if limit (list_any (nat_eq l.child) vars) _ _ _ _
        (cuts_counting limit r.limit larger state _ _
        (λ after. cuts_put_back vars ls go to k c (record after { stobjs = put_into_parent l after.stobjs }))
        (λ after. counts_objects limit after _ _ (counts_put_back longer_rules g vars ls to c (record after { stobjs = put_into_parent l after.stobjs }))))
        (cuts_put_back vars ls go to k c state)

    cuts_producing : (ev eu : Evaluator S) (vars : List ℕ) (producer : Core) (variables : Variables S) (loans : List (Loan S)) → EvCuts ev eu → ToCuts limit (producing r ev vars producer variables loans) (producing longer_rules eu vars producer variables loans)
    cuts_producing ev eu vars producer variables loans h state =
        cuts_returned limit loans _ _
        (cuts_then limit _ _ _ _ (h producer (loaned_variables r loans variables) (lending r loans state))
        (λ values after. cuts_put_back vars loans (Gives values) (Gives values) (λ last. refl) (λ last. grown_same limit last) after)
        (λ values. counts_put_back longer_rules g vars loans (Gives values) (λ last. grown_same limit last)))

    cuts_with_loans : (ev eu : Evaluator S) (vars : List ℕ) (producer consumer : Core) (variables : Variables S) (loans : List (Loan S)) → EvCuts ev eu → EvCounts eu → ToCuts limit (with_loans r ev vars producer consumer variables loans) (with_loans longer_rules eu vars producer consumer variables loans)
    cuts_with_loans ev eu vars producer consumer variables loans h c state =
        cuts_if limit (are_twins r.kind loans) _ _ _ _ (inr refl)
        (cuts_then limit _ _ _ _ (cuts_producing ev eu vars producer variables loans h state)
        (λ values after. h consumer (bound vars values variables) after)
        (λ values after. c consumer (bound vars values variables) after))

    cuts_fresh : (ev eu : Evaluator S) (y : ℕ) (l : Option (StobjList S)) (producer : Core) (variables : Variables S) → EvCuts ev eu → ToCuts limit (with_fresh r ev y l producer variables) (with_fresh longer_rules eu y l producer variables)
    cuts_fresh ev eu y None producer variables h state = refl
    cuts_fresh ev eu y (Some l) producer variables h state = cuts_state limit (λ s. drop 1 s.stobjs) _ _ (h producer _ _)

    -- ---- forms

    cuts_opened : (ev eu : Evaluator S) → EvCuts ev eu → EvCounts eu → EvCuts (opened r ev) (opened longer_rules eu)
    cuts_opened ev eu h c (Var y) variables state = inr refl
    cuts_opened ev eu h c (Const o) variables state = inr refl
    cuts_opened ev eu h c (If a b d) variables state =
        cuts_then limit _ _ _ _ (h a variables state)
        (λ test after. h (if is_false r test then d else b) variables after) (λ test after. c (if is_false r test then d else b) variables after)
    cuts_opened ev eu h c (Let names forms body) variables state =
        cuts_in_order ev eu forms variables [] _ _ h c
        (λ values after. h body (bound names values variables) after) (λ values after. c body (bound names values variables) after) state
    cuts_opened ev eu h c (Mv parts) variables state =
        cuts_in_order ev eu parts variables [] _ _ h c (λ values after. refl) (λ values after. grown_same limit after) state
    cuts_opened ev eu h c (MvLet names form body) variables state =
        cuts_then limit _ _ _ _ (h form variables state)
        (λ values after. h body (bound names values variables) after) (λ values after. c body (bound names values variables) after)
    cuts_opened ev eu h c (StobjLet names forms vars producer consumer) variables state =
        cuts_all_borrowed names forms variables [] _ _
        (λ loans. cuts_with_loans ev eu vars producer consumer variables loans h c)
        (λ loans. counts_with_loans longer_rules g eu vars producer consumer variables loans c) state
    cuts_opened ev eu h c (WithLocal stobj names producer body) variables state =
        cuts_then limit _ _ _ _
        (cuts_counting limit r.limit larger state _ _ (cuts_fresh ev eu stobj (r.fresh stobj) producer variables h) (counts_fresh longer_rules g eu stobj (r.fresh stobj) producer variables c (g.known stobj)))
        (λ values after. h body (bound names values variables) after) (λ values after. c body (bound names values variables) after)
    cuts_opened ev eu h c (MustBeEqual logic exec) variables state = h logic variables state
    cuts_opened ev eu h c (Call f actuals) variables state =
        cuts_in_order ev eu actuals variables [] _ _ h c (λ values. cuts_called ev eu f values h c) (λ values. counts_called longer_rules g eu f values c) state

    cuts_leaf : (l : Option (Shown S)) (state : State S) (a b : Outcome S) → Cuts limit a b → Cuts limit (leaf_or r l state a) (leaf_or longer_rules l state b)
    cuts_leaf (Some v) state a b e = refl
    cuts_leaf None state a b e = e

    pub cuts_evaluated : (d : ℕ) → EvCuts (evaluated r d) (evaluated longer_rules d)
    unfolding evaluated
    cuts_evaluated zero form variables state = cuts_leaf (leaf r form variables) state _ _ (inr refl)
    cuts_evaluated (suc d) form variables state =
        cuts_leaf (leaf r form variables) state _ _
        (cuts_opened (evaluated r d) (evaluated longer_rules d) (cuts_evaluated d) (counts_evaluated longer_rules g d) form variables state)
