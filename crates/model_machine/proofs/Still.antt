-- Where no call is left, evaluation changes nothing, and stops in no export.
use Rattle.std.proofs.Common.{◌≡◌, ℕ, zero, suc, ◌≤◌, List, [], ◌∷◌, ◌++◌, length, Bool, true, false, Option, Some, None, refl, ap, ◌∙◌, subst, arith}
use Rattle.std.specs.Prelude.{nat_lt, nat_eq, if◌then◌else◌}
use Rattle.std.specs.List.{list_any}
use Rattle.std.proofs.lemmas.Bool.Decides.{nat_tests}
use Rattle.model_terms.specs.Cores.{Core, Cores, Reached, Var, Const, If, Let, Mv, MvLet, StobjLet, WithLocal, MustBeEqual, Call, none, more, reached}
use Rattle.model_eval.specs.Outcomes.{Shown, Plain, StobjNamed, StateOf, OutcomeOf, Gives, Stops, Unknown, then_with, counting}
use Rattle.model_eval.specs.Keeping.{Loan, Keeping, entering, leaving, handed, put_all, ending_loans, taken_back}
use Rattle.model_eval.specs.Variables.{Variables, variable_in, bound, single, inner_variables}
use Rattle.model_eval.specs.Lending.{are_twins}
use Rattle.model_eval.specs.Evaluated.{RulesOf, EvaluatorOf, is_false, scoped, called, in_order, leaf, leaf_or, lending, loaned_variables, borrowed_from, borrowed, all_borrowed, put_back, producing, with_loans, with_fresh, opened, evaluated}
use Rattle.model_machine.specs.Frames.{Then, ThenBody, ThenValues, ThenCall}
use Rattle.model_machine.specs.Stands.{running, after_parts}
use Rattle.model_machine.specs.Cutting.{IsSteady, with_limit}

pub none_left : (c n : ℕ) → c ≤ n → nat_lt n c ≡ false
none_left c n h = grind (arith, nat_tests)

-- a state with other stobjs, and with its own
same_objects : {O : Type 0} (state : StateOf O) (stobjs : O) → stobjs ≡ state.stobjs → record state { stobjs = stobjs } ≡ state
same_objects state stobjs e = rw e refl

-- an outcome has this state, and if it stopped, it stopped inside no export
abbrev pub RestsAt : {S O : Type 0} → StateOf O → OutcomeOf S O → Type 0
RestsAt state (Gives values after) = after ≡ state
RestsAt state (Stops stop origin after) = (origin.inside ≡ None) × (after ≡ state)
RestsAt state Unknown = ⊥

module _ {S O B : Type 0} {keeping : Keeping S O B} (steady : IsSteady keeping) (r : RulesOf keeping) (c : ℕ) where
  abbrev pub q : RulesOf keeping
  q = running (with_limit c r)

  still_then : (s : StateOf O) (o : OutcomeOf S O) (go : List (Shown S) → StateOf O → OutcomeOf S O) → RestsAt s o → ((values : List (Shown S)) → RestsAt s (go values s)) → RestsAt s (then_with o go)
  still_then s (Gives values after) go e h = rw e (h values)
  still_then s (Stops stop w after) go e h = e
  still_then s Unknown go e h = e

  pub still_if : (b : Bool) (s : StateOf O) (x y : OutcomeOf S O) → RestsAt s x → RestsAt s y → RestsAt s (if b then x else y)
  still_if true s x y e f = e
  still_if false s x y e f = f

  -- a form leaves the state, if no call is left
  abbrev pub Still : EvaluatorOf S O → Type 0
  Still ev = (form : Core) (variables : Variables S) (s : StateOf O) → c ≤ s.calls → RestsAt s (ev form variables s)

  pub still_called : (ev : EvaluatorOf S O) (f : ℕ) (values : List (Shown S)) (s : StateOf O) → c ≤ s.calls → RestsAt s (called q ev f values s)
  unfolding called
  still_called ev f values s h = rw (none_left c s.calls h) (refl, refl)

  pub still_in_order : (ev : EvaluatorOf S O) → Still ev → (forms : Cores) (variables : Variables S) (before : List (Shown S)) (go : List (Shown S) → StateOf O → OutcomeOf S O) (s : StateOf O) → c ≤ s.calls
      → ((values : List (Shown S)) → RestsAt s (go values s)) → RestsAt s (in_order q ev forms variables before go s)
  unfolding in_order
  still_in_order ev e none variables before go s h k = k before
  still_in_order ev e (more form forms) variables before go s h k =
      still_then s _ _ (e form variables s h) (λ values. still_in_order ev e forms variables (before ++ single r.kind values ∷ []) go s h k)

  still_borrowed_from : (child : ℕ) (by : Reached) (p : Shown S) (variables : Variables S) (go : Loan S → StateOf O → OutcomeOf S O) (s : StateOf O) → c ≤ s.calls → RestsAt s (borrowed_from q child by p variables go s)
  still_borrowed_from child by (Plain o) variables go s h = (refl, refl)
  still_borrowed_from child by (StobjNamed p) variables go s h = rw (none_left c s.calls h) (refl, refl)

  still_borrowed : (child : ℕ) (by : Option Reached) (variables : Variables S) (go : Loan S → StateOf O → OutcomeOf S O) (s : StateOf O) → c ≤ s.calls → RestsAt s (borrowed q child by variables go s)
  still_borrowed child None variables go s h = (refl, refl)
  still_borrowed child (Some by) variables go s h = still_borrowed_from child by (variable_in r.kind variables by.parent) variables go s h

  pub still_put_back : (vars : List ℕ) (loans : List (Loan S)) (values : List (Shown S)) (s : StateOf O) → c ≤ s.calls → RestsAt s (put_back q vars loans (Gives values) s)
  unfolding put_back
  still_put_back vars [] values s h = refl
  still_put_back vars (l ∷ ls) values s h = still_if (list_any (nat_eq l.child) vars) s _ _ (rw (none_left c s.calls h) (refl, refl)) (still_put_back vars ls values s h)

  pub all_same : (loans : List (Loan S)) (stobjs : O) → put_all keeping loans stobjs ≡ stobjs
  all_same [] stobjs = refl
  all_same (l ∷ ls) stobjs = rw (steady.puts l stobjs) (all_same ls stobjs)

  still_taken_back : (loans : List (Loan S)) (s : StateOf O) (o : OutcomeOf S O) → RestsAt s o → RestsAt (ending_loans keeping (length loans) s) (taken_back keeping loans o)
  still_taken_back loans s (Gives values after) e = ap (ending_loans keeping (length loans)) e
  still_taken_back loans s (Stops stop w after) e = (e.0, ap (ending_loans keeping (length loans)) (same_objects after _ (all_same loans after.stobjs) ∙ e.1))
  still_taken_back loans s Unknown e = e

  still_with_loans : (ev : EvaluatorOf S O) → Still ev → (vars : List ℕ) (producer consumer : Core) (variables : Variables S) (loans : List (Loan S)) (s : StateOf O) → c ≤ s.calls
      → RestsAt s (with_loans q ev vars producer consumer variables loans s)
  still_with_loans ev e vars producer consumer variables loans s h =
      still_if (are_twins r.kind loans) s _ _ (refl, refl)
      (still_then s _ _
      (subst (λ x. RestsAt x (producing q ev vars producer variables loans s)) (same_objects s _ (steady.lends loans s.stobjs))
      (still_taken_back loans (lending q loans s) _ (still_then (lending q loans s) _ _ (e producer (loaned_variables q loans variables) (lending q loans s) h) (λ values. still_put_back vars loans values (lending q loans s) h))))
      (λ values. e consumer (bound vars values variables) s h))

  pub still_all_borrowed : (ev : EvaluatorOf S O) → Still ev → (names : List ℕ) (forms : Cores) (variables : Variables S) (loans : List (Loan S)) (vars : List ℕ) (producer consumer : Core) (s : StateOf O) → c ≤ s.calls
      → RestsAt s (all_borrowed q names forms variables loans (with_loans q ev vars producer consumer variables) s)
  unfolding all_borrowed
  still_all_borrowed ev e names none variables loans vars producer consumer s h = still_with_loans ev e vars producer consumer variables loans s h
  still_all_borrowed ev e [] (more form forms) variables loans vars producer consumer s h = still_with_loans ev e vars producer consumer variables loans s h
  still_all_borrowed ev e (x ∷ xs) (more form forms) variables loans vars producer consumer s h = still_borrowed x (reached form) variables _ s h

  still_opened : (ev : EvaluatorOf S O) → Still ev → Still (opened q ev)
  still_opened ev e (Var x) variables s h = (refl, refl)
  still_opened ev e (Const o) variables s h = (refl, refl)
  still_opened ev e (If a b d) variables s h = still_then s _ _ (e a variables s h) (λ test. e (if is_false q test then d else b) variables s h)
  still_opened ev e (Let names forms body) variables s h = still_in_order ev e forms variables [] _ s h (λ values. e body (bound names values variables) s h)
  still_opened ev e (Mv parts) variables s h = still_in_order ev e parts variables [] Gives s h (λ values. refl)
  still_opened ev e (MvLet names form body) variables s h = still_then s _ _ (e form variables s h) (λ values. e body (bound names values variables) s h)
  still_opened ev e (StobjLet names forms vars producer consumer) variables s h = still_all_borrowed ev e names forms variables [] vars producer consumer s h
  still_opened ev e (WithLocal stobj names producer body) variables s h =
      still_then s (counting c s (with_fresh q ev stobj (r.fresh stobj) producer variables)) _ (rw (none_left c s.calls h) (refl, refl)) (λ values. e body (bound names values variables) s h)
  still_opened ev e (MustBeEqual logic exec) variables s h = e logic variables s h
  still_opened ev e (Call f actuals) variables s h = still_in_order ev e actuals variables [] (called q ev f) s h (λ values. still_called ev f values s h)

  still_leaf : (v : Option (Shown S)) (s : StateOf O) (o : OutcomeOf S O) → RestsAt s o → RestsAt s (leaf_or q v s o)
  still_leaf (Some v) s o e = refl
  still_leaf None s o e = e

  pub still_evaluated : (depth : ℕ) → Still (evaluated q depth)
  unfolding evaluated
  still_evaluated zero form variables s h = still_leaf (leaf q form variables) s _ (refl, refl)
  still_evaluated (suc d) form variables s h = still_leaf (leaf q form variables) s _ (still_opened (evaluated q d) (still_evaluated d) form variables s h)

  -- ---- calls and parts

  still_handed : (formals : List ℕ) (actuals : List (Shown S)) (behind : B) (s : StateOf O) (o : OutcomeOf S O) → RestsAt s o → RestsAt (leaving keeping formals actuals behind s) (handed keeping formals actuals behind o)
  still_handed formals actuals behind s (Gives values after) e = ap (leaving keeping formals actuals behind) e
  still_handed formals actuals behind s (Stops stop w after) e = (e.0, ap (leaving keeping formals actuals behind) e.1)
  still_handed formals actuals behind s Unknown e = e

  pub still_scoped : (ev : EvaluatorOf S O) → Still ev → (formals : List ℕ) (actuals : List (Shown S)) (form : Core) (s : StateOf O) → c ≤ s.calls → RestsAt s (scoped q ev formals actuals form s)
  still_scoped ev e formals actuals form s h =
      subst (λ x. RestsAt x (scoped q ev formals actuals form s)) (same_objects s _ (steady.returns formals actuals s.stobjs))
      (still_handed formals actuals (keeping.behind s.stobjs) (entering keeping formals actuals s) _ (e form (inner_variables formals actuals) (entering keeping formals actuals s) h))

  pub still_parts : (ev : EvaluatorOf S O) → Still ev → (variables : Variables S) (goal : Then) (values : List (Shown S)) (s : StateOf O) → c ≤ s.calls → RestsAt s (after_parts q ev variables goal values s)
  still_parts ev e variables (ThenBody names body) values s h = e body (bound names values variables) s h
  still_parts ev e variables ThenValues values s h = refl
  still_parts ev e variables (ThenCall f) values s h = still_called ev f values s h
