-- Evaluation with rules that know more lists and values keeps each outcome.
use Rattle.std.proofs.Common.{◌≡◌, ℕ, zero, suc, List, [], ◌∷◌, ◌++◌, Bool, true, false, Option, Some, None, refl, ap}
use Rattle.std.specs.Prelude.{nat_lt, nat_eq, if◌then◌else◌}
use Rattle.std.specs.List.{list_any}
use Rattle.model_lists.specs.Lists.{StobjList, item}
use Rattle.model_terms.specs.Cores.{Core, Cores, Reached, Var, Const, If, Let, Mv, MvLet, StobjLet, WithLocal, MustBeEqual, Call, none, more, reached}
use Rattle.model_terms.specs.Worlds.{Definition, FunctionOfAbstract, definition, Primitive, Defined, Macro, Constant, Concrete, Generated, Abstract, OfAbstract, Named, Signed}
use Rattle.model_terms.specs.declared.role.AbstractRole.{AbstractRole}
use Rattle.model_terms.specs.declared.role.AbstractRole.TheVariants as abstract_role
use Rattle.model_eval.specs.Outcomes.{Shown, Plain, StobjNamed, State, Outcome, Gives, Stops, Unknown, then_with, with_state, cut_at, one_more_call, counting, Stobjs}
use Rattle.model_eval.specs.Variables.{Variables, variable_in, bound, single, inner_variables, list_of}
use Rattle.model_eval.specs.StobjLayouts.{stobj_layout}
use Rattle.model_eval.specs.GeneratedCalls.{generated}
use Rattle.model_eval.specs.Lending.{Loan, is_reached, are_twins, put_into_parent}
use Rattle.model_eval.specs.ListsKeeping.{lists_keeping, inner_state, back, without_innermost, returned}
use Rattle.model_eval.specs.Evaluated.{Rules, Evaluator, is_false, scoped, with_guard, refused, of_abstract, by_definition, exec_called, called, in_order, leaf, leaf_or, loan_of, borrowing, borrowed_from, borrowed, all_borrowed, put_back, lending, loaned_variables, producing, with_loans, with_fresh, opened, evaluated}

module _ {S : Type 0} where
  -- ---- outcomes

  -- the second is the first, where the first is an outcome
  abbrev pub Kept : Outcome S → Outcome S → Type 0
  Kept (Gives values state) r = r ≡ Gives values state
  Kept (Stops stop origin state) r = r ≡ Stops stop origin state
  Kept Unknown r = Unit {0}

  pub kept_same : (r : Outcome S) → Kept r r
  kept_same (Gives values state) = refl
  kept_same (Stops stop origin state) = refl
  kept_same Unknown = tt

  kept_then : (r s : Outcome S) (go to : List (Shown S) → State S → Outcome S) → Kept r s → ((values : List (Shown S)) (state : State S) → Kept (go values state) (to values state)) → Kept (then_with r go) (then_with s to)
  kept_then (Gives values state) s go to e h = rw e (h values state)
  kept_then (Stops stop origin state) s go to e h = ap (λ y. then_with y to) e
  kept_then Unknown s go to e h = tt

  kept_state : (change : State S → State S) (r s : Outcome S) → Kept r s → Kept (with_state change r) (with_state change s)
  kept_state change (Gives values state) s e = ap (with_state change) e
  kept_state change (Stops stop origin state) s e = ap (with_state change) e
  kept_state change Unknown s e = tt

  kept_back : (formals : List ℕ) (actuals : List (Shown S)) (before : State S) (r s : Outcome S) → Kept r s → Kept (back formals actuals before r) (back formals actuals before s)
  kept_back formals actuals before (Gives values state) s e = ap (back formals actuals before) e
  kept_back formals actuals before (Stops stop origin state) s e = ap (back formals actuals before) e
  kept_back formals actuals before Unknown s e = tt

  kept_returned : (loans : List (Loan S)) (r s : Outcome S) → Kept r s → Kept (returned loans r) (returned loans s)
  kept_returned loans (Gives values state) s e = ap (returned loans) e
  kept_returned loans (Stops stop origin state) s e = ap (returned loans) e
  kept_returned loans Unknown s e = tt

  kept_cut : (n : ℕ) (r s : Outcome S) → Kept r s → Kept (cut_at n r) (cut_at n s)
  kept_cut n (Gives values state) s e = ap (cut_at n) e
  kept_cut n (Stops stop origin state) s e = ap (cut_at n) e
  kept_cut n Unknown s e = tt

  kept_if : (b : Bool) (r s t u : Outcome S) → Kept r t → Kept s u → Kept (if b then r else s) (if b then t else u)
  kept_if true r s t u e f = e
  kept_if false r s t u e f = f

  abbrev pub ToKeeps : (State S → Outcome S) → (State S → Outcome S) → Type 0
  ToKeeps go to = (state : State S) → Kept (go state) (to state)

  abbrev EvKeeps : Evaluator S → Evaluator S → Type 0
  EvKeeps ev eu = (form : Core) (variables : Variables S) (state : State S) → Kept (ev form variables state) (eu form variables state)

  kept_counting : (limit : ℕ) (state : State S) (go to : State S → Outcome S) → ToKeeps go to → Kept (counting limit state go) (counting limit state to)
  kept_counting limit state go to h = kept_if (nat_lt state.calls limit) _ _ _ _ (h (one_more_call state)) refl

  -- the second is the first, where the first is a list
  abbrev pub ListKept : Option (StobjList S) → Option (StobjList S) → Type 0
  ListKept None l = Unit {0}
  ListKept (Some l) k = k ≡ Some l

  -- ---- rules

  module _ (r : Rules S) (fresh : ℕ → Option (StobjList S)) (export : FunctionOfAbstract → List (Shown S) → Stobjs S → (State S → Outcome S) → State S → Outcome S) where
    abbrev pub fuller_rules : Rules S
    fuller_rules = record { world = r.world; limit = r.limit; kind = r.kind; see = r.see; primitive = r.primitive; fresh = fresh; export = export }

    -- what the rules owe
    pub record Keeps : Type 0 where
      pub freshly : (x : ℕ) → ListKept (r.fresh x) (fresh x)
      pub exports : (f : FunctionOfAbstract) (values : List (Shown S)) (before : Stobjs S) (go to : State S → Outcome S) → ToKeeps go to → ToKeeps (r.export f values before go) (export f values before to)

    module _ (g : Keeps) where
      -- ---- calls

      kept_scoped : (ev eu : Evaluator S) (formals : List ℕ) (values : List (Shown S)) (form : Core) → EvKeeps ev eu → ToKeeps (scoped r ev formals values form) (scoped fuller_rules eu formals values form)
      kept_scoped ev eu formals values form h state =
          kept_back formals values state _ _ (h form (inner_variables formals values) (inner_state formals values state))

      kept_guarded : (ev eu : Evaluator S) (name : ℕ) (formals : List ℕ) (guard : Core) (values : List (Shown S)) (go to : State S → Outcome S) → EvKeeps ev eu → ToKeeps go to → ToKeeps (with_guard r ev name formals guard values go) (with_guard fuller_rules eu name formals guard values to)
      kept_guarded ev eu name formals guard values go to h k state =
          kept_then _ _ _ _ (kept_scoped ev eu formals values guard h state) (λ test after. kept_if (is_false r test) _ _ _ _ refl (k after))

      kept_abstract : (ev eu : Evaluator S) (exec to : ℕ → State S → Outcome S) (f : FunctionOfAbstract) (role : AbstractRole) (values : List (Shown S)) → EvKeeps ev eu → ToKeeps (exec f.exec) (to f.exec) → ToKeeps (of_abstract r ev exec f role values) (of_abstract fuller_rules eu to f role values)
      kept_abstract ev eu exec to f abstract_role.Recognizer values h k state = refl
      kept_abstract ev eu exec to f abstract_role.Creator values h k state = refl
      kept_abstract ev eu exec to f abstract_role.Export values h k state =
          kept_cut state.outer _ _ (kept_guarded ev eu f.name f.formals f.guard values _ _ h (g.exports f values state.stobjs (exec f.exec) (to f.exec) k) state)

      kept_definition : (ev eu : Evaluator S) (go to : FunctionOfAbstract → State S → Outcome S) (d : Option Definition) (name : ℕ) (values : List (Shown S)) → EvKeeps ev eu → ((f : FunctionOfAbstract) → ToKeeps (go f) (to f)) → ToKeeps (by_definition r ev go d name values) (by_definition fuller_rules eu to d name values)
      kept_definition ev eu go to None name values h k state = refl
      kept_definition ev eu go to (Some (Primitive f row)) name values h k state = kept_same (r.primitive f row.prim values state)
      kept_definition ev eu go to (Some (Defined f)) name values h k state =
          kept_guarded ev eu f.name f.formals f.guard values _ _ h (kept_scoped ev eu f.formals values f.body h) state
      kept_definition ev eu go to (Some (Macro f formals body)) name values h k state = refl
      kept_definition ev eu go to (Some (Constant f value)) name values h k state = refl
      kept_definition ev eu go to (Some (Concrete d class)) name values h k state = refl
      kept_definition ev eu go to (Some (Generated f)) name values h k state =
          kept_same (generated lists_keeping r.kind f (stobj_layout r.see r.world f.stobj) values state)
      kept_definition ev eu go to (Some (Abstract d)) name values h k state = refl
      kept_definition ev eu go to (Some (OfAbstract f)) name values h k state = k f state
      kept_definition ev eu go to (Some (Named f formals)) name values h k state = refl
      kept_definition ev eu go to (Some (Signed f formals signature executable)) name values h k state = refl

      kept_exec : (ev eu : Evaluator S) (values : List (Shown S)) (name : ℕ) → EvKeeps ev eu → ToKeeps (exec_called r ev values name) (exec_called fuller_rules eu values name)
      unfolding exec_called
      kept_exec ev eu values name h state =
          kept_definition ev eu _ _ (definition r.world name) name values h (λ f after. kept_same (refused r name values after)) state

      kept_called : (ev eu : Evaluator S) (name : ℕ) (values : List (Shown S)) → EvKeeps ev eu → ToKeeps (called r ev name values) (called fuller_rules eu name values)
      unfolding called
      kept_called ev eu name values h state =
          kept_counting r.limit state _ _
          (kept_definition ev eu _ _ (definition r.world name) name values h (λ f. kept_abstract ev eu (exec_called r ev values) (exec_called fuller_rules eu values) f f.role values h (kept_exec ev eu values f.exec h)))

      -- ---- parts

      kept_in_order : (ev eu : Evaluator S) (forms : Cores) (variables : Variables S) (done : List (Shown S)) (go to : List (Shown S) → State S → Outcome S) → EvKeeps ev eu → ((values : List (Shown S)) → ToKeeps (go values) (to values)) → ToKeeps (in_order r ev forms variables done go) (in_order fuller_rules eu forms variables done to)
      unfolding in_order
      kept_in_order ev eu none variables done go to h k state = k done state
      kept_in_order ev eu (more form forms) variables done go to h k state =
          kept_then _ _ _ _ (h form variables state)
          (λ values after. kept_in_order ev eu forms variables (done ++ single r.kind values ∷ []) go to h k after)

      -- ---- children

      kept_borrowing : (accessor : ℕ) (loan : Loan S) (go to : State S → Outcome S) → ToKeeps go to → ToKeeps (borrowing r accessor loan go) (borrowing fuller_rules accessor loan to)
      kept_borrowing accessor loan go to k state =
          kept_if (is_reached loan.index (item loan.field (list_of state.stobjs loan.parent))) _ _ _ _ (k state) refl

      kept_borrowed_from : (child : ℕ) (by : Reached) (p : Shown S) (variables : Variables S) (go to : Loan S → State S → Outcome S) → ((loan : Loan S) → ToKeeps (go loan) (to loan)) → ToKeeps (borrowed_from r child by p variables go) (borrowed_from fuller_rules child by p variables to)
      kept_borrowed_from child by (Plain o) variables go to k state = refl
      kept_borrowed_from child by (StobjNamed p) variables go to k state =
          kept_counting r.limit state _ _ (kept_borrowing by.accessor (loan_of r child p by variables) _ _ (k (loan_of r child p by variables)))

      kept_borrowed : (child : ℕ) (by : Option Reached) (variables : Variables S) (go to : Loan S → State S → Outcome S) → ((loan : Loan S) → ToKeeps (go loan) (to loan)) → ToKeeps (borrowed r child by variables go) (borrowed fuller_rules child by variables to)
      kept_borrowed child None variables go to k state = refl
      kept_borrowed child (Some by) variables go to k state = kept_borrowed_from child by (variable_in r.kind variables by.parent) variables go to k state

      kept_all_borrowed : (names : List ℕ) (forms : Cores) (variables : Variables S) (loans : List (Loan S)) (go to : List (Loan S) → State S → Outcome S) → ((ls : List (Loan S)) → ToKeeps (go ls) (to ls)) → ToKeeps (all_borrowed r names forms variables loans go) (all_borrowed fuller_rules names forms variables loans to)
      unfolding all_borrowed
      kept_all_borrowed names none variables loans go to k state = k loans state
      kept_all_borrowed [] (more form forms) variables loans go to k state = k loans state
      kept_all_borrowed (x ∷ xs) (more form forms) variables loans go to k state =
          kept_borrowed x (reached form) variables _ _ (λ loan after. kept_all_borrowed xs forms variables (loans ++ loan ∷ []) go to k after) state

      kept_put_back : (vars : List ℕ) (loans : List (Loan S)) (go to : State S → Outcome S) → ToKeeps go to → ToKeeps (put_back r vars loans go) (put_back fuller_rules vars loans to)
      unfolding put_back
      kept_put_back vars [] go to k state = k state
      kept_put_back vars (l ∷ ls) go to k state =
          kept_if (list_any (nat_eq l.child) vars) _ _ _ _
          (kept_counting r.limit state _ _ (λ after. kept_put_back vars ls go to k (record after { stobjs = put_into_parent l after.stobjs })))
          (kept_put_back vars ls go to k state)

      kept_producing : (ev eu : Evaluator S) (vars : List ℕ) (producer : Core) (variables : Variables S) (loans : List (Loan S)) → EvKeeps ev eu → ToKeeps (producing r ev vars producer variables loans) (producing fuller_rules eu vars producer variables loans)
      kept_producing ev eu vars producer variables loans h state =
          kept_returned loans _ _
          (kept_then _ _ _ _ (h producer (loaned_variables r loans variables) (lending r loans state))
          (λ values after. kept_put_back vars loans _ _ (λ last. refl) after))

      kept_with_loans : (ev eu : Evaluator S) (vars : List ℕ) (producer consumer : Core) (variables : Variables S) (loans : List (Loan S)) → EvKeeps ev eu → ToKeeps (with_loans r ev vars producer consumer variables loans) (with_loans fuller_rules eu vars producer consumer variables loans)
      kept_with_loans ev eu vars producer consumer variables loans h state =
          kept_if (are_twins r.kind loans) _ _ _ _ refl
          (kept_then _ _ _ _ (kept_producing ev eu vars producer variables loans h state) (λ values after. h consumer (bound vars values variables) after))

      -- ---- local stobjs

      kept_fresh : (ev eu : Evaluator S) (x : ℕ) (l m : Option (StobjList S)) (producer : Core) (variables : Variables S) → EvKeeps ev eu → ListKept l m → ToKeeps (with_fresh r ev x l producer variables) (with_fresh fuller_rules eu x m producer variables)
      kept_fresh ev eu x None m producer variables h e state = tt
      kept_fresh ev eu x (Some l) m producer variables h e state = rw e (kept_state (without_innermost 1) _ _ (h producer _ _))

      -- ---- forms

      kept_opened : (ev eu : Evaluator S) → EvKeeps ev eu → EvKeeps (opened r ev) (opened fuller_rules eu)
      kept_opened ev eu h (Var x) variables state = refl
      kept_opened ev eu h (Const o) variables state = refl
      kept_opened ev eu h (If a b d) variables state =
          kept_then _ _ _ _ (h a variables state) (λ test after. h (if is_false r test then d else b) variables after)
      kept_opened ev eu h (Let names forms body) variables state =
          kept_in_order ev eu forms variables [] _ _ h (λ values after. h body (bound names values variables) after) state
      kept_opened ev eu h (Mv parts) variables state = kept_in_order ev eu parts variables [] _ _ h (λ values after. refl) state
      kept_opened ev eu h (MvLet names form body) variables state =
          kept_then _ _ _ _ (h form variables state) (λ values after. h body (bound names values variables) after)
      kept_opened ev eu h (StobjLet names forms vars producer consumer) variables state =
          kept_all_borrowed names forms variables [] _ _ (λ loans. kept_with_loans ev eu vars producer consumer variables loans h) state
      kept_opened ev eu h (WithLocal stobj names producer body) variables state =
          kept_then _ _ _ _ (kept_counting r.limit state _ _ (kept_fresh ev eu stobj (r.fresh stobj) (fresh stobj) producer variables h (g.freshly stobj)))
          (λ values after. h body (bound names values variables) after)
      kept_opened ev eu h (MustBeEqual logic exec) variables state = h logic variables state
      kept_opened ev eu h (Call f actuals) variables state =
          kept_in_order ev eu actuals variables [] _ _ h (λ values. kept_called ev eu f values h) state

      kept_leaf : (l : Option (Shown S)) (state : State S) (a b : Outcome S) → Kept a b → Kept (leaf_or r l state a) (leaf_or fuller_rules l state b)
      kept_leaf (Some v) state a b e = refl
      kept_leaf None state a b e = e

      pub kept_evaluated : (d : ℕ) → EvKeeps (evaluated r d) (evaluated fuller_rules d)
      unfolding evaluated
      kept_evaluated zero form variables state = kept_leaf (leaf r form variables) state _ _ refl
      kept_evaluated (suc d) form variables state =
          kept_leaf (leaf r form variables) state _ _ (kept_opened (evaluated r d) (evaluated fuller_rules d) (kept_evaluated d) form variables state)
