-- Evaluation in a world that has grown, with limits that may be larger, agrees unless a stop is excused.
use Rattle.std.proofs.Common.{◌≡◌, ℕ, zero, suc, ◌≤◌, List, [], ◌∷◌, ◌++◌, Bool, true, false, Option, Some, None, refl, ap, arith, inl, inr}
use Rattle.std.specs.Prelude.{nat_lt, nat_eq, if◌then◌else◌, ◌⊎◌}
use Rattle.std.specs.List.{list_any}
use Rattle.model_lists.specs.Lists.{StobjList, item}
use Rattle.model_terms.specs.Cores.{Core, Cores, Reached, Var, Const, If, Let, Mv, MvLet, StobjLet, WithLocal, MustBeEqual, Call, none, more, reached}
use Rattle.model_terms.specs.Worlds.{World, Definition, FunctionOfAbstract, definition, Primitive, Defined, Macro, Constant, Concrete, Generated, Abstract, OfAbstract, Named, Signed}
use Rattle.model_terms.specs.declared.role.AbstractRole.{AbstractRole}
use Rattle.model_terms.specs.declared.role.AbstractRole.TheVariants as abstract_role
use Rattle.model_eval.specs.Outcomes.{Shown, Plain, StobjNamed, Stop, Steps, Depth, State, Outcome, Gives, Stops, Unknown, then_with, with_state, cut_at, one_more_call, counting, stops_here, Stobjs}
use Rattle.model_eval.specs.Variables.{Variables, variable_in, bound, single, inner_variables, list_of}
use Rattle.model_eval.specs.StobjLayouts.{stobj_layout}
use Rattle.model_eval.specs.GeneratedCalls.{generated}
use Rattle.model_eval.specs.Lending.{Loan, is_reached, are_twins, put_into_parent}
use Rattle.model_eval.specs.ListsKeeping.{lists_keeping, inner_state, back, without_innermost, returned}
use Rattle.model_eval.specs.Evaluated.{Rules, Evaluator, is_false, scoped, with_guard, refused, of_abstract, by_definition, exec_called, called, in_order, leaf, leaf_or, loan_of, borrowing, borrowed_from, borrowed, all_borrowed, put_back, lending, loaned_variables, producing, with_loans, with_fresh, opened, evaluated}
use Rattle.model_eval_laws.specs.Agreement.{Agrees, ReachedStands, Closed, AllClosed, AllReached, ClosedDefinition}

module _ {S : Type 0} (Excused : Stop S → Type 0) where
  -- ---- outcomes

  pub agrees_same : (r : Outcome S) → Agrees Excused r r
  agrees_same (Gives values state) = refl
  agrees_same (Stops stop origin state) = inr refl
  agrees_same Unknown = refl

  agrees_then : (r s : Outcome S) (go to : List (Shown S) → State S → Outcome S) → Agrees Excused r s → ((values : List (Shown S)) (state : State S) → Agrees Excused (go values state) (to values state)) → Agrees Excused (then_with r go) (then_with s to)
  agrees_then (Gives values state) s go to e h = rw e (h values state)
  agrees_then (Stops stop origin state) s go to (inl x) h = inl x
  agrees_then (Stops stop origin state) s go to (inr e) h = inr (ap (λ y. then_with y to) e)
  agrees_then Unknown s go to e h = ap (λ y. then_with y to) e

  agrees_state : (change : State S → State S) (r s : Outcome S) → Agrees Excused r s → Agrees Excused (with_state change r) (with_state change s)
  agrees_state change (Gives values state) s e = ap (with_state change) e
  agrees_state change (Stops stop origin state) s (inl x) = inl x
  agrees_state change (Stops stop origin state) s (inr e) = inr (ap (with_state change) e)
  agrees_state change Unknown s e = ap (with_state change) e

  agrees_back : (formals : List ℕ) (actuals : List (Shown S)) (before : State S) (r s : Outcome S) → Agrees Excused r s → Agrees Excused (back formals actuals before r) (back formals actuals before s)
  agrees_back formals actuals before (Gives values state) s e = ap (back formals actuals before) e
  agrees_back formals actuals before (Stops stop origin state) s (inl x) = inl x
  agrees_back formals actuals before (Stops stop origin state) s (inr e) = inr (ap (back formals actuals before) e)
  agrees_back formals actuals before Unknown s e = ap (back formals actuals before) e

  agrees_returned : (loans : List (Loan S)) (r s : Outcome S) → Agrees Excused r s → Agrees Excused (returned loans r) (returned loans s)
  agrees_returned loans (Gives values state) s e = ap (returned loans) e
  agrees_returned loans (Stops stop origin state) s (inl x) = inl x
  agrees_returned loans (Stops stop origin state) s (inr e) = inr (ap (returned loans) e)
  agrees_returned loans Unknown s e = ap (returned loans) e

  agrees_cut : (n : ℕ) (r s : Outcome S) → Agrees Excused r s → Agrees Excused (cut_at n r) (cut_at n s)
  agrees_cut n (Gives values state) s e = ap (cut_at n) e
  agrees_cut n (Stops stop origin state) s (inl x) = inl x
  agrees_cut n (Stops stop origin state) s (inr e) = inr (ap (cut_at n) e)
  agrees_cut n Unknown s e = ap (cut_at n) e

  agrees_if : (b : Bool) (r s t u : Outcome S) → Agrees Excused r t → Agrees Excused s u → Agrees Excused (if b then r else s) (if b then t else u)
  agrees_if true r s t u e f = e
  agrees_if false r s t u e f = f

  -- ---- rules

  module _ (r : Rules S) (world : World) (limit : ℕ) (fresh : ℕ → Option (StobjList S)) (export : FunctionOfAbstract → List (Shown S) → Stobjs S → (State S → Outcome S) → State S → Outcome S) (Stands : ℕ → Type 0) where
    abbrev pub later_rules : Rules S
    later_rules = record { world = world; limit = limit; kind = r.kind; see = r.see; primitive = r.primitive; fresh = fresh; export = export }

    abbrev pub ToAgrees : (State S → Outcome S) → (State S → Outcome S) → Type 0
    ToAgrees go to = (state : State S) → Agrees Excused (go state) (to state)

    -- what the rules owe
    pub record Grows : Type 0 where
      pub definitions : (x : ℕ) → Stands x → definition world x ≡ definition r.world x
      pub closed : (x : ℕ) (d : Definition) → Stands x → definition r.world x ≡ Some d → ClosedDefinition Stands d
      pub layouts : (x : ℕ) → Stands x → stobj_layout r.see world x ≡ stobj_layout r.see r.world x
      pub freshly : (x : ℕ) → Stands x → fresh x ≡ r.fresh x
      pub exports : (f : FunctionOfAbstract) (values : List (Shown S)) (before : Stobjs S) (go to : State S → Outcome S) → ToAgrees go to → ToAgrees (r.export f values before go) (export f values before to)
      pub counted : (n : ℕ) → nat_lt n r.limit ≡ true → nat_lt n limit ≡ true
      pub uncounted : (n : ℕ) → nat_lt n r.limit ≡ false → Excused Steps ⊎ (nat_lt n limit ≡ false)

    module _ (g : Grows) where
      abbrev EvAgrees : Evaluator S → Evaluator S → Type 0
      EvAgrees ev eu = (form : Core) (variables : Variables S) (state : State S) → Closed Stands form → Agrees Excused (ev form variables state) (eu form variables state)

      agrees_counting : (state : State S) (go to : State S → Outcome S) → ToAgrees go to → Agrees Excused (counting r.limit state go) (counting limit state to)
      agrees_counting state go to h = by_test (nat_lt state.calls r.limit) refl
        where
          stopped : Excused Steps ⊎ (nat_lt state.calls limit ≡ false) → Agrees Excused (stops_here Steps state) (counting limit state to)
          stopped (inl x) = inl x
          stopped (inr e) = inr (rw e refl)

          by_test : (b : Bool) → nat_lt state.calls r.limit ≡ b → Agrees Excused (if b then go (one_more_call state) else stops_here Steps state) (counting limit state to)
          by_test true e = rw (g.counted state.calls e) (h (one_more_call state))
          by_test false e = stopped (g.uncounted state.calls e)

      -- ---- calls

      agrees_scoped : (ev eu : Evaluator S) (formals : List ℕ) (values : List (Shown S)) (form : Core) → EvAgrees ev eu → Closed Stands form → ToAgrees (scoped r ev formals values form) (scoped later_rules eu formals values form)
      agrees_scoped ev eu formals values form h c state =
          agrees_back formals values state _ _ (h form (inner_variables formals values) (inner_state formals values state) c)

      agrees_guarded : (ev eu : Evaluator S) (name : ℕ) (formals : List ℕ) (guard : Core) (values : List (Shown S)) (go to : State S → Outcome S) → EvAgrees ev eu → Closed Stands guard → ToAgrees go to → ToAgrees (with_guard r ev name formals guard values go) (with_guard later_rules eu name formals guard values to)
      agrees_guarded ev eu name formals guard values go to h c k state =
          agrees_then _ _ _ _ (agrees_scoped ev eu formals values guard h c state)
          (λ test after. agrees_if (is_false r test) _ _ _ _ (inr refl) (k after))

      agrees_abstract : (ev eu : Evaluator S) (exec to : ℕ → State S → Outcome S) (f : FunctionOfAbstract) (role : AbstractRole) (values : List (Shown S)) → EvAgrees ev eu → Closed Stands f.guard → ToAgrees (exec f.exec) (to f.exec) → ToAgrees (of_abstract r ev exec f role values) (of_abstract later_rules eu to f role values)
      agrees_abstract ev eu exec to f abstract_role.Recognizer values h c k state = refl
      agrees_abstract ev eu exec to f abstract_role.Creator values h c k state = inr refl
      agrees_abstract ev eu exec to f abstract_role.Export values h c k state =
          agrees_cut state.outer _ _
          (agrees_guarded ev eu f.name f.formals f.guard values _ _ h c (g.exports f values state.stobjs (exec f.exec) (to f.exec) k) state)

      agrees_definition : (ev eu : Evaluator S) (go to : FunctionOfAbstract → State S → Outcome S) (d : Definition) (name : ℕ) (values : List (Shown S)) → EvAgrees ev eu → ClosedDefinition Stands d → ((f : FunctionOfAbstract) → Closed Stands f.guard × Stands f.exec → ToAgrees (go f) (to f)) → ToAgrees (by_definition r ev go (Some d) name values) (by_definition later_rules eu to (Some d) name values)
      agrees_definition ev eu go to (Primitive f row) name values h c k state = agrees_same (r.primitive f row.prim values state)
      agrees_definition ev eu go to (Defined f) name values h c k state =
          agrees_guarded ev eu f.name f.formals f.guard values _ _ h c.0 (agrees_scoped ev eu f.formals values f.body h c.1) state
      agrees_definition ev eu go to (Macro f formals body) name values h c k state = inr refl
      agrees_definition ev eu go to (Constant f value) name values h c k state = inr refl
      agrees_definition ev eu go to (Concrete d class) name values h c k state = inr refl
      agrees_definition ev eu go to (Generated f) name values h c k state =
          rw (g.layouts f.stobj c) (agrees_same (generated lists_keeping r.kind f (stobj_layout r.see r.world f.stobj) values state))
      agrees_definition ev eu go to (Abstract d) name values h c k state = inr refl
      agrees_definition ev eu go to (OfAbstract f) name values h c k state = k f c state
      agrees_definition ev eu go to (Named f formals) name values h c k state = inr refl
      agrees_definition ev eu go to (Signed f formals signature executable) name values h c k state = inr refl

      -- by the definition of a name
      agrees_named : (ev eu : Evaluator S) (go to : FunctionOfAbstract → State S → Outcome S) (name : ℕ) (values : List (Shown S)) → EvAgrees ev eu → Stands name → ((f : FunctionOfAbstract) → Closed Stands f.guard × Stands f.exec → ToAgrees (go f) (to f)) → ToAgrees (by_definition r ev go (definition r.world name) name values) (by_definition later_rules eu to (definition world name) name values)
      agrees_named ev eu go to name values h s k state =
          rw (g.definitions name s) (by_entry (definition r.world name) refl)
        where
          by_entry : (d : Option Definition) → definition r.world name ≡ d → Agrees Excused (by_definition r ev go d name values state) (by_definition later_rules eu to d name values state)
          by_entry None e = inr refl
          by_entry (Some d) e = agrees_definition ev eu go to d name values h (g.closed name d s e) k state

      agrees_exec : (ev eu : Evaluator S) (values : List (Shown S)) (name : ℕ) → EvAgrees ev eu → Stands name → ToAgrees (exec_called r ev values name) (exec_called later_rules eu values name)
      unfolding exec_called
      agrees_exec ev eu values name h s state =
          agrees_named ev eu _ _ name values h s (λ f c after. agrees_same (refused r name values after)) state

      agrees_called : (ev eu : Evaluator S) (name : ℕ) (values : List (Shown S)) → EvAgrees ev eu → Stands name → ToAgrees (called r ev name values) (called later_rules eu name values)
      unfolding called
      agrees_called ev eu name values h s state =
          agrees_counting state _ _
          (agrees_named ev eu _ _ name values h s (λ f c. agrees_abstract ev eu (exec_called r ev values) (exec_called later_rules eu values) f f.role values h c.0 (agrees_exec ev eu values f.exec h c.1)))

      -- ---- parts

      abbrev GoAgrees : (List (Shown S) → State S → Outcome S) → (List (Shown S) → State S → Outcome S) → Type 0
      GoAgrees go to = (values : List (Shown S)) → ToAgrees (go values) (to values)

      agrees_in_order : (ev eu : Evaluator S) (forms : Cores) (variables : Variables S) (done : List (Shown S)) (go to : List (Shown S) → State S → Outcome S) → EvAgrees ev eu → AllClosed Stands forms → GoAgrees go to → ToAgrees (in_order r ev forms variables done go) (in_order later_rules eu forms variables done to)
      unfolding in_order
      agrees_in_order ev eu none variables done go to h c k state = k done state
      agrees_in_order ev eu (more form forms) variables done go to h c k state =
          agrees_then _ _ _ _ (h form variables state c.0)
          (λ values after. agrees_in_order ev eu forms variables (done ++ single r.kind values ∷ []) go to h c.1 k after)

      -- ---- children

      agrees_borrowing : (accessor : ℕ) (loan : Loan S) (go to : State S → Outcome S) → ToAgrees go to → ToAgrees (borrowing r accessor loan go) (borrowing later_rules accessor loan to)
      agrees_borrowing accessor loan go to k state =
          agrees_if (is_reached loan.index (item loan.field (list_of state.stobjs loan.parent))) _ _ _ _ (k state) (inr refl)

      agrees_borrowed_from : (child : ℕ) (by : Reached) (p : Shown S) (variables : Variables S) (go to : Loan S → State S → Outcome S) → Stands by.accessor → ((loan : Loan S) → ToAgrees (go loan) (to loan)) → ToAgrees (borrowed_from r child by p variables go) (borrowed_from later_rules child by p variables to)
      agrees_borrowed_from child by (Plain o) variables go to c k state = inr refl
      agrees_borrowed_from child by (StobjNamed p) variables go to c k state =
          rw (g.definitions by.accessor c)
          (agrees_counting state _ _ (agrees_borrowing by.accessor (loan_of r child p by variables) _ _ (k (loan_of r child p by variables))))

      agrees_borrowed : (child : ℕ) (by : Option Reached) (variables : Variables S) (go to : Loan S → State S → Outcome S) → ReachedStands Stands by → ((loan : Loan S) → ToAgrees (go loan) (to loan)) → ToAgrees (borrowed r child by variables go) (borrowed later_rules child by variables to)
      agrees_borrowed child None variables go to c k state = inr refl
      agrees_borrowed child (Some by) variables go to c k state = agrees_borrowed_from child by (variable_in r.kind variables by.parent) variables go to c k state

      agrees_all_borrowed : (names : List ℕ) (forms : Cores) (variables : Variables S) (loans : List (Loan S)) (go to : List (Loan S) → State S → Outcome S) → AllReached Stands forms → ((ls : List (Loan S)) → ToAgrees (go ls) (to ls)) → ToAgrees (all_borrowed r names forms variables loans go) (all_borrowed later_rules names forms variables loans to)
      unfolding all_borrowed
      agrees_all_borrowed names none variables loans go to c k state = k loans state
      agrees_all_borrowed [] (more form forms) variables loans go to c k state = k loans state
      agrees_all_borrowed (x ∷ xs) (more form forms) variables loans go to c k state =
          agrees_borrowed x (reached form) variables _ _ c.0
          (λ loan after. agrees_all_borrowed xs forms variables (loans ++ loan ∷ []) go to c.1 k after) state

      agrees_put_back : (vars : List ℕ) (loans : List (Loan S)) (go to : State S → Outcome S) → ToAgrees go to → ToAgrees (put_back r vars loans go) (put_back later_rules vars loans to)
      unfolding put_back
      agrees_put_back vars [] go to k state = k state
      agrees_put_back vars (l ∷ ls) go to k state =
          agrees_if (list_any (nat_eq l.child) vars) _ _ _ _
          (agrees_counting state _ _ (λ after. agrees_put_back vars ls go to k (record after { stobjs = put_into_parent l after.stobjs })))
          (agrees_put_back vars ls go to k state)

      agrees_producing : (ev eu : Evaluator S) (vars : List ℕ) (producer : Core) (variables : Variables S) (loans : List (Loan S)) → EvAgrees ev eu → Closed Stands producer → ToAgrees (producing r ev vars producer variables loans) (producing later_rules eu vars producer variables loans)
      agrees_producing ev eu vars producer variables loans h c state =
          agrees_returned loans _ _
          (agrees_then _ _ _ _ (h producer (loaned_variables r loans variables) (lending r loans state) c)
          (λ values after. agrees_put_back vars loans _ _ (λ last. refl) after))

      agrees_with_loans : (ev eu : Evaluator S) (vars : List ℕ) (producer consumer : Core) (variables : Variables S) (loans : List (Loan S)) → EvAgrees ev eu → Closed Stands producer → Closed Stands consumer → ToAgrees (with_loans r ev vars producer consumer variables loans) (with_loans later_rules eu vars producer consumer variables loans)
      agrees_with_loans ev eu vars producer consumer variables loans h c d state =
          agrees_if (are_twins r.kind loans) _ _ _ _ (inr refl)
          (agrees_then _ _ _ _ (agrees_producing ev eu vars producer variables loans h c state) (λ values after. h consumer (bound vars values variables) after d))

      -- ---- local stobjs

      agrees_fresh : (ev eu : Evaluator S) (x : ℕ) (l : Option (StobjList S)) (producer : Core) (variables : Variables S) → EvAgrees ev eu → Closed Stands producer → ToAgrees (with_fresh r ev x l producer variables) (with_fresh later_rules eu x l producer variables)
      agrees_fresh ev eu x None producer variables h c state = refl
      agrees_fresh ev eu x (Some l) producer variables h c state = agrees_state (without_innermost 1) _ _ (h producer _ _ c)

      -- ---- forms

      agrees_choice : (ev eu : Evaluator S) (q : Bool) (b c : Core) (variables : Variables S) → EvAgrees ev eu → Closed Stands b → Closed Stands c → ToAgrees (ev (if q then c else b) variables) (eu (if q then c else b) variables)
      agrees_choice ev eu true b c variables h p q state = h c variables state q
      agrees_choice ev eu false b c variables h p q state = h b variables state p

      agrees_opened : (ev eu : Evaluator S) → EvAgrees ev eu → EvAgrees (opened r ev) (opened later_rules eu)
      agrees_opened ev eu h (Var x) variables state c = inr refl
      agrees_opened ev eu h (Const o) variables state c = inr refl
      agrees_opened ev eu h (If a b d) variables state c =
          agrees_then _ _ _ _ (h a variables state c.0) (λ test after. agrees_choice ev eu (is_false r test) b d variables h c.1 c.2 after)
      agrees_opened ev eu h (Let names forms body) variables state c =
          agrees_in_order ev eu forms variables [] _ _ h c.0 (λ values after. h body (bound names values variables) after c.1) state
      agrees_opened ev eu h (Mv parts) variables state c = agrees_in_order ev eu parts variables [] _ _ h c (λ values after. refl) state
      agrees_opened ev eu h (MvLet names form body) variables state c =
          agrees_then _ _ _ _ (h form variables state c.0) (λ values after. h body (bound names values variables) after c.1)
      agrees_opened ev eu h (StobjLet names forms vars producer consumer) variables state c =
          agrees_all_borrowed names forms variables [] _ _ c.0 (λ loans. agrees_with_loans ev eu vars producer consumer variables loans h c.1 c.2) state
      agrees_opened ev eu h (WithLocal stobj names producer body) variables state c =
          rw (g.freshly stobj c.0)
          (agrees_then _ _ _ _ (agrees_counting state _ _ (agrees_fresh ev eu stobj (r.fresh stobj) producer variables h c.1))
          (λ values after. h body (bound names values variables) after c.2))
      agrees_opened ev eu h (MustBeEqual logic exec) variables state c = h logic variables state c
      agrees_opened ev eu h (Call f actuals) variables state c =
          agrees_in_order ev eu actuals variables [] _ _ h c.1 (λ values. agrees_called ev eu f values h c.0) state

      agrees_leaf : (l : Option (Shown S)) (state : State S) (a b : Outcome S) → Agrees Excused a b → Agrees Excused (leaf_or r l state a) (leaf_or later_rules l state b)
      agrees_leaf (Some v) state a b e = refl
      agrees_leaf None state a b e = e

      -- with the same depth
      pub agrees_evaluated : (d : ℕ) → EvAgrees (evaluated r d) (evaluated later_rules d)
      unfolding evaluated
      agrees_evaluated zero form variables state c = agrees_leaf (leaf r form variables) state _ _ (inr refl)
      agrees_evaluated (suc d) form variables state c =
          agrees_leaf (leaf r form variables) state _ _ (agrees_opened (evaluated r d) (evaluated later_rules d) (agrees_evaluated d) form variables state c)

      -- with a depth that may be larger, where a stop for depth is excused
      pub agrees_deeper : Excused Depth → (d e : ℕ) → d ≤ e → EvAgrees (evaluated r d) (evaluated later_rules e)
      unfolding evaluated
      agrees_deeper x zero zero q form variables state c = agrees_leaf (leaf r form variables) state _ _ (inl x)
      agrees_deeper x zero (suc e) q form variables state c = agrees_leaf (leaf r form variables) state _ _ (inl x)
      agrees_deeper x (suc d) zero q form variables state c = absurd (omega arith)
      agrees_deeper x (suc d) (suc e) q form variables state c =
          agrees_leaf (leaf r form variables) state _ _
          (agrees_opened (evaluated r d) (evaluated later_rules e) (agrees_deeper x d e (omega arith)) form variables state c)
