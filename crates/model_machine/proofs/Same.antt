-- A turn leaves the outcome of a machine what it is.
use Rattle.std.proofs.Common.{◌≡◌, ℕ, zero, suc, List, [], ◌∷◌, ◌++◌, map, Bool, true, false, Option, Some, None, refl, sym, ap, ◌∙◌}
use Rattle.std.specs.Prelude.{nat_lt, nat_eq, if◌then◌else◌}
use Rattle.std.specs.List.{list_any}
use Rattle.model_lists.specs.Lists.{StobjList, item}
use Rattle.model_terms.specs.Cores.{Core, Cores, Reached, Var, Const, If, Let, Mv, MvLet, StobjLet, WithLocal, MustBeEqual, Call, none, more, reached}
use Rattle.model_terms.specs.Worlds.{Definition, FunctionOfAbstract, definition, Primitive, Defined, Macro, Constant, Concrete, Generated, Abstract, OfAbstract, Named, Signed}
use Rattle.model_terms.specs.declared.role.AbstractRole.{AbstractRole}
use Rattle.model_terms.specs.declared.role.AbstractRole.TheVariants as abstract_role
use Rattle.model_eval.specs.Outcomes.{Shown, Plain, StobjNamed, Stop, Steps, Depth, Origin, StateOf, OutcomeOf, Gives, Stops, Unknown, then_with, here, cut_before, cut_at, one_more_call, counting}
use Rattle.model_eval.specs.Keeping.{Loan, Keeping, outer_value, taken_back, beginning}
use Rattle.model_eval.specs.Variables.{Variables, variable_in, bound}
use Rattle.model_eval.specs.Lending.{is_reached, are_twins}
use Rattle.model_eval.specs.Evaluated.{RulesOf, EvaluatorOf, is_false, of_abstract, by_definition, exec_called, called, in_order, leaf, loan_of, borrowing, borrowed_from, borrowed, all_borrowed, put_back, with_loans, with_fresh, opened, evaluated}
use Rattle.model_eval.specs.Checked.{checked_export}
use Rattle.model_machine.specs.Frames.{Begun, Export, Then, ThenBody, ThenValues, ThenCall, Step, Test, Parts, Several, Calling, Guarding, Running, Allowing, Exporting, Borrowing, Producing, Putting, Local, Last, Frame, Control, Begin, Give, Stopped, Machine, Turned, Going}
use Rattle.model_machine.specs.Turns.{out_of, abandoned, stopped_in, done, call_of_abstract, call_by_definition, call, call_exec, parts_done, next_part, reach, reach_from, borrow, lend_all, next_child, put_next, make_local, open_form, begin, go_on, give, closed_state, closed_origin, close, turn_by, turn_of}
use Rattle.model_machine.specs.Stands.{within, running, after_parts, rest_of, unwound, outcome_now, outcome_of, outcome_after}
use Rattle.model_machine.specs.Laws.{KeepsOutcomes}

module _ {S O B : Type 0} {keeping : Keeping S O B} (r : RulesOf keeping) where
  abbrev q : RulesOf keeping
  q = running r

  abbrev inner : ℕ → EvaluatorOf S O
  inner room = evaluated q room

  -- ---- frames

  within_unknown : (x : Option (Export S B)) → within keeping x Unknown ≡ Unknown
  within_unknown None = refl
  within_unknown (Some x) = refl

  within_stops : (x : Option (Export S B)) (stop : Stop S) (w : Origin) (state : StateOf O) → within keeping x (Stops stop w state) ≡ Stops stop (stopped_in x w) (abandoned r x state)
  within_stops None stop w state = refl
  within_stops (Some x) stop w state = refl

  within_gives : (x : Option (Export S B)) (values : List (Shown S)) (state : StateOf O) → within keeping x (Gives values state) ≡ Gives values (out_of r x state)
  within_gives None values state = refl
  within_gives (Some x) values state = refl

  rest_unknown : (ev : EvaluatorOf S O) (variables : Variables S) (step : Step S B) → rest_of q ev variables step Unknown ≡ Unknown
  rest_unknown ev variables (Test b c) = refl
  rest_unknown ev variables (Parts forms before goal) = refl
  rest_unknown ev variables (Several names body) = refl
  rest_unknown ev variables (Calling f actuals) = refl
  rest_unknown ev variables (Guarding export name formals actuals body behind) = within_unknown export
  rest_unknown ev variables (Running export formals actuals behind) = within_unknown export
  rest_unknown ev variables (Allowing f actuals begun behind) = refl
  rest_unknown ev variables (Exporting f actuals begun) = refl
  rest_unknown ev variables (Borrowing names forms loans vars producer consumer) = refl
  rest_unknown ev variables (Producing vars loans consumer) = refl
  rest_unknown ev variables (Putting vars left loans consumer given) = refl
  rest_unknown ev variables (Local names body) = refl
  rest_unknown ev variables (Last export) = within_unknown export

  unwound_unknown : (room : ℕ) (frames : List (Frame S B)) → unwound q room frames Unknown ≡ Unknown
  unfolding unwound
  unwound_unknown room [] = refl
  unwound_unknown room (f ∷ fs) = rw (rest_unknown (inner room) f.variables f.step) (unwound_unknown (suc room) fs)

  rest_stops : (ev : EvaluatorOf S O) (variables : Variables S) (step : Step S B) (stop : Stop S) (w : Origin) (state : StateOf O)
      → rest_of q ev variables step (Stops stop w state) ≡ Stops stop (closed_origin r step w) (closed_state r step state)
  rest_stops ev variables (Test b c) stop w state = refl
  rest_stops ev variables (Parts forms before goal) stop w state = refl
  rest_stops ev variables (Several names body) stop w state = refl
  rest_stops ev variables (Calling f actuals) stop w state = refl
  rest_stops ev variables (Guarding export name formals actuals body behind) stop w state = within_stops export stop w _
  rest_stops ev variables (Running export formals actuals behind) stop w state = within_stops export stop w _
  rest_stops ev variables (Allowing f actuals begun behind) stop w state = refl
  rest_stops ev variables (Exporting f actuals begun) stop w state = refl
  rest_stops ev variables (Borrowing names forms loans vars producer consumer) stop w state = refl
  rest_stops ev variables (Producing vars loans consumer) stop w state = refl
  rest_stops ev variables (Putting vars left loans consumer given) stop w state = refl
  rest_stops ev variables (Local names body) stop w state = refl
  rest_stops ev variables (Last export) stop w state = within_stops export stop w state

  -- ---- what a turn makes of a form, and what the form's outcome is; `room` is what is left inside

  abbrev Makes : ℕ → List (Frame S B) → Turned S O B → OutcomeOf S O → Type 0
  Makes room frames turned outcome = outcome_after q turned ≡ unwound q (suc room) frames outcome

  makes_if : (b : Bool) (room : ℕ) (frames : List (Frame S B)) (t u : Turned S O B) (x y : OutcomeOf S O) → Makes room frames t x → Makes room frames u y → Makes room frames (if b then t else u) (if b then x else y)
  makes_if true room frames t u x y e f = e
  makes_if false room frames t u x y e f = f

  makes_done : (export : Option (Export S B)) (room : ℕ) (variables : Variables S) (frames : List (Frame S B)) (outcome : OutcomeOf S O)
      → Makes room frames (done r export room variables frames outcome) (within keeping export outcome)
  unfolding outcome_of unwound
  makes_done export room variables frames (Gives values state) = refl
  makes_done export room variables frames (Stops stop w state) = refl
  makes_done export room variables frames Unknown = sym (ap (unwound q (suc room) frames) (within_unknown export) ∙ unwound_unknown (suc room) frames)

  -- ---- calls

  makes_abstract : (room : ℕ) (variables : Variables S) (frames : List (Frame S B)) (f : FunctionOfAbstract) (role : AbstractRole) (values : List (Shown S)) (state : StateOf O)
      → Makes room frames (call_of_abstract r room variables frames f role values state) (of_abstract q (inner room) (exec_called q (inner room) values) f role values state)
  unfolding outcome_of unwound
  makes_abstract room variables frames f abstract_role.Recognizer values state = refl
  makes_abstract room variables frames f abstract_role.Creator values state = refl
  makes_abstract room variables frames f abstract_role.Export values state = refl

  makes_definition : (export : Option (Export S B)) (go : FunctionOfAbstract → StateOf O → Turned S O B) (to : FunctionOfAbstract → StateOf O → OutcomeOf S O) (room : ℕ) (variables : Variables S) (frames : List (Frame S B)) (d : Option Definition) (name : ℕ) (values : List (Shown S)) (state : StateOf O)
      → ((f : FunctionOfAbstract) (after : StateOf O) → Makes room frames (go f after) (within keeping export (to f after)))
      → Makes room frames (call_by_definition r export go room variables frames d name values state) (within keeping export (by_definition q (inner room) to d name values state))
  unfolding outcome_of unwound
  makes_definition export go to room variables frames None name values state h = refl
  makes_definition export go to room variables frames (Some (Primitive f row)) name values state h = makes_done export room variables frames _
  makes_definition export go to room variables frames (Some (Defined f)) name values state h = refl
  makes_definition export go to room variables frames (Some (Macro f formals body)) name values state h = refl
  makes_definition export go to room variables frames (Some (Constant f value)) name values state h = refl
  makes_definition export go to room variables frames (Some (Concrete d class)) name values state h = refl
  makes_definition export go to room variables frames (Some (Generated g)) name values state h = makes_done export room variables frames _
  makes_definition export go to room variables frames (Some (Abstract d)) name values state h = refl
  makes_definition export go to room variables frames (Some (OfAbstract f)) name values state h = h f state
  makes_definition export go to room variables frames (Some (Named f formals)) name values state h = refl
  makes_definition export go to room variables frames (Some (Signed f formals signature executable)) name values state h = refl

  makes_stop_from : (room : ℕ) (variables : Variables S) (frames : List (Frame S B)) (stop : Stop S) (w : Origin) (state : StateOf O)
      → Makes room frames (Going (record { room = room; frames = record { step = Last None; variables = variables } ∷ frames; control = Stopped stop w; state = state })) (Stops stop w state)
  unfolding outcome_of unwound
  makes_stop_from room variables frames stop w state = refl

  makes_stop : (room : ℕ) (variables : Variables S) (frames : List (Frame S B)) (stop : Stop S) (state : StateOf O)
      → Makes room frames (Going (record { room = room; frames = record { step = Last None; variables = variables } ∷ frames; control = Stopped stop (here state); state = state })) (Stops stop (here state) state)
  makes_stop room variables frames stop state = makes_stop_from room variables frames stop (here state) state

  makes_call : (room : ℕ) (variables : Variables S) (frames : List (Frame S B)) (f : ℕ) (values : List (Shown S)) (state : StateOf O)
      → Makes room frames (call r room variables frames f values state) (called q (inner room) f values state)
  unfolding called
  makes_call room variables frames f values state =
      makes_if (nat_lt state.calls r.limit) room frames _ _ _ _
      (makes_definition None _ _ room variables frames (definition r.world f) f values (one_more_call state) (λ g after. makes_abstract room variables frames g g.role values after))
      (makes_stop room variables frames Steps state)

  -- an outcome that is seen from outside the call of an export
  makes_cut_if : (b c : Bool) (n room : ℕ) (frames : List (Frame S B)) (t u : Turned S O B) (x y : OutcomeOf S O) → c ≡ b
      → Makes room frames t (cut_at n x) → Makes room frames u (cut_at n y) → Makes room frames (if b then t else u) (cut_at n (if c then x else y))
  makes_cut_if true c n room frames t u x y e f g = rw e f
  makes_cut_if false c n room frames t u x y e f g = rw e g

  makes_exec : (room : ℕ) (variables : Variables S) (frames : List (Frame S B)) (f : FunctionOfAbstract) (values : List (Shown S)) (begun : Begun B) (state : StateOf O)
      → Makes room frames (call_exec r room variables frames f values begun state) (cut_at begun.number (checked_export keeping r.limit f values begun.before (exec_called q (inner room) values f.exec) state))
  unfolding exec_called outcome_of unwound
  makes_exec room variables frames f values begun state =
      makes_cut_if (nat_lt state.calls r.limit) _ begun.number room frames _ _ _ _ refl
      (makes_definition (Some (record { name = f.name; actuals = values; begun = begun; outer = state.outer })) _ _ room variables frames (definition r.world f.exec) f.exec values (beginning keeping (one_more_call state)) (λ g after. refl))
      (makes_stop_from room variables frames Steps (cut_before begun.number (here state)) state)

  -- ---- parts

  makes_parts_done : (room : ℕ) (variables : Variables S) (frames : List (Frame S B)) (goal : Then) (values : List (Shown S)) (state : StateOf O)
      → Makes room frames (parts_done r room variables frames goal values state) (after_parts q (inner room) variables goal values state)
  unfolding outcome_of unwound
  makes_parts_done room variables frames (ThenBody names body) values state = refl
  makes_parts_done room variables frames ThenValues values state = refl
  makes_parts_done room variables frames (ThenCall f) values state = refl

  makes_part : (room : ℕ) (variables : Variables S) (frames : List (Frame S B)) (forms : Cores) (values : List (Shown S)) (goal : Then) (state : StateOf O)
      → Makes room frames (next_part r room variables frames forms values goal state) (in_order q (inner room) forms variables values (after_parts q (inner room) variables goal) state)
  unfolding outcome_of unwound in_order
  makes_part room variables frames none values goal state = makes_parts_done room variables frames goal values state
  makes_part room variables frames (more form forms) values goal state = refl

  -- ---- children

  makes_reach : (room : ℕ) (variables : Variables S) (frames : List (Frame S B)) (step : Step S B) (accessor : ℕ) (loan : Loan S) (to : StateOf O → OutcomeOf S O) (state : StateOf O)
      → ((after : StateOf O) → rest_of q (inner room) variables step (Gives [] after) ≡ to after)
      → Makes room frames (reach r room variables frames step accessor loan state) (counting r.limit state (borrowing q accessor loan to))
  unfolding outcome_of unwound
  makes_reach room variables frames step accessor loan to state h =
      makes_if (nat_lt state.calls r.limit) room frames _ _ _ _
      (makes_if (is_reached loan.index (item loan.field (keeping.read state.stobjs loan.parent))) room frames _ _ _ _ (ap (unwound q (suc room) frames) (h (one_more_call state))) (makes_stop room variables frames _ (one_more_call state)))
      (makes_stop room variables frames Steps state)

  makes_reach_from : (room : ℕ) (variables : Variables S) (frames : List (Frame S B)) (step : Loan S → Step S B) (child : ℕ) (by : Reached) (p : Shown S) (to : Loan S → StateOf O → OutcomeOf S O) (state : StateOf O)
      → ((loan : Loan S) (after : StateOf O) → rest_of q (inner room) variables (step loan) (Gives [] after) ≡ to loan after)
      → Makes room frames (reach_from r room variables frames step child by p state) (borrowed_from q child by p variables to state)
  makes_reach_from room variables frames step child by (Plain o) to state h = makes_stop room variables frames Depth state
  makes_reach_from room variables frames step child by (StobjNamed p) to state h =
      makes_reach room variables frames (step (loan_of r child p by variables)) by.accessor (loan_of r child p by variables) (to (loan_of r child p by variables)) state (h (loan_of r child p by variables))

  makes_borrow : (room : ℕ) (variables : Variables S) (frames : List (Frame S B)) (step : Loan S → Step S B) (child : ℕ) (by : Option Reached) (to : Loan S → StateOf O → OutcomeOf S O) (state : StateOf O)
      → ((loan : Loan S) (after : StateOf O) → rest_of q (inner room) variables (step loan) (Gives [] after) ≡ to loan after)
      → Makes room frames (borrow r room variables frames step child by state) (borrowed q child by variables to state)
  makes_borrow room variables frames step child None to state h = makes_stop room variables frames Depth state
  makes_borrow room variables frames step child (Some by) to state h = makes_reach_from room variables frames step child by (variable_in r.kind variables by.parent) to state h

  makes_lend : (room : ℕ) (variables : Variables S) (frames : List (Frame S B)) (loans : List (Loan S)) (vars : List ℕ) (producer consumer : Core) (state : StateOf O)
      → Makes room frames (lend_all r room variables frames loans vars producer consumer state) (with_loans q (inner room) vars producer consumer variables loans state)
  unfolding outcome_of unwound
  makes_lend room variables frames loans vars producer consumer state =
      makes_if (are_twins r.kind loans) room frames _ _ _ _ (makes_stop room variables frames _ state) refl

  makes_child : (room : ℕ) (variables : Variables S) (frames : List (Frame S B)) (names : List ℕ) (forms : Cores) (loans : List (Loan S)) (vars : List ℕ) (producer consumer : Core) (state : StateOf O)
      → Makes room frames (next_child r room variables frames names forms loans vars producer consumer state) (all_borrowed q names forms variables loans (with_loans q (inner room) vars producer consumer variables) state)
  unfolding all_borrowed
  makes_child room variables frames names none loans vars producer consumer state = makes_lend room variables frames loans vars producer consumer state
  makes_child room variables frames [] (more form forms) loans vars producer consumer state = makes_lend room variables frames loans vars producer consumer state
  makes_child room variables frames (x ∷ xs) (more form forms) loans vars producer consumer state =
      makes_borrow room variables frames (λ loan. Borrowing xs forms (loans ++ loan ∷ []) vars producer consumer) x (reached form) _ state (λ loan after. refl)

  abbrev consuming : ℕ → Variables S → List ℕ → List (Loan S) → Core → OutcomeOf S O → OutcomeOf S O
  consuming room variables vars loans consumer outcome = then_with (taken_back keeping loans outcome) (λ values after. inner room consumer (bound vars values variables) after)

  makes_put_if : (b : Bool) (room : ℕ) (variables : Variables S) (frames : List (Frame S B)) (vars : List ℕ) (loans : List (Loan S)) (consumer : Core) (t u : Turned S O B) (x y : OutcomeOf S O)
      → Makes room frames t (consuming room variables vars loans consumer x) → Makes room frames u (consuming room variables vars loans consumer y)
      → Makes room frames (if b then t else u) (consuming room variables vars loans consumer (if b then x else y))
  makes_put_if true room variables frames vars loans consumer t u x y e f = e
  makes_put_if false room variables frames vars loans consumer t u x y e f = f

  makes_put : (room : ℕ) (variables : Variables S) (frames : List (Frame S B)) (vars : List ℕ) (left loans : List (Loan S)) (consumer : Core) (values : List (Shown S)) (state : StateOf O)
      → Makes room frames (put_next r room variables frames vars left loans consumer values state) (consuming room variables vars loans consumer (put_back q vars left (Gives values) state))
  unfolding outcome_of unwound put_back
  makes_put room variables frames vars [] loans consumer values state = refl
  makes_put room variables frames vars (l ∷ ls) loans consumer values state =
      makes_put_if (list_any (nat_eq l.child) vars) room variables frames vars loans consumer _ _ _ _
      (makes_put_if (nat_lt state.calls r.limit) room variables frames vars loans consumer _ _ _ _ refl refl)
      refl

  -- ---- a form begins

  makes_local : (room : ℕ) (variables : Variables S) (frames : List (Frame S B)) (x : ℕ) (fresh : Option (StobjList S)) (names : List ℕ) (producer body : Core) (state : StateOf O)
      → Makes room frames (make_local r room variables frames x fresh names producer body state) (then_with (with_fresh q (inner room) x fresh producer variables state) (λ values after. inner room body (bound names values variables) after))
  unfolding outcome_of unwound
  makes_local room variables frames x None names producer body state = sym (unwound_unknown (suc room) frames)
  makes_local room variables frames x (Some l) names producer body state = refl

  makes_then_if : (b : Bool) (room : ℕ) (frames : List (Frame S B)) (t u : Turned S O B) (x y : OutcomeOf S O) (go : List (Shown S) → StateOf O → OutcomeOf S O)
      → Makes room frames t (then_with x go) → Makes room frames u (then_with y go) → Makes room frames (if b then t else u) (then_with (if b then x else y) go)
  makes_then_if true room frames t u x y go e f = e
  makes_then_if false room frames t u x y go e f = f

  makes_form : (room : ℕ) (variables : Variables S) (frames : List (Frame S B)) (form : Core) (state : StateOf O)
      → Makes room frames (open_form r room variables frames form state) (opened q (inner room) form variables state)
  unfolding outcome_of unwound
  makes_form room variables frames (Var x) state = refl
  makes_form room variables frames (Const o) state = refl
  makes_form room variables frames (If a b c) state = refl
  makes_form room variables frames (Let names forms body) state = makes_part room variables frames forms [] (ThenBody names body) state
  makes_form room variables frames (Mv parts) state = makes_part room variables frames parts [] ThenValues state
  makes_form room variables frames (MvLet names form body) state = refl
  makes_form room variables frames (StobjLet names forms vars producer consumer) state = refl
  makes_form room variables frames (WithLocal stobj names producer body) state =
      makes_then_if (nat_lt state.calls r.limit) room frames _ _ _ _ (λ values after. inner room body (bound names values variables) after)
      (makes_local room variables frames stobj (r.fresh stobj) names producer body (one_more_call state))
      (makes_stop room variables frames Steps state)
  makes_form room variables frames (MustBeEqual logic exec) state = refl
  makes_form room variables frames (Call f actuals) state = makes_part room variables frames actuals [] (ThenCall f) state

  same_begin : (leaf_value : Option (Shown S)) (room : ℕ) (variables : Variables S) (frames : List (Frame S B)) (form : Core) (state : StateOf O) → leaf q form variables ≡ leaf_value
      → outcome_after q (begin r leaf_value room variables frames form state) ≡ unwound q room frames (evaluated q room form variables state)
  unfolding outcome_of unwound evaluated
  same_begin (Some v) zero variables frames form state e = rw e refl
  same_begin (Some v) (suc room) variables frames form state e = rw e refl
  same_begin None zero variables frames form state e = rw e refl
  same_begin None (suc room) variables frames form state e = rw e (makes_form room variables frames form state)

  -- ---- a form goes on

  is_false_outer : (formals : List ℕ) (actuals values : List (Shown S)) → is_false q (map (outer_value formals actuals) values) ≡ is_false r values
  is_false_outer formals actuals [] = refl
  is_false_outer formals actuals (Plain o ∷ vs) = refl
  is_false_outer formals actuals (StobjNamed x ∷ vs) = refl

  makes_within_if : (b c : Bool) (export : Option (Export S B)) (room : ℕ) (frames : List (Frame S B)) (t u : Turned S O B) (x y : OutcomeOf S O) → c ≡ b
      → Makes room frames t (within keeping export x) → Makes room frames u (within keeping export y) → Makes room frames (if b then t else u) (within keeping export (if c then x else y))
  makes_within_if true c export room frames t u x y e f g = rw e f
  makes_within_if false c export room frames t u x y e f g = rw e g

  makes_on : (room : ℕ) (variables : Variables S) (frames : List (Frame S B)) (step : Step S B) (values : List (Shown S)) (state : StateOf O)
      → Makes room frames (go_on r room variables frames step values state) (rest_of q (inner room) variables step (Gives values state))
  unfolding outcome_of unwound
  makes_on room variables frames (Test b c) values state = refl
  makes_on room variables frames (Parts forms before goal) values state = makes_part room variables frames forms _ goal state
  makes_on room variables frames (Several names body) values state = refl
  makes_on room variables frames (Calling f actuals) values state = makes_call room variables frames f actuals state
  makes_on room variables frames (Guarding export name formals actuals body behind) values state =
      makes_within_if (is_false r values) _ export room frames _ _ _ _ (is_false_outer formals actuals values) refl refl
  makes_on room variables frames (Running export formals actuals behind) values state = refl
  makes_on room variables frames (Allowing f actuals begun behind) values state =
      makes_cut_if (is_false r values) _ begun.number room frames _ _ _ _ (is_false_outer f.formals actuals values) refl refl
  makes_on room variables frames (Exporting f actuals begun) values state = makes_exec room variables frames f actuals begun state
  makes_on room variables frames (Borrowing names forms loans vars producer consumer) values state = makes_child room variables frames names forms loans vars producer consumer state
  makes_on room variables frames (Producing vars loans consumer) values state = makes_put room variables frames vars loans loans consumer values state
  makes_on room variables frames (Putting vars left loans consumer given) values state = makes_put room variables frames vars left loans consumer given state
  makes_on room variables frames (Local names body) values state = refl
  makes_on room variables frames (Last export) values state = ap (unwound q (suc room) frames) (sym (within_gives export values state))

  -- ---- a turn

  same_give : (room : ℕ) (frames : List (Frame S B)) (values : List (Shown S)) (state : StateOf O) → outcome_after q (give r room frames values state) ≡ unwound q room frames (Gives values state)
  unfolding unwound
  same_give room [] values state = refl
  same_give room (f ∷ fs) values state = makes_on room f.variables fs f.step values state

  same_close : (room : ℕ) (frames : List (Frame S B)) (stop : Stop S) (w : Origin) (state : StateOf O) → outcome_after q (close r room frames stop w state) ≡ unwound q room frames (Stops stop w state)
  unfolding outcome_of unwound
  same_close room [] stop w state = refl
  same_close room (f ∷ fs) stop w state = ap (unwound q (suc room) fs) (sym (rest_stops (inner room) f.variables f.step stop w state))

  same_by : (room : ℕ) (frames : List (Frame S B)) (control : Control S) (state : StateOf O) → outcome_after q (turn_by r room frames control state) ≡ unwound q room frames (outcome_now q room control state)
  same_by room frames (Begin form variables) state = same_begin (leaf r form variables) room variables frames form state refl
  same_by room frames (Give values) state = same_give room frames values state
  same_by room frames (Stopped stop w) state = same_close room frames stop w state

  pub turn_keeps : (m : Machine S O B) → outcome_after q (turn_of r m) ≡ outcome_of q m
  unfolding turn_of outcome_of
  turn_keeps m = same_by m.room m.frames m.control m.state

pub keeps_outcomes : {S O B : Type 0} (keeping : Keeping S O B) → KeepsOutcomes keeping
keeps_outcomes keeping = record { same = turn_keeps }
