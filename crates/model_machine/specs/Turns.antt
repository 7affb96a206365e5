-- One turn of a machine. It counts one call at most, and what a call writes is written in the turn that counts it.
use Rattle.std.specs.Prelude.{ℕ, zero, suc, List, [], ◌∷◌, ◌++◌, map, length, true, Option, Some, None, nat_eq, nat_lt, if◌then◌else◌}
use Rattle.std.specs.List.{list_any}
use Rattle.model_prims.specs.Kinds.{truth_of}
use Rattle.model_lists.specs.Lists.{StobjList, item}
use Rattle.model_terms.specs.Cores.{Core, Cores, Reached, Var, Const, If, Let, Mv, MvLet, StobjLet, WithLocal, MustBeEqual, Call, none, more, reached}
use Rattle.model_terms.specs.Worlds.{Definition, FunctionOfAbstract, definition, Primitive, Defined, Macro, Constant, Concrete, Generated, Abstract, OfAbstract, Named, Signed}
use Rattle.model_terms.specs.declared.role.AbstractRole.{AbstractRole}
use Rattle.model_terms.specs.declared.role.AbstractRole.TheVariants as abstract_role
use Rattle.model_eval.specs.Outcomes.{Shown, Plain, StobjNamed, Stop, Guard, Steps, Depth, Origin, StateOf, OutcomeOf, Gives, Stops, Unknown, here, inside_of, cut_before, one_more_call}
use Rattle.model_eval.specs.Keeping.{Loan, Keeping, outer_value, entering, leaving, put_all, ending_loans, unmaking, beginning, committing, abandoning}
use Rattle.model_eval.specs.Variables.{Variables, variable_in, bound, single, plain, inner_variables}
use Rattle.model_eval.specs.StobjLayouts.{stobj_layout}
use Rattle.model_eval.specs.GeneratedCalls.{generated}
use Rattle.model_eval.specs.Lending.{is_reached, loan_values, indices, are_twins}
use Rattle.model_eval.specs.Evaluated.{RulesOf, is_false, leaf, loan_of, loaned_variables, lending, stobj_let_word}
use Rattle.model_machine.specs.Frames.{Begun, Export, Then, ThenBody, ThenValues, ThenCall, Step, Test, Parts, Several, Calling, Guarding, Running, Allowing, Exporting, Borrowing, Producing, Putting, Local, Last, Frame, Control, Begin, Give, Stopped, Machine, Turned, Going, Over}

-- ---- exports

-- where a stop came from, seen from outside the call of an export
abbrev pub stopped_in : {S B : Type 0} → Option (Export S B) → Origin → Origin
stopped_in None origin = origin
stopped_in (Some x) origin = cut_before x.begun.number (inside_of x.name origin)

module _ {S O B : Type 0} {keeping : Keeping S O B} (r : RulesOf keeping) where
  -- after what an export made no call there is an outer one, and its writes stay
  abbrev pub out_of : Option (Export S B) → StateOf O → StateOf O
  out_of None state = state
  out_of (Some x) state = committing keeping (record state { outer = x.outer })

  -- after a stop in it the stobj is as it was at its call
  abbrev pub abandoned : Option (Export S B) → StateOf O → StateOf O
  abandoned None state = state
  abandoned (Some x) state = abandoning keeping x.actuals x.begun.before (record state { outer = x.outer })

  -- ---- machines; `room` is what is left inside the innermost frame

  abbrev pub going : ℕ → List (Frame S B) → Control S → StateOf O → Turned S O B
  going room frames control state = Going (record { room = room; frames = frames; control = control; state = state })

  -- the innermost form goes on with another step
  abbrev pub next : ℕ → Variables S → List (Frame S B) → Step S B → Control S → StateOf O → Turned S O B
  next room variables frames step control state = going room (record { step = step; variables = variables } ∷ frames) control state

  -- its value is that of a form
  abbrev pub last_form : ℕ → Variables S → List (Frame S B) → Core → Variables S → StateOf O → Turned S O B
  last_form room variables frames form inner state = next room variables frames (Last None) (Begin form inner) state

  abbrev pub stop_from : Option (Export S B) → ℕ → Variables S → List (Frame S B) → Stop S → Origin → StateOf O → Turned S O B
  stop_from export room variables frames stop origin state = next room variables frames (Last export) (Stopped stop origin) state

  abbrev pub stop_here : Option (Export S B) → ℕ → Variables S → List (Frame S B) → Stop S → StateOf O → Turned S O B
  stop_here export room variables frames stop state = stop_from export room variables frames stop (here state) state

  -- what was done at once
  abbrev pub done : Option (Export S B) → ℕ → Variables S → List (Frame S B) → OutcomeOf S O → Turned S O B
  done export room variables frames (Gives values state) = next room variables frames (Last export) (Give values) state
  done export room variables frames (Stops stop origin state) = stop_from export room variables frames stop origin state
  done export room variables frames Unknown = Over Unknown

  -- a call that is counted
  abbrev pub counted : StateOf O → (StateOf O → Turned S O B) → Turned S O B → Turned S O B
  counted state go stop = if nat_lt state.calls r.limit then go (one_more_call state) else stop

  -- ---- calls

  abbrev pub refuse : Option (Export S B) → ℕ → Variables S → List (Frame S B) → ℕ → List (Shown S) → StateOf O → Turned S O B
  refuse export room variables frames name values state = stop_here export room variables frames (Guard name values) state

  -- a guard or a body begins
  abbrev pub enter : ℕ → Variables S → List (Frame S B) → (B → Step S B) → List ℕ → List (Shown S) → Core → StateOf O → Turned S O B
  enter room variables frames step formals values form state =
      next room variables frames (step (keeping.behind state.stobjs)) (Begin form (inner_variables formals values)) (entering keeping formals values state)

  abbrev pub call_of_abstract : ℕ → Variables S → List (Frame S B) → FunctionOfAbstract → AbstractRole → List (Shown S) → StateOf O → Turned S O B
  call_of_abstract room variables frames f abstract_role.Recognizer values state =
      next room variables frames (Last None) (Give (plain (truth_of r.kind true ∷ []))) state
  call_of_abstract room variables frames f abstract_role.Creator values state = refuse None room variables frames f.name values state
  call_of_abstract room variables frames f abstract_role.Export values state =
      enter room variables frames (Allowing f values (record { before = keeping.behind state.stobjs; number = state.outer })) f.formals values f.guard state

  abbrev pub call_by_definition : Option (Export S B) → (FunctionOfAbstract → StateOf O → Turned S O B) → ℕ → Variables S → List (Frame S B) → Option Definition → ℕ → List (Shown S) → StateOf O → Turned S O B
  call_by_definition export abstract room variables frames None name values state = refuse export room variables frames name values state
  call_by_definition export abstract room variables frames (Some (Primitive f row)) name values state = done export room variables frames (r.primitive f row.prim values state)
  call_by_definition export abstract room variables frames (Some (Defined f)) name values state =
      enter room variables frames (Guarding export f.name f.formals values f.body) f.formals values f.guard state
  call_by_definition export abstract room variables frames (Some (Macro f formals body)) name values state = refuse export room variables frames name values state
  call_by_definition export abstract room variables frames (Some (Constant f value)) name values state = refuse export room variables frames name values state
  call_by_definition export abstract room variables frames (Some (Concrete d class)) name values state = refuse export room variables frames name values state
  call_by_definition export abstract room variables frames (Some (Generated g)) name values state =
      done export room variables frames (generated keeping r.kind g (stobj_layout r.see r.world g.stobj) values state)
  call_by_definition export abstract room variables frames (Some (Abstract d)) name values state = refuse export room variables frames name values state
  call_by_definition export abstract room variables frames (Some (OfAbstract f)) name values state = abstract f state
  call_by_definition export abstract room variables frames (Some (Named f formals)) name values state = refuse export room variables frames name values state
  call_by_definition export abstract room variables frames (Some (Signed f formals signature executable)) name values state = refuse export room variables frames name values state

  abbrev pub call : ℕ → Variables S → List (Frame S B) → ℕ → List (Shown S) → StateOf O → Turned S O B
  call room variables frames name values state =
      counted state
      (λ after. call_by_definition None (λ f later. call_of_abstract room variables frames f f.role values later) room variables frames (definition r.world name) name values after)
      (stop_here None room variables frames Steps state)

  -- the exec function of an export
  abbrev pub call_exec : ℕ → Variables S → List (Frame S B) → FunctionOfAbstract → List (Shown S) → Begun B → StateOf O → Turned S O B
  call_exec room variables frames f values begun state =
      let export = Some (record { name = f.name; actuals = values; begun = begun; outer = state.outer }) in
      counted state
      (λ after. call_by_definition export (λ g later. refuse export room variables frames f.exec values later) room variables frames (definition r.world f.exec) f.exec values (beginning keeping after))
      (stop_from None room variables frames Steps (cut_before begun.number (here state)) state)

  -- ---- parts in order

  abbrev pub parts_done : ℕ → Variables S → List (Frame S B) → Then → List (Shown S) → StateOf O → Turned S O B
  parts_done room variables frames (ThenBody names body) values state = last_form room variables frames body (bound names values variables) state
  parts_done room variables frames ThenValues values state = next room variables frames (Last None) (Give values) state
  parts_done room variables frames (ThenCall f) values state = next room variables frames (Calling f values) (Give []) state

  abbrev pub next_part : ℕ → Variables S → List (Frame S B) → Cores → List (Shown S) → Then → StateOf O → Turned S O B
  next_part room variables frames none values goal state = parts_done room variables frames goal values state
  next_part room variables frames (more form forms) values goal state = next room variables frames (Parts forms values goal) (Begin form variables) state

  -- ---- children

  -- an accessor's call, which is counted
  abbrev pub reach : ℕ → Variables S → List (Frame S B) → Step S B → ℕ → Loan S → StateOf O → Turned S O B
  reach room variables frames step accessor loan state =
      counted state
      (λ after. if is_reached loan.index (item loan.field (keeping.read after.stobjs loan.parent)) then next room variables frames step (Give []) after
      else stop_here None room variables frames (Guard accessor (loan_values loan)) after)
      (stop_here None room variables frames Steps state)

  abbrev pub reach_from : ℕ → Variables S → List (Frame S B) → (Loan S → Step S B) → ℕ → Reached → Shown S → StateOf O → Turned S O B
  reach_from room variables frames step child by (Plain o) state = stop_here None room variables frames Depth state
  reach_from room variables frames step child by (StobjNamed p) state =
      let loan = loan_of r child p by variables in reach room variables frames (step loan) by.accessor loan state

  abbrev pub borrow : ℕ → Variables S → List (Frame S B) → (Loan S → Step S B) → ℕ → Option Reached → StateOf O → Turned S O B
  borrow room variables frames step child None state = stop_here None room variables frames Depth state
  borrow room variables frames step child (Some by) state = reach_from room variables frames step child by (variable_in r.kind variables by.parent) state

  abbrev pub lend_all : ℕ → Variables S → List (Frame S B) → List (Loan S) → List ℕ → Core → Core → StateOf O → Turned S O B
  lend_all room variables frames loans vars producer consumer state =
      if are_twins r.kind loans then stop_here None room variables frames (Guard stobj_let_word (indices loans)) state
      else next room variables frames (Producing vars loans consumer) (Begin producer (loaned_variables r loans variables)) (lending r loans state)

  -- the next child, or the producer
  abbrev pub next_child : ℕ → Variables S → List (Frame S B) → List ℕ → Cores → List (Loan S) → List ℕ → Core → Core → StateOf O → Turned S O B
  next_child room variables frames names none loans vars producer consumer state = lend_all room variables frames loans vars producer consumer state
  next_child room variables frames [] (more form forms) loans vars producer consumer state = lend_all room variables frames loans vars producer consumer state
  next_child room variables frames (x ∷ xs) (more form forms) loans vars producer consumer state =
      borrow room variables frames (λ loan. Borrowing xs forms (loans ++ loan ∷ []) vars producer consumer) x (reached form) state

  -- the next child that is put back, or the consumer
  abbrev pub put_next : ℕ → Variables S → List (Frame S B) → List ℕ → List (Loan S) → List (Loan S) → Core → List (Shown S) → StateOf O → Turned S O B
  put_next room variables frames vars [] loans consumer values state =
      last_form room variables frames consumer (bound vars values variables) (ending_loans keeping (length loans) state)
  put_next room variables frames vars (l ∷ ls) loans consumer values state =
      if list_any (nat_eq l.child) vars
      then counted state
      (λ after. next room variables frames (Putting vars ls loans consumer values) (Give []) (record after { stobjs = keeping.put l after.stobjs }))
      (next room variables frames (Putting vars ls loans consumer values) (Stopped Steps (here state)) state)
      else next room variables frames (Putting vars ls loans consumer values) (Give []) state

  -- ---- local stobjs

  abbrev pub make_local : ℕ → Variables S → List (Frame S B) → ℕ → Option (StobjList S) → List ℕ → Core → Core → StateOf O → Turned S O B
  make_local room variables frames x None names producer body state = Over Unknown
  make_local room variables frames x (Some l) names producer body state =
      next room variables frames (Local names body) (Begin producer ((x, StobjNamed x) ∷ variables)) (record state { stobjs = keeping.make x l state.stobjs })

  -- ---- a form begins

  abbrev pub open_form : ℕ → Variables S → List (Frame S B) → Core → StateOf O → Turned S O B
  open_form room variables frames (Var x) state = stop_here None room variables frames Depth state
  open_form room variables frames (Const o) state = stop_here None room variables frames Depth state
  open_form room variables frames (If a b c) state = next room variables frames (Test b c) (Begin a variables) state
  open_form room variables frames (Let names forms body) state = next_part room variables frames forms [] (ThenBody names body) state
  open_form room variables frames (Mv parts) state = next_part room variables frames parts [] ThenValues state
  open_form room variables frames (MvLet names form body) state = next room variables frames (Several names body) (Begin form variables) state
  open_form room variables frames (StobjLet names forms vars producer consumer) state =
      next room variables frames (Borrowing names forms [] vars producer consumer) (Give []) state
  open_form room variables frames (WithLocal stobj names producer body) state =
      counted state (make_local room variables frames stobj (r.fresh stobj) names producer body) (stop_here None room variables frames Steps state)
  open_form room variables frames (MustBeEqual logic exec) state = last_form room variables frames logic variables state
  open_form room variables frames (Call f actuals) state = next_part room variables frames actuals [] (ThenCall f) state

  abbrev pub open_in : ℕ → Variables S → List (Frame S B) → Core → StateOf O → Turned S O B
  open_in zero variables frames form state = going zero frames (Stopped Depth (here state)) state
  open_in (suc room) variables frames form state = open_form room variables frames form state

  abbrev pub begin : Option (Shown S) → ℕ → Variables S → List (Frame S B) → Core → StateOf O → Turned S O B
  begin (Some v) room variables frames form state = going room frames (Give (v ∷ [])) state
  begin None room variables frames form state = open_in room variables frames form state

  -- ---- a form goes on with the values that it waited for

  abbrev pub go_on : ℕ → Variables S → List (Frame S B) → Step S B → List (Shown S) → StateOf O → Turned S O B
  go_on room variables frames (Test b c) values state = last_form room variables frames (if is_false r values then c else b) variables state
  go_on room variables frames (Parts forms before goal) values state = next_part room variables frames forms (before ++ single r.kind values ∷ []) goal state
  go_on room variables frames (Several names body) values state = last_form room variables frames body (bound names values variables) state
  go_on room variables frames (Calling f actuals) values state = call room variables frames f actuals state
  go_on room variables frames (Guarding export name formals actuals body behind) values state =
      let after = leaving keeping formals actuals behind state in
      if is_false r values then refuse export room variables frames name actuals after
      else enter room variables frames (Running export formals actuals) formals actuals body after
  go_on room variables frames (Running export formals actuals behind) values state =
      next room variables frames (Last export) (Give (map (outer_value formals actuals) values)) (leaving keeping formals actuals behind state)
  go_on room variables frames (Allowing f actuals begun behind) values state =
      let after = leaving keeping f.formals actuals behind state in
      if is_false r values then stop_from None room variables frames (Guard f.name actuals) (cut_before begun.number (here after)) after
      else next room variables frames (Exporting f actuals begun) (Give []) after
  go_on room variables frames (Exporting f actuals begun) values state = call_exec room variables frames f actuals begun state
  go_on room variables frames (Borrowing names forms loans vars producer consumer) values state =
      next_child room variables frames names forms loans vars producer consumer state
  go_on room variables frames (Producing vars loans consumer) values state = put_next room variables frames vars loans loans consumer values state
  go_on room variables frames (Putting vars left loans consumer given) values state = put_next room variables frames vars left loans consumer given state
  go_on room variables frames (Local names body) values state = last_form room variables frames body (bound names values variables) (unmaking keeping state)
  go_on room variables frames (Last export) values state = going (suc room) frames (Give values) (out_of export state)

  abbrev pub give : ℕ → List (Frame S B) → List (Shown S) → StateOf O → Turned S O B
  give room [] values state = Over (Gives values state)
  give room (f ∷ fs) values state = go_on room f.variables fs f.step values state

  -- ---- a form ends: its state seen from outside, by values and by a stop

  abbrev pub ended_state : Step S B → StateOf O → StateOf O
  ended_state (Test b c) state = state
  ended_state (Parts forms before goal) state = state
  ended_state (Several names body) state = state
  ended_state (Calling f actuals) state = state
  ended_state (Guarding export name formals actuals body behind) state = out_of export (leaving keeping formals actuals behind state)
  ended_state (Running export formals actuals behind) state = out_of export (leaving keeping formals actuals behind state)
  ended_state (Allowing f actuals begun behind) state = leaving keeping f.formals actuals behind state
  ended_state (Exporting f actuals begun) state = state
  ended_state (Borrowing names forms loans vars producer consumer) state = state
  ended_state (Producing vars loans consumer) state = ending_loans keeping (length loans) (record state { stobjs = put_all keeping loans state.stobjs })
  ended_state (Putting vars left loans consumer given) state = ending_loans keeping (length loans) (record state { stobjs = put_all keeping loans state.stobjs })
  ended_state (Local names body) state = unmaking keeping state
  ended_state (Last export) state = out_of export state

  abbrev pub closed_state : Step S B → StateOf O → StateOf O
  closed_state (Test b c) state = state
  closed_state (Parts forms before goal) state = state
  closed_state (Several names body) state = state
  closed_state (Calling f actuals) state = state
  closed_state (Guarding export name formals actuals body behind) state = abandoned export (leaving keeping formals actuals behind state)
  closed_state (Running export formals actuals behind) state = abandoned export (leaving keeping formals actuals behind state)
  closed_state (Allowing f actuals begun behind) state = leaving keeping f.formals actuals behind state
  closed_state (Exporting f actuals begun) state = state
  closed_state (Borrowing names forms loans vars producer consumer) state = state
  closed_state (Producing vars loans consumer) state = ending_loans keeping (length loans) (record state { stobjs = put_all keeping loans state.stobjs })
  closed_state (Putting vars left loans consumer given) state = ending_loans keeping (length loans) (record state { stobjs = put_all keeping loans state.stobjs })
  closed_state (Local names body) state = unmaking keeping state
  closed_state (Last export) state = abandoned export state

  abbrev pub closed_origin : Step S B → Origin → Origin
  closed_origin (Test b c) origin = origin
  closed_origin (Parts forms before goal) origin = origin
  closed_origin (Several names body) origin = origin
  closed_origin (Calling f actuals) origin = origin
  closed_origin (Guarding export name formals actuals body behind) origin = stopped_in export origin
  closed_origin (Running export formals actuals behind) origin = stopped_in export origin
  closed_origin (Allowing f actuals begun behind) origin = cut_before begun.number origin
  closed_origin (Exporting f actuals begun) origin = cut_before begun.number origin
  closed_origin (Borrowing names forms loans vars producer consumer) origin = origin
  closed_origin (Producing vars loans consumer) origin = origin
  closed_origin (Putting vars left loans consumer given) origin = origin
  closed_origin (Local names body) origin = origin
  closed_origin (Last export) origin = stopped_in export origin

  abbrev pub close : ℕ → List (Frame S B) → Stop S → Origin → StateOf O → Turned S O B
  close room [] stop origin state = Over (Stops stop origin state)
  close room (f ∷ fs) stop origin state = going (suc room) fs (Stopped stop (closed_origin f.step origin)) (closed_state f.step state)

  -- ---- one turn

  abbrev pub turn_by : ℕ → List (Frame S B) → Control S → StateOf O → Turned S O B
  turn_by room frames (Begin form variables) state = begin (leaf r form variables) room variables frames form state
  turn_by room frames (Give values) state = give room frames values state
  turn_by room frames (Stopped stop origin) state = close room frames stop origin state

  unfoldable pub turn_of : Machine S O B → Turned S O B
  turn_of m = turn_by m.room m.frames m.control m.state
