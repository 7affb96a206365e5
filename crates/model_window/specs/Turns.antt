-- One turn of a machine over trees. It is the turn of the machine over forms that it stands for.
use Rattle.std.specs.Prelude.{ℕ, zero, suc, ◌+◌, List, [], ◌∷◌, ◌++◌, map, length, true, Option, Some, None, nat_lt, if◌then◌else◌, slice_get, option_map}
use Rattle.std.specs.Option.{option_map_or}
use Rattle.model_objects.specs.Object.{Object}
use Rattle.model_prims.specs.Kinds.{truth_of}
use Rattle.model_lists.specs.Lists.{StobjList, item}
use Rattle.model_terms.specs.Worlds.{World, Definition, FunctionOfAbstract, definition_name, Primitive, Defined, Macro, Constant, Concrete, Generated, Abstract, OfAbstract, Named, Signed}
use Rattle.model_terms.specs.declared.role.AbstractRole.{AbstractRole}
use Rattle.model_terms.specs.declared.role.AbstractRole.TheVariants as abstract_role
use Rattle.model_eval.specs.Outcomes.{Shown, Plain, StobjNamed, Stop, Guard, Steps, Depth, Origin, StateOf, OutcomeOf, Gives, Stops, Unknown, here, inside_of, cut_before, one_more_call}
use Rattle.model_eval.specs.Keeping.{Loan, Keeping, outer_value, entering, leaving, put_all, ending_loans, unmaking, beginning, committing, abandoning}
use Rattle.model_eval.specs.Variables.{object_of, single, plain}
use Rattle.model_eval.specs.StobjLayouts.{stobj_layout}
use Rattle.model_eval.specs.GeneratedCalls.{generated}
use Rattle.model_eval.specs.Lending.{field_number, is_reached, loan_values, indices, are_twins}
use Rattle.model_eval.specs.Evaluated.{RulesOf, is_false, lending, stobj_let_word}
use Rattle.model_machine.specs.Frames.{Begun}
use Rattle.model_slots.specs.Trees.{Tree, Trees, Child, Operand, Slot, Const, Leaf, If, Let, Mv, MvLet, StobjLet, WithLocal, MustBeEqual, Call, none, more}
use Rattle.model_slots.specs.Resolved.{number_in}
use Rattle.model_slots.specs.Laws.{as_formals}
use Rattle.model_window.specs.Windows.{Memory, window, written, all_written, read, stobj_names, actuals_at}
use Rattle.model_window.specs.Frames.{Code, Export, Borrowed, Then, ThenBody, ThenValues, ThenCall, Step, Test, Parts, Several, Calling, Guarding, Running, Allowing, Exporting, Borrowing, Producing, Putting, Local, Last, Frame, Control, Begin, Give, Stopped, Machine, Turned, Going, Over}

-- the name of the function with this number
abbrev pub called_name : World → ℕ → ℕ
called_name w n = option_map_or definition_name (slice_get w n) 0

abbrev pub loans_of : {S : Type 0} → List (Borrowed S) → List (Loan S)
loans_of borrowed = map (λ (b : Borrowed _). b.loan) borrowed

-- where a stop came from, seen from outside the call of an export
abbrev pub stopped_in : {B : Type 0} → Option (Export B) → Origin → Origin
stopped_in None origin = origin
stopped_in (Some x) origin = cut_before x.begun.number (inside_of x.name origin)

module _ {S O B : Type 0} {keeping : Keeping S O B} (r : RulesOf keeping) (code : Code) where
  -- ---- exports

  -- after what an export made no call there is an outer one, and its writes stay
  abbrev pub out_of : Option (Export B) → StateOf O → StateOf O
  out_of None state = state
  out_of (Some x) state = committing keeping (record state { outer = x.outer })

  -- after a stop in it the stobj is as it was at its call; its actuals lie from this number on
  abbrev pub abandoned : Memory S → ℕ → Option (Export B) → StateOf O → StateOf O
  abandoned memory base None state = state
  abandoned memory base (Some x) state = abandoning keeping (actuals_at memory base x.count x.names) x.begun.before (record state { outer = x.outer })

  -- ---- machines; `room` is what is left inside the innermost frame, and `base` where its window begins

  abbrev pub going : ℕ → List (Frame S B) → Memory S → Control S → StateOf O → Turned S O B
  going room frames memory control state = Going (record { room = room; frames = frames; memory = memory; control = control; state = state })

  -- the innermost form goes on with another step
  abbrev pub next : ℕ → ℕ → List (Frame S B) → Memory S → Step S B → Control S → StateOf O → Turned S O B
  next room base frames memory step control state = going room (record { step = step; base = base } ∷ frames) memory control state

  -- its value is that of a tree
  abbrev pub last_form : ℕ → ℕ → List (Frame S B) → Memory S → Tree → StateOf O → Turned S O B
  last_form room base frames memory tree state = next room base frames memory (Last None) (Begin tree base) state

  abbrev pub stop_from : Option (Export B) → ℕ → ℕ → List (Frame S B) → Memory S → Stop S → Origin → StateOf O → Turned S O B
  stop_from export room base frames memory stop origin state = next room base frames memory (Last export) (Stopped stop origin) state

  abbrev pub stop_here : Option (Export B) → ℕ → ℕ → List (Frame S B) → Memory S → Stop S → StateOf O → Turned S O B
  stop_here export room base frames memory stop state = stop_from export room base frames memory stop (here state) state

  -- what was done at once
  abbrev pub done : Option (Export B) → ℕ → ℕ → List (Frame S B) → Memory S → OutcomeOf S O → Turned S O B
  done export room base frames memory (Gives values state) = next room base frames memory (Last export) (Give values) state
  done export room base frames memory (Stops stop origin state) = stop_from export room base frames memory stop origin state
  done export room base frames memory Unknown = Over Unknown

  -- a call that is counted
  abbrev pub counted : StateOf O → (StateOf O → Turned S O B) → Turned S O B → Turned S O B
  counted state go stop = if nat_lt state.calls r.limit then go (one_more_call state) else stop

  -- ---- calls; `base` is where the first actual lies

  abbrev pub refuse : Option (Export B) → ℕ → ℕ → List (Frame S B) → Memory S → ℕ → List (Shown S) → StateOf O → Turned S O B
  refuse export room base frames memory name values state = stop_here export room base frames memory (Guard name values) state

  -- a guard begins, in the window of the actuals, the stobjs among them under the names of the formals
  abbrev pub enter : ℕ → ℕ → List (Frame S B) → Memory S → (B → Step S B) → List ℕ → List (Shown S) → Tree → StateOf O → Turned S O B
  enter room base frames memory step formals values tree state =
      next room base frames (all_written base (as_formals formals values) memory) (step (keeping.behind state.stobjs)) (Begin tree base) (entering keeping formals values state)

  -- the function has this number
  abbrev pub call_of_abstract : ℕ → ℕ → List (Frame S B) → Memory S → ℕ → FunctionOfAbstract → AbstractRole → List (Shown S) → StateOf O → Turned S O B
  call_of_abstract room base frames memory n f abstract_role.Recognizer values state =
      next room base frames memory (Last None) (Give (plain (truth_of r.kind true ∷ []))) state
  call_of_abstract room base frames memory n f abstract_role.Creator values state = refuse None room base frames memory f.name values state
  call_of_abstract room base frames memory n f abstract_role.Export values state =
      enter room base frames memory (Allowing f (stobj_names values) (record { before = keeping.behind state.stobjs; number = state.outer })) f.formals values (code.guard n) state

  abbrev pub call_by_definition : Option (Export B) → (FunctionOfAbstract → StateOf O → Turned S O B) → ℕ → ℕ → List (Frame S B) → Memory S → ℕ → Option Definition → ℕ → List (Shown S) → StateOf O → Turned S O B
  call_by_definition export abstract room base frames memory n None name values state = refuse export room base frames memory name values state
  call_by_definition export abstract room base frames memory n (Some (Primitive f row)) name values state = done export room base frames memory (r.primitive f row.prim values state)
  call_by_definition export abstract room base frames memory n (Some (Defined f)) name values state =
      enter room base frames memory (Guarding export f.name f.formals (stobj_names values) (code.body n)) f.formals values (code.guard n) state
  call_by_definition export abstract room base frames memory n (Some (Macro f formals body)) name values state = refuse export room base frames memory name values state
  call_by_definition export abstract room base frames memory n (Some (Constant f value)) name values state = refuse export room base frames memory name values state
  call_by_definition export abstract room base frames memory n (Some (Concrete d class)) name values state = refuse export room base frames memory name values state
  call_by_definition export abstract room base frames memory n (Some (Generated g)) name values state =
      done export room base frames memory (generated keeping r.kind g (stobj_layout r.see r.world g.stobj) values state)
  call_by_definition export abstract room base frames memory n (Some (Abstract d)) name values state = refuse export room base frames memory name values state
  call_by_definition export abstract room base frames memory n (Some (OfAbstract f)) name values state = abstract f state
  call_by_definition export abstract room base frames memory n (Some (Named f formals)) name values state = refuse export room base frames memory name values state
  call_by_definition export abstract room base frames memory n (Some (Signed f formals signature executable)) name values state = refuse export room base frames memory name values state

  abbrev pub call : ℕ → ℕ → List (Frame S B) → Memory S → ℕ → List (Shown S) → StateOf O → Turned S O B
  call room base frames memory n values state =
      counted state
      (λ after. call_by_definition None (λ f later. call_of_abstract room base frames memory n f f.role values later) room base frames memory n (slice_get r.world n) (called_name r.world n) values after)
      (stop_here None room base frames memory Steps state)

  -- the exec function of an export, by its number
  abbrev pub call_exec_by : Option ℕ → Option (Export B) → ℕ → ℕ → List (Frame S B) → Memory S → FunctionOfAbstract → List (Shown S) → StateOf O → Turned S O B
  call_exec_by None export room base frames memory f values state = refuse export room base frames memory f.exec values state
  call_exec_by (Some n) export room base frames memory f values state =
      call_by_definition export (λ g later. refuse export room base frames memory f.exec values later) room base frames memory n (slice_get r.world n) f.exec values state

  abbrev pub call_exec : ℕ → ℕ → List (Frame S B) → Memory S → FunctionOfAbstract → List ℕ → Begun B → StateOf O → Turned S O B
  call_exec room base frames memory f names begun state =
      let values = actuals_at memory base (length f.formals) names in
      let export = Some (record { name = f.name; count = length f.formals; names = names; begun = begun; outer = state.outer }) in
      counted state
      (λ after. call_exec_by (number_in r.world f.exec) export room base frames memory f values (beginning keeping after))
      (stop_from None room base frames memory Steps (cut_before begun.number (here state)) state)

  -- ---- parts in order, from a slot; so many have values

  abbrev pub parts_done : ℕ → ℕ → List (Frame S B) → Memory S → ℕ → ℕ → Then → StateOf O → Turned S O B
  parts_done room base frames memory s count (ThenBody body) state = last_form room base frames memory body state
  parts_done room base frames memory s count ThenValues state = next room base frames memory (Last None) (Give (read (window memory base) s count)) state
  parts_done room base frames memory s count (ThenCall n) state = next room base frames memory (Calling s n count) (Give []) state

  abbrev pub next_part : ℕ → ℕ → List (Frame S B) → Memory S → ℕ → ℕ → Trees → Then → StateOf O → Turned S O B
  next_part room base frames memory s count none goal state = parts_done room base frames memory s count goal state
  next_part room base frames memory s count (more tree trees) goal state = next room base frames memory (Parts s count trees goal) (Begin tree base) state

  -- ---- children

  abbrev pub operand_value : Memory S → ℕ → Operand → Shown S
  operand_value memory base (Slot i) = window memory base i
  operand_value memory base (Const o) = Plain (r.see o)

  abbrev pub index_value : Memory S → ℕ → Option Operand → Option (Object S)
  index_value memory base index = option_map (λ operand. object_of r.kind (operand_value memory base operand)) index

  abbrev pub loan_at : Memory S → ℕ → ℕ → Child → Loan S
  loan_at memory base parent c = record {
    child = c.name;
    parent = parent;
    field = field_number (slice_get r.world c.accessor);
    index = index_value memory base c.index;
  }

  -- an accessor's call, which is counted
  abbrev pub reach : ℕ → ℕ → List (Frame S B) → Memory S → Step S B → ℕ → Loan S → StateOf O → Turned S O B
  reach room base frames memory step accessor loan state =
      counted state
      (λ after. if is_reached loan.index (item loan.field (keeping.read after.stobjs loan.parent)) then next room base frames memory step (Give []) after
      else stop_here None room base frames memory (Guard accessor (loan_values loan)) after)
      (stop_here None room base frames memory Steps state)

  abbrev pub borrow : ℕ → ℕ → List (Frame S B) → Memory S → (Loan S → Step S B) → Child → Shown S → StateOf O → Turned S O B
  borrow room base frames memory step c (Plain o) state = stop_here None room base frames memory Depth state
  borrow room base frames memory step c (StobjNamed p) state =
      let loan = loan_at memory base p c in reach room base frames memory (step loan) (called_name r.world c.accessor) loan state

  abbrev pub lend_all : ℕ → ℕ → List (Frame S B) → Memory S → ℕ → List (Borrowed S) → Tree → Tree → StateOf O → Turned S O B
  lend_all room base frames memory s borrowed producer consumer state =
      if are_twins r.kind (loans_of borrowed) then stop_here None room base frames memory (Guard stobj_let_word (indices (loans_of borrowed))) state
      else next room base frames (all_written (base + s) (map (λ (l : Loan S). StobjNamed l.child) (loans_of borrowed)) memory)
      (Producing s borrowed consumer) (Begin producer base) (lending r (loans_of borrowed) state)

  -- the next child, or the producer
  abbrev pub next_child : ℕ → ℕ → List (Frame S B) → Memory S → ℕ → List Child → List (Borrowed S) → Tree → Tree → StateOf O → Turned S O B
  next_child room base frames memory s [] borrowed producer consumer state = lend_all room base frames memory s borrowed producer consumer state
  next_child room base frames memory s (c ∷ cs) borrowed producer consumer state =
      borrow room base frames memory (λ loan. Borrowing s cs (borrowed ++ record { loan = loan; returns = c.returns } ∷ []) producer consumer) c (operand_value memory base c.parent) state

  -- the next child that is put back, or the consumer
  abbrev pub put_next : ℕ → ℕ → List (Frame S B) → Memory S → ℕ → List (Borrowed S) → List (Borrowed S) → Tree → StateOf O → Turned S O B
  put_next room base frames memory s [] borrowed consumer state =
      last_form room base frames memory consumer (ending_loans keeping (length borrowed) state)
  put_next room base frames memory s (b ∷ bs) borrowed consumer state =
      if b.returns
      then counted state
      (λ after. next room base frames memory (Putting s bs borrowed consumer) (Give []) (record after { stobjs = keeping.put b.loan after.stobjs }))
      (next room base frames memory (Putting s bs borrowed consumer) (Stopped Steps (here state)) state)
      else next room base frames memory (Putting s bs borrowed consumer) (Give []) state

  -- ---- local stobjs

  abbrev pub make_local : ℕ → ℕ → List (Frame S B) → Memory S → ℕ → ℕ → Option (StobjList S) → Tree → Tree → StateOf O → Turned S O B
  make_local room base frames memory s x None producer body state = Over Unknown
  make_local room base frames memory s x (Some l) producer body state =
      next room base frames (written (base + s) (StobjNamed x) memory) (Local s body) (Begin producer base) (record state { stobjs = keeping.make x l state.stobjs })

  -- ---- a tree begins

  abbrev pub open_tree : ℕ → ℕ → List (Frame S B) → Memory S → Tree → StateOf O → Turned S O B
  open_tree room base frames memory (Leaf operand) state = stop_here None room base frames memory Depth state
  open_tree room base frames memory (If s test held other) state = next room base frames memory (Test held other) (Begin test base) state
  open_tree room base frames memory (Let s trees body) state = next_part room base frames memory s 0 trees (ThenBody body) state
  open_tree room base frames memory (Mv s trees) state = next_part room base frames memory s 0 trees ThenValues state
  open_tree room base frames memory (MvLet s tree body) state = next room base frames memory (Several s body) (Begin tree base) state
  open_tree room base frames memory (StobjLet s children producer consumer) state =
      next room base frames memory (Borrowing s children [] producer consumer) (Give []) state
  open_tree room base frames memory (WithLocal s stobj producer body) state =
      counted state (make_local room base frames memory s stobj (r.fresh stobj) producer body) (stop_here None room base frames memory Steps state)
  open_tree room base frames memory (MustBeEqual logic) state = last_form room base frames memory logic state
  open_tree room base frames memory (Call s n trees) state = next_part room base frames memory s 0 trees (ThenCall n) state

  abbrev pub open_in : ℕ → ℕ → List (Frame S B) → Memory S → Tree → StateOf O → Turned S O B
  open_in zero base frames memory tree state = going zero frames memory (Stopped Depth (here state)) state
  open_in (suc room) base frames memory tree state = open_tree room base frames memory tree state

  -- a leaf has its value; another tree is opened
  abbrev pub begin : ℕ → ℕ → List (Frame S B) → Memory S → Tree → StateOf O → Turned S O B
  begin room base frames memory (Leaf operand) state = going room frames memory (Give (operand_value memory base operand ∷ [])) state
  begin room base frames memory (If s test held other) state = open_in room base frames memory (If s test held other) state
  begin room base frames memory (Let s trees body) state = open_in room base frames memory (Let s trees body) state
  begin room base frames memory (Mv s trees) state = open_in room base frames memory (Mv s trees) state
  begin room base frames memory (MvLet s tree body) state = open_in room base frames memory (MvLet s tree body) state
  begin room base frames memory (StobjLet s children producer consumer) state = open_in room base frames memory (StobjLet s children producer consumer) state
  begin room base frames memory (WithLocal s stobj producer body) state = open_in room base frames memory (WithLocal s stobj producer body) state
  begin room base frames memory (MustBeEqual logic) state = open_in room base frames memory (MustBeEqual logic) state
  begin room base frames memory (Call s n trees) state = open_in room base frames memory (Call s n trees) state

  -- ---- a form goes on with the values that it waited for

  abbrev pub go_on : ℕ → ℕ → List (Frame S B) → Memory S → Step S B → List (Shown S) → StateOf O → Turned S O B
  go_on room base frames memory (Test held other) values state = last_form room base frames memory (if is_false r values then other else held) state
  go_on room base frames memory (Parts s count trees goal) values state =
      next_part room base frames (written (base + (s + count)) (single r.kind values) memory) s (count + 1) trees goal state
  go_on room base frames memory (Several s body) values state = last_form room base frames (all_written (base + s) values memory) body state
  go_on room base frames memory (Calling s n count) values state = call room (base + s) frames memory n (read (window memory (base + s)) 0 count) state
  go_on room base frames memory (Guarding export name formals names body behind) values state =
      let actuals = actuals_at memory base (length formals) names in
      let after = leaving keeping formals actuals behind state in
      if is_false r values then refuse export room base frames memory name actuals after
      else next room base frames memory (Running export formals names (keeping.behind after.stobjs)) (Begin body base) (entering keeping formals actuals after)
  go_on room base frames memory (Running export formals names behind) values state =
      let actuals = actuals_at memory base (length formals) names in
      next room base frames memory (Last export) (Give (map (outer_value formals actuals) values)) (leaving keeping formals actuals behind state)
  go_on room base frames memory (Allowing f names begun behind) values state =
      let actuals = actuals_at memory base (length f.formals) names in
      let after = leaving keeping f.formals actuals behind state in
      if is_false r values then stop_from None room base frames memory (Guard f.name actuals) (cut_before begun.number (here after)) after
      else next room base frames memory (Exporting f names begun) (Give []) after
  go_on room base frames memory (Exporting f names begun) values state = call_exec room base frames memory f names begun state
  go_on room base frames memory (Borrowing s children borrowed producer consumer) values state =
      next_child room base frames memory s children borrowed producer consumer state
  go_on room base frames memory (Producing s borrowed consumer) values state =
      put_next room base frames (all_written (base + s) values memory) s borrowed borrowed consumer state
  go_on room base frames memory (Putting s left borrowed consumer) values state = put_next room base frames memory s left borrowed consumer state
  go_on room base frames memory (Local s body) values state = last_form room base frames (all_written (base + s) values memory) body (unmaking keeping state)
  go_on room base frames memory (Last export) values state = going (suc room) frames memory (Give values) (out_of export state)

  abbrev pub give : ℕ → List (Frame S B) → Memory S → List (Shown S) → StateOf O → Turned S O B
  give room [] memory values state = Over (Gives values state)
  give room (f ∷ fs) memory values state = go_on room f.base fs memory f.step values state

  -- ---- a form ends by a stop: its state and where the stop came from, seen from outside

  abbrev pub closed_state : Memory S → ℕ → Step S B → StateOf O → StateOf O
  closed_state memory base (Test held other) state = state
  closed_state memory base (Parts s count trees goal) state = state
  closed_state memory base (Several s body) state = state
  closed_state memory base (Calling s n count) state = state
  closed_state memory base (Guarding export name formals names body behind) state =
      abandoned memory base export (leaving keeping formals (actuals_at memory base (length formals) names) behind state)
  closed_state memory base (Running export formals names behind) state =
      abandoned memory base export (leaving keeping formals (actuals_at memory base (length formals) names) behind state)
  closed_state memory base (Allowing f names begun behind) state = leaving keeping f.formals (actuals_at memory base (length f.formals) names) behind state
  closed_state memory base (Exporting f names begun) state = state
  closed_state memory base (Borrowing s children borrowed producer consumer) state = state
  closed_state memory base (Producing s borrowed consumer) state =
      ending_loans keeping (length borrowed) (record state { stobjs = put_all keeping (loans_of borrowed) state.stobjs })
  closed_state memory base (Putting s left borrowed consumer) state =
      ending_loans keeping (length borrowed) (record state { stobjs = put_all keeping (loans_of borrowed) state.stobjs })
  closed_state memory base (Local s body) state = unmaking keeping state
  closed_state memory base (Last export) state = abandoned memory base export state

  abbrev pub closed_origin : Step S B → Origin → Origin
  closed_origin (Test held other) origin = origin
  closed_origin (Parts s count trees goal) origin = origin
  closed_origin (Several s body) origin = origin
  closed_origin (Calling s n count) origin = origin
  closed_origin (Guarding export name formals names body behind) origin = stopped_in export origin
  closed_origin (Running export formals names behind) origin = stopped_in export origin
  closed_origin (Allowing f names begun behind) origin = cut_before begun.number origin
  closed_origin (Exporting f names begun) origin = cut_before begun.number origin
  closed_origin (Borrowing s children borrowed producer consumer) origin = origin
  closed_origin (Producing s borrowed consumer) origin = origin
  closed_origin (Putting s left borrowed consumer) origin = origin
  closed_origin (Local s body) origin = origin
  closed_origin (Last export) origin = stopped_in export origin

  abbrev pub close : ℕ → List (Frame S B) → Memory S → Stop S → Origin → StateOf O → Turned S O B
  close room [] memory stop origin state = Over (Stops stop origin state)
  close room (f ∷ fs) memory stop origin state = going (suc room) fs memory (Stopped stop (closed_origin f.step origin)) (closed_state memory f.base f.step state)

  -- ---- one turn

  abbrev pub turn_by : ℕ → List (Frame S B) → Memory S → Control S → StateOf O → Turned S O B
  turn_by room frames memory (Begin tree base) state = begin room base frames memory tree state
  turn_by room frames memory (Give values) state = give room frames memory values state
  turn_by room frames memory (Stopped stop origin) state = close room frames memory stop origin state

  unfoldable pub turn : Machine S O B → Turned S O B
  turn m = turn_by m.room m.frames m.memory m.control m.state

-- a machine that is to evaluate a tree, its variables in the window from number 0 on
abbrev pub begun_on : {S O B : Type 0} → ℕ → Tree → Memory S → StateOf O → Machine S O B
begun_on depth tree memory state = record { room = depth; frames = []; memory = memory; control = Begin tree 0; state = state }
