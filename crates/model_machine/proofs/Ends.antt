-- Every machine ends.
use Rattle.std.proofs.Common.{◌≡◌, ℕ, zero, suc, List, [], ◌∷◌, ◌++◌, Bool, true, false, Option, Some, None, refl, ap, subst}
use Rattle.std.specs.Prelude.{nat_lt, nat_eq, if◌then◌else◌}
use Rattle.std.specs.List.{list_any}
use Rattle.model_lists.specs.Lists.{StobjList, item}
use Rattle.model_terms.specs.Cores.{Core, Cores, Reached, Var, Const, If, Let, Mv, MvLet, StobjLet, WithLocal, MustBeEqual, Call, none, more, reached}
use Rattle.model_terms.specs.Worlds.{Definition, FunctionOfAbstract, definition, Primitive, Defined, Macro, Constant, Concrete, Generated, Abstract, OfAbstract, Named, Signed}
use Rattle.model_terms.specs.declared.role.AbstractRole.{AbstractRole}
use Rattle.model_terms.specs.declared.role.AbstractRole.TheVariants as abstract_role
use Rattle.model_eval.specs.Outcomes.{Shown, Plain, StobjNamed, Stop, Steps, Depth, Origin, StateOf, OutcomeOf, Gives, Stops, Unknown, here, one_more_call}
use Rattle.model_eval.specs.Keeping.{Loan, Keeping, beginning}
use Rattle.model_eval.specs.Variables.{Variables, variable_in, single}
use Rattle.model_eval.specs.Lending.{is_reached, are_twins}
use Rattle.model_eval.specs.Evaluated.{RulesOf, is_false, leaf, loan_of, evaluated}
use Rattle.model_machine.specs.Frames.{Begun, Export, Then, ThenBody, ThenValues, ThenCall, Step, Test, Parts, Several, Calling, Guarding, Running, Allowing, Exporting, Borrowing, Producing, Putting, Local, Last, Frame, Control, Begin, Give, Stopped, Machine, Turned, Going, Over}
use Rattle.model_machine.specs.Turns.{going, last_form, stop_here, done, call_of_abstract, call_by_definition, call, call_exec, parts_done, next_part, reach_from, borrow, lend_all, next_child, put_next, make_local, open_form, open_in, begin, go_on, turn_by, turn_of}
use Rattle.model_machine.specs.Stands.{running, unwound, outcome_of, outcome_after}
use Rattle.model_machine.specs.Ending.{EndsIn, begun_on}
use Rattle.model_machine.specs.Laws.{AlwaysEnds}
use Rattle.model_machine.proofs.Same.{turn_keeps}

module _ {S O B : Type 0} {keeping : Keeping S O B} (r : RulesOf keeping) where
  -- after exactly so many more turns it is over
  abbrev IsOverIn : ℕ → Turned S O B → Type 0
  IsOverIn zero (Over last) = Unit {0}
  IsOverIn zero (Going m) = ⊥
  IsOverIn (suc n) (Over last) = ⊥
  IsOverIn (suc n) (Going m) = IsOverIn n (turn_of r m)

  abbrev Ends : Turned S O B → Type 0
  Ends t = (n : ℕ) × IsOverIn n t

  turned : (room : ℕ) (frames : List (Frame S B)) (control : Control S) (state : StateOf O) → Ends (turn_by r room frames control state) → Ends (going r room frames control state)
  unfolding turn_of
  turned room frames control state e = (suc e.0, e.1)

  over : (outcome : OutcomeOf S O) → Ends (Over outcome)
  over outcome = (zero, tt)

  ends_if : (b : Bool) (t u : Turned S O B) → Ends t → Ends u → Ends (if b then t else u)
  ends_if true t u e f = e
  ends_if false t u e f = f

  -- frames end, whatever the innermost form gives or is stopped by
  record FramesEnd (room : ℕ) (frames : List (Frame S B)) : Type 0 where
    gives : (values : List (Shown S)) (state : StateOf O) → Ends (going r room frames (Give values) state)
    stops : (stop : Stop S) (w : Origin) (state : StateOf O) → Ends (going r room frames (Stopped stop w) state)

  -- so does every form with so many more open
  abbrev FormsEnd : ℕ → Type 0
  FormsEnd room = (form : Core) (variables : Variables S) (frames : List (Frame S B)) (state : StateOf O) → FramesEnd room frames → Ends (going r room frames (Begin form variables) state)

  module _ (room : ℕ) (forms_end : FormsEnd room) (frames : List (Frame S B)) (around : FramesEnd (suc room) frames) (variables : Variables S) where
    abbrev with_step : Step S B → List (Frame S B)
    with_step step = record { step = step; variables = variables } ∷ frames

    framed : (step : Step S B) → ((values : List (Shown S)) (state : StateOf O) → Ends (go_on r room variables frames step values state)) → FramesEnd room (with_step step)
    framed step h = record {
      gives = λ values state. turned room (with_step step) (Give values) state (h values state);
      stops = λ stop w state. turned room (with_step step) (Stopped stop w) state (around.stops stop _ _);
    }

    last_ends : (export : Option (Export S B)) → FramesEnd room (with_step (Last export))
    last_ends export = framed (Last export) (λ values state. around.gives values _)

    last_form_ends : (form : Core) (inner : Variables S) (state : StateOf O) → Ends (last_form r room variables frames form inner state)
    last_form_ends form inner state = forms_end form inner (with_step (Last None)) state (last_ends None)

    stop_ends : (export : Option (Export S B)) (stop : Stop S) (state : StateOf O) → Ends (stop_here r export room variables frames stop state)
    stop_ends export stop state = (last_ends export).stops stop (here state) state

    done_ends : (export : Option (Export S B)) (outcome : OutcomeOf S O) → Ends (done r export room variables frames outcome)
    done_ends export (Gives values state) = (last_ends export).gives values state
    done_ends export (Stops stop w state) = (last_ends export).stops stop w state
    done_ends export Unknown = over Unknown

    -- ---- calls

    running_ends : (export : Option (Export S B)) (formals : List ℕ) (actuals : List (Shown S)) (behind : B) → FramesEnd room (with_step (Running export formals actuals behind))
    running_ends export formals actuals behind = framed (Running export formals actuals behind) (λ values state. (last_ends export).gives _ _)

    guarding_ends : (export : Option (Export S B)) (name : ℕ) (formals : List ℕ) (actuals : List (Shown S)) (body : Core) (behind : B) → FramesEnd room (with_step (Guarding export name formals actuals body behind))
    guarding_ends export name formals actuals body behind =
        framed (Guarding export name formals actuals body behind)
        (λ values state. ends_if (is_false r values) _ _ (stop_ends export _ _) (forms_end body _ _ _ (running_ends export formals actuals _)))

    definition_ends : (export : Option (Export S B)) (go : FunctionOfAbstract → StateOf O → Turned S O B) (d : Option Definition) (name : ℕ) (values : List (Shown S)) (state : StateOf O)
        → ((f : FunctionOfAbstract) (after : StateOf O) → Ends (go f after)) → Ends (call_by_definition r export go room variables frames d name values state)
    definition_ends export go None name values state h = stop_ends export _ state
    definition_ends export go (Some (Primitive f row)) name values state h = done_ends export _
    definition_ends export go (Some (Defined f)) name values state h = forms_end f.guard _ _ _ (guarding_ends export f.name f.formals values f.body _)
    definition_ends export go (Some (Macro f formals body)) name values state h = stop_ends export _ state
    definition_ends export go (Some (Constant f value)) name values state h = stop_ends export _ state
    definition_ends export go (Some (Concrete d class)) name values state h = stop_ends export _ state
    definition_ends export go (Some (Generated g)) name values state h = done_ends export _
    definition_ends export go (Some (Abstract d)) name values state h = stop_ends export _ state
    definition_ends export go (Some (OfAbstract f)) name values state h = h f state
    definition_ends export go (Some (Named f formals)) name values state h = stop_ends export _ state
    definition_ends export go (Some (Signed f formals signature executable)) name values state h = stop_ends export _ state

    exec_ends : (f : FunctionOfAbstract) (values : List (Shown S)) (begun : Begun B) (state : StateOf O) → Ends (call_exec r room variables frames f values begun state)
    exec_ends f values begun state =
        ends_if (nat_lt state.calls r.limit) _ _
        (definition_ends _ _ (definition r.world f.exec) f.exec values (beginning keeping (one_more_call state)) (λ g after. stop_ends _ _ after))
        ((last_ends None).stops Steps _ state)

    exporting_ends : (f : FunctionOfAbstract) (actuals : List (Shown S)) (begun : Begun B) → FramesEnd room (with_step (Exporting f actuals begun))
    exporting_ends f actuals begun = framed (Exporting f actuals begun) (λ values state. exec_ends f actuals begun state)

    allowing_ends : (f : FunctionOfAbstract) (actuals : List (Shown S)) (begun : Begun B) (behind : B) → FramesEnd room (with_step (Allowing f actuals begun behind))
    allowing_ends f actuals begun behind =
        framed (Allowing f actuals begun behind) (λ values state. ends_if (is_false r values) _ _ ((last_ends None).stops _ _ _) ((exporting_ends f actuals begun).gives [] _))

    abstract_ends : (f : FunctionOfAbstract) (role : AbstractRole) (values : List (Shown S)) (state : StateOf O) → Ends (call_of_abstract r room variables frames f role values state)
    abstract_ends f abstract_role.Recognizer values state = (last_ends None).gives _ state
    abstract_ends f abstract_role.Creator values state = stop_ends None _ state
    abstract_ends f abstract_role.Export values state = forms_end f.guard _ _ _ (allowing_ends f values _ _)

    call_ends : (f : ℕ) (values : List (Shown S)) (state : StateOf O) → Ends (call r room variables frames f values state)
    call_ends f values state =
        ends_if (nat_lt state.calls r.limit) _ _
        (definition_ends None _ (definition r.world f) f values (one_more_call state) (λ g after. abstract_ends g g.role values after))
        (stop_ends None Steps state)

    calling_ends : (f : ℕ) (actuals : List (Shown S)) → FramesEnd room (with_step (Calling f actuals))
    calling_ends f actuals = framed (Calling f actuals) (λ values state. call_ends f actuals state)

    -- ---- parts

    parts_done_end : (goal : Then) (values : List (Shown S)) (state : StateOf O) → Ends (parts_done r room variables frames goal values state)
    parts_done_end (ThenBody names body) values state = last_form_ends body _ state
    parts_done_end ThenValues values state = (last_ends None).gives values state
    parts_done_end (ThenCall f) values state = (calling_ends f values).gives [] state

    part_ends : (forms : Cores) (before : List (Shown S)) (goal : Then) (state : StateOf O) → Ends (next_part r room variables frames forms before goal state)
    part_ends none before goal state = parts_done_end goal before state
    part_ends (more form forms) before goal state =
        forms_end form variables _ state (framed (Parts forms before goal) (λ values after. part_ends forms (before ++ single r.kind values ∷ []) goal after))

    -- ---- children

    put_ends : (vars : List ℕ) (left loans : List (Loan S)) (consumer : Core) (values : List (Shown S)) (state : StateOf O) → Ends (put_next r room variables frames vars left loans consumer values state)
    put_ends vars [] loans consumer values state = last_form_ends consumer _ _
    put_ends vars (l ∷ ls) loans consumer values state =
        let after = framed (Putting vars ls loans consumer values) (λ vs later. put_ends vars ls loans consumer values later) in
        ends_if (list_any (nat_eq l.child) vars) _ _
        (ends_if (nat_lt state.calls r.limit) _ _ (after.gives [] _) (after.stops Steps (here state) state))
        (after.gives [] state)

    lend_ends : (loans : List (Loan S)) (vars : List ℕ) (producer consumer : Core) (state : StateOf O) → Ends (lend_all r room variables frames loans vars producer consumer state)
    lend_ends loans vars producer consumer state =
        ends_if (are_twins r.kind loans) _ _ (stop_ends None _ state)
        (forms_end producer _ _ _ (framed (Producing vars loans consumer) (λ values after. put_ends vars loans loans consumer values after)))

    reach_ends : (step : Loan S → Step S B) (child : ℕ) (by : Reached) (p : Shown S) (state : StateOf O) → ((loan : Loan S) → FramesEnd room (with_step (step loan))) → Ends (reach_from r room variables frames step child by p state)
    reach_ends step child by (Plain o) state h = stop_ends None Depth state
    reach_ends step child by (StobjNamed p) state h =
        let loan = loan_of r child p by variables in
        ends_if (nat_lt state.calls r.limit) _ _
        (ends_if (is_reached loan.index (item loan.field (keeping.read state.stobjs loan.parent))) _ _ ((h loan).gives [] _) (stop_ends None _ _))
        (stop_ends None Steps state)

    borrow_ends : (step : Loan S → Step S B) (child : ℕ) (by : Option Reached) (state : StateOf O) → ((loan : Loan S) → FramesEnd room (with_step (step loan))) → Ends (borrow r room variables frames step child by state)
    borrow_ends step child None state h = stop_ends None Depth state
    borrow_ends step child (Some by) state h = reach_ends step child by (variable_in r.kind variables by.parent) state h

    child_ends : (names : List ℕ) (forms : Cores) (loans : List (Loan S)) (vars : List ℕ) (producer consumer : Core) (state : StateOf O) → Ends (next_child r room variables frames names forms loans vars producer consumer state)
    child_ends names none loans vars producer consumer state = lend_ends loans vars producer consumer state
    child_ends [] (more form forms) loans vars producer consumer state = lend_ends loans vars producer consumer state
    child_ends (x ∷ xs) (more form forms) loans vars producer consumer state =
        borrow_ends (λ loan. Borrowing xs forms (loans ++ loan ∷ []) vars producer consumer) x (reached form) state
        (λ loan. framed (Borrowing xs forms (loans ++ loan ∷ []) vars producer consumer) (λ values after. child_ends xs forms (loans ++ loan ∷ []) vars producer consumer after))

    -- ---- forms

    local_ends : (names : List ℕ) (body : Core) → FramesEnd room (with_step (Local names body))
    local_ends names body = framed (Local names body) (λ values state. last_form_ends body _ _)

    make_ends : (x : ℕ) (fresh : Option (StobjList S)) (names : List ℕ) (producer body : Core) (state : StateOf O) → Ends (make_local r room variables frames x fresh names producer body state)
    make_ends x None names producer body state = over Unknown
    make_ends x (Some l) names producer body state = forms_end producer _ _ _ (local_ends names body)

    on_ends : (step : Step S B) (values : List (Shown S)) (state : StateOf O) → Ends (go_on r room variables frames step values state)
    on_ends (Test b c) values state = last_form_ends _ variables state
    on_ends (Parts forms before goal) values state = part_ends forms _ goal state
    on_ends (Several names body) values state = last_form_ends body _ state
    on_ends (Calling f actuals) values state = call_ends f actuals state
    on_ends (Guarding export name formals actuals body behind) values state =
        ends_if (is_false r values) _ _ (stop_ends export _ _) (forms_end body _ _ _ (running_ends export formals actuals _))
    on_ends (Running export formals actuals behind) values state = (last_ends export).gives _ _
    on_ends (Allowing f actuals begun behind) values state = ends_if (is_false r values) _ _ ((last_ends None).stops _ _ _) ((exporting_ends f actuals begun).gives [] _)
    on_ends (Exporting f actuals begun) values state = exec_ends f actuals begun state
    on_ends (Borrowing names forms loans vars producer consumer) values state = child_ends names forms loans vars producer consumer state
    on_ends (Producing vars loans consumer) values state = put_ends vars loans loans consumer values state
    on_ends (Putting vars left loans consumer given) values state = put_ends vars left loans consumer given state
    on_ends (Local names body) values state = last_form_ends body _ _
    on_ends (Last export) values state = around.gives values _

    open_ends : (form : Core) (state : StateOf O) → Ends (open_form r room variables frames form state)
    open_ends (Var x) state = stop_ends None Depth state
    open_ends (Const o) state = stop_ends None Depth state
    open_ends (If a b c) state = forms_end a variables _ state (framed (Test b c) (λ values after. last_form_ends _ variables after))
    open_ends (Let names forms body) state = part_ends forms [] (ThenBody names body) state
    open_ends (Mv parts) state = part_ends parts [] ThenValues state
    open_ends (MvLet names form body) state = forms_end form variables _ state (framed (Several names body) (λ values after. last_form_ends body _ after))
    open_ends (StobjLet names forms vars producer consumer) state =
        (framed (Borrowing names forms [] vars producer consumer) (λ values after. child_ends names forms [] vars producer consumer after)).gives [] state
    open_ends (WithLocal stobj names producer body) state =
        ends_if (nat_lt state.calls r.limit) _ _ (make_ends stobj (r.fresh stobj) names producer body (one_more_call state)) (stop_ends None Steps state)
    open_ends (MustBeEqual logic exec) state = last_form_ends logic variables state
    open_ends (Call f actuals) state = part_ends actuals [] (ThenCall f) state

  begin_ends : (value : Option (Shown S)) (variables : Variables S) (frames : List (Frame S B)) (form : Core) (state : StateOf O) (room : ℕ) → FramesEnd room frames
      → Ends (open_in r room variables frames form state) → Ends (begin r value room variables frames form state)
  begin_ends (Some v) variables frames form state room around e = around.gives (v ∷ []) state
  begin_ends None variables frames form state room around e = e

  forms_end : (room : ℕ) → FormsEnd room
  forms_end zero form variables frames state around =
      turned zero frames (Begin form variables) state (begin_ends (leaf r form variables) variables frames form state zero around (around.stops Depth (here state) state))
  forms_end (suc room) form variables frames state around =
      turned (suc room) frames (Begin form variables) state
      (begin_ends (leaf r form variables) variables frames form state (suc room) around (open_ends room (forms_end room) frames around variables form state))

  frames_end : (frames : List (Frame S B)) (room : ℕ) → FramesEnd room frames
  frames_end [] room = record {
    gives = λ values state. turned room [] (Give values) state (over (Gives values state));
    stops = λ stop w state. turned room [] (Stopped stop w) state (over (Stops stop w state));
  }
  frames_end (f ∷ fs) room =
      framed room (forms_end room) fs (frames_end fs (suc room)) f.variables f.step
      (λ values state. on_ends room (forms_end room) fs (frames_end fs (suc room)) f.variables f.step values state)

  control_ends : (control : Control S) (room : ℕ) (frames : List (Frame S B)) (state : StateOf O) → Ends (going r room frames control state)
  control_ends (Begin form variables) room frames state = forms_end room form variables frames state (frames_end frames room)
  control_ends (Give values) room frames state = (frames_end frames room).gives values state
  control_ends (Stopped stop w) room frames state = (frames_end frames room).stops stop w state

  machine_ends : (m : Machine S O B) → Ends (Going m)
  machine_ends m = control_ends m.control m.room m.frames m.state

  -- ---- how many turns

  turns_after : (m : Machine S O B) (n : ℕ) → IsOverIn n (Going m) → (k : ℕ) × IsOverIn k (turn_of r m) × (n ≡ suc k)
  turns_after m zero e = elim e [ ]
  turns_after m (suc n) e = (n, e, refl)

  pub turns_left : Machine S O B → ℕ
  turns_left m = (turns_after m (machine_ends m).0 (machine_ends m).1).0

  over_in : (m : Machine S O B) → IsOverIn (turns_left m) (turn_of r m)
  unfolding turns_left
  over_in m = (turns_after m (machine_ends m).0 (machine_ends m).1).1

  only_one : (n k : ℕ) (t : Turned S O B) → IsOverIn n t → IsOverIn k t → n ≡ k
  only_one zero zero t e f = refl
  only_one zero (suc k) (Over last) e f = elim f [ ]
  only_one zero (suc k) (Going m) e f = elim e [ ]
  only_one (suc n) zero (Over last) e f = elim e [ ]
  only_one (suc n) zero (Going m) e f = elim f [ ]
  only_one (suc n) (suc k) (Over last) e f = elim e [ ]
  only_one (suc n) (suc k) (Going m) e f = ap suc (only_one n k (turn_of r m) e f)

  pub turns_fall : (m after : Machine S O B) → turn_of r m ≡ Going after → turns_left m ≡ suc (turns_left after)
  turns_fall m after e = only_one (turns_left m) (suc (turns_left after)) (Going after) (subst (IsOverIn (turns_left m)) e (over_in m)) (over_in after)

  ends_with : (n : ℕ) (t : Turned S O B) → IsOverIn n t → EndsIn r n t (outcome_after (running r) t)
  ends_with zero (Over last) e = refl
  ends_with zero (Going m) e = e
  ends_with (suc n) (Over last) e = e
  ends_with (suc n) (Going m) e = subst (EndsIn r n (turn_of r m)) (turn_keeps r m) (ends_with n (turn_of r m) e)

  pub ends_so : (m : Machine S O B) → EndsIn r (turns_left m) (turn_of r m) (outcome_of (running r) m)
  ends_so m = subst (EndsIn r (turns_left m) (turn_of r m)) (turn_keeps r m) (ends_with (turns_left m) (turn_of r m) (over_in m))

  pub begins_so : (depth : ℕ) (form : Core) (variables : Variables S) (state : StateOf O) → outcome_of (running r) (begun_on depth form variables state) ≡ evaluated (running r) depth form variables state
  unfolding outcome_of unwound
  begins_so depth form variables state = refl

pub always_ends : {S O B : Type 0} (keeping : Keeping S O B) → AlwaysEnds keeping
always_ends keeping = record { left = turns_left; ends = ends_so; falls = turns_fall; begins = begins_so }
