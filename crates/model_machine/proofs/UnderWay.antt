-- How many exports are under way is how many frames run one, at every turn.
use Rattle.std.proofs.Common.{◌≡◌, ℕ, zero, suc, List, [], ◌∷◌, ◌++◌, length, Bool, true, false, Option, Some, None, refl, ap, ◌∙◌, subst}
use Rattle.std.specs.Prelude.{nat_lt, nat_eq, if◌then◌else◌}
use Rattle.std.specs.List.{list_any}
use Rattle.model_lists.specs.Lists.{StobjList, item}
use Rattle.model_lists.specs.Effects.{Effect, Refuses, Reads, Writes}
use Rattle.model_terms.specs.Cores.{Core, Cores, Reached, Var, Const, If, Let, Mv, MvLet, StobjLet, WithLocal, MustBeEqual, Call, none, more, reached}
use Rattle.model_terms.specs.Worlds.{Definition, FunctionOfAbstract, definition, Primitive, Defined, Macro, Constant, Concrete, Generated, Abstract, OfAbstract, Named, Signed}
use Rattle.model_terms.specs.declared.role.AbstractRole.{AbstractRole}
use Rattle.model_terms.specs.declared.role.AbstractRole.TheVariants as abstract_role
use Rattle.model_eval.specs.Outcomes.{Shown, Plain, StobjNamed, StateOf, OutcomeOf, Gives, Stops, Unknown, one_more_call}
use Rattle.model_eval.specs.Keeping.{Loan, Keeping, put_all, beginning}
use Rattle.model_eval.specs.Variables.{Variables, variable_in}
use Rattle.model_eval.specs.Lending.{is_reached, are_twins}
use Rattle.model_eval.specs.GeneratedCalls.{effected}
use Rattle.model_eval.specs.Evaluated.{RulesOf, is_false, leaf, loan_of}
use Rattle.model_machine.specs.Frames.{Begun, Export, Then, ThenBody, ThenValues, ThenCall, Step, Test, Parts, Several, Calling, Guarding, Running, Allowing, Exporting, Borrowing, Producing, Putting, Local, Last, Frame, Control, Begin, Give, Stopped, Machine, Turned, Going, Over}
use Rattle.model_machine.specs.Turns.{out_of, abandoned, done, call_of_abstract, call_by_definition, call, call_exec, parts_done, next_part, reach_from, borrow, lend_all, next_child, put_next, make_local, open_form, begin, go_on, ended_state, closed_state, turn_by, turn_of}
use Rattle.model_machine.specs.Cutting.{NestsExports, HasStobjs, PrimitivesWriteNone, Leads}

-- the export whose exec function a frame runs
abbrev pub export_in : {S B : Type 0} → Step S B → Option (Export S B)
export_in (Test b c) = None
export_in (Parts forms before goal) = None
export_in (Several names body) = None
export_in (Calling f actuals) = None
export_in (Guarding export name formals actuals body behind) = export
export_in (Running export formals actuals behind) = export
export_in (Allowing f actuals begun behind) = None
export_in (Exporting f actuals begun) = None
export_in (Borrowing names forms loans vars producer consumer) = None
export_in (Producing vars loans consumer) = None
export_in (Putting vars left loans consumer given) = None
export_in (Local names body) = None
export_in (Last export) = export

-- one more than so many, if there is one
abbrev pub and_this : {S B : Type 0} → Option (Export S B) → ℕ → ℕ
and_this None n = n
and_this (Some x) n = suc n

-- so many more
abbrev pub above : ℕ → ℕ → ℕ
above d zero = d
above d (suc n) = suc (above d n)

abbrev pub exports_in : {S B : Type 0} → List (Frame S B) → ℕ
exports_in [] = zero
exports_in (f ∷ fs) = and_this (export_in f.step) (exports_in fs)

module _ {S O B : Type 0} {keeping : Keeping S O B} (under_way : O → ℕ) (nests : NestsExports keeping under_way) (r : RulesOf keeping) where
  pub left_out : (x : Option (Export S B)) (n d : ℕ) (s : StateOf O) → under_way s.stobjs ≡ above d (and_this x n) → under_way (out_of r x s).stobjs ≡ above d n
  left_out None n d s e = e
  left_out (Some x) n d s e = nests.commits (above d n) s.stobjs e

  given_up : (x : Option (Export S B)) (n d : ℕ) (s : StateOf O) → under_way s.stobjs ≡ above d (and_this x n) → under_way (abandoned r x s).stobjs ≡ above d n
  given_up None n d s e = e
  given_up (Some x) n d s e = nests.abandons (above d n) x.actuals x.begun.before s.stobjs e

  all_put : (loans : List (Loan S)) (stobjs : O) → under_way (put_all keeping loans stobjs) ≡ under_way stobjs
  all_put [] stobjs = refl
  all_put (l ∷ ls) stobjs = all_put ls (keeping.put l stobjs) ∙ nests.puts l stobjs

  loans_ended : (loans : List (Loan S)) (stobjs : O) → under_way (keeping.end_loans (length loans) (put_all keeping loans stobjs)) ≡ under_way stobjs
  loans_ended loans stobjs = nests.ends_loans (length loans) _ ∙ all_put loans stobjs

  -- a form ends by values, or by a stop: what is under way around it
  pub ended_so : (step : Step S B) (n d : ℕ) (s : StateOf O) → under_way s.stobjs ≡ above d (and_this (export_in step) n) → under_way (ended_state r step s).stobjs ≡ above d n
  ended_so (Test b c) n d s e = e
  ended_so (Parts forms before goal) n d s e = e
  ended_so (Several names body) n d s e = e
  ended_so (Calling f actuals) n d s e = e
  ended_so (Guarding export name formals actuals body behind) n d s e = left_out export n d _ (nests.hands_back formals actuals s.stobjs behind ∙ e)
  ended_so (Running export formals actuals behind) n d s e = left_out export n d _ (nests.hands_back formals actuals s.stobjs behind ∙ e)
  ended_so (Allowing f actuals begun behind) n d s e = nests.hands_back f.formals actuals s.stobjs behind ∙ e
  ended_so (Exporting f actuals begun) n d s e = e
  ended_so (Borrowing names forms loans vars producer consumer) n d s e = e
  ended_so (Producing vars loans consumer) n d s e = loans_ended loans s.stobjs ∙ e
  ended_so (Putting vars left loans consumer given) n d s e = loans_ended loans s.stobjs ∙ e
  ended_so (Local names body) n d s e = nests.unmakes s.stobjs ∙ e
  ended_so (Last export) n d s e = left_out export n d s e

  closed_so : (step : Step S B) (n d : ℕ) (s : StateOf O) → under_way s.stobjs ≡ above d (and_this (export_in step) n) → under_way (closed_state r step s).stobjs ≡ above d n
  closed_so (Test b c) n d s e = e
  closed_so (Parts forms before goal) n d s e = e
  closed_so (Several names body) n d s e = e
  closed_so (Calling f actuals) n d s e = e
  closed_so (Guarding export name formals actuals body behind) n d s e = given_up export n d _ (nests.hands_back formals actuals s.stobjs behind ∙ e)
  closed_so (Running export formals actuals behind) n d s e = given_up export n d _ (nests.hands_back formals actuals s.stobjs behind ∙ e)
  closed_so (Allowing f actuals begun behind) n d s e = nests.hands_back f.formals actuals s.stobjs behind ∙ e
  closed_so (Exporting f actuals begun) n d s e = e
  closed_so (Borrowing names forms loans vars producer consumer) n d s e = e
  closed_so (Producing vars loans consumer) n d s e = loans_ended loans s.stobjs ∙ e
  closed_so (Putting vars left loans consumer given) n d s e = loans_ended loans s.stobjs ∙ e
  closed_so (Local names body) n d s e = nests.unmakes s.stobjs ∙ e
  closed_so (Last export) n d s e = given_up export n d s e

  module _ (writes_none : PrimitivesWriteNone r) (d : ℕ) where
    -- the exports that frames run, and so many more, are under way
    abbrev pub Tells : Turned S O B → Type 0
    Tells (Going m) = under_way m.state.stobjs ≡ above d (exports_in m.frames)
    Tells (Over outcome) = Unit {0}

    pub record Told (t : Turned S O B) : Type 0 where
      pub facts : Tells t

    pub told : (m : Machine S O B) → under_way m.state.stobjs ≡ above d (exports_in m.frames) → Told (Going m)
    told m e = record { facts = e }

    told_over : (outcome : OutcomeOf S O) → Told (Over outcome)
    told_over outcome = record { facts = tt }

    told_if : (b : Bool) (t u : Turned S O B) → Told t → Told u → Told (if b then t else u)
    told_if true t u e f = e
    told_if false t u e f = f

    -- ---- calls

    told_done : (export : Option (Export S B)) (room : ℕ) (variables : Variables S) (frames : List (Frame S B)) (stobjs : O) (outcome : OutcomeOf S O) → under_way stobjs ≡ above d (and_this export (exports_in frames)) → HasStobjs stobjs outcome
        → Told (done r export room variables frames outcome)
    told_done export room variables frames stobjs (Gives values state) e h = told _ (ap under_way h ∙ e)
    told_done export room variables frames stobjs (Stops stop w state) e h = told _ (ap under_way h ∙ e)
    told_done export room variables frames stobjs Unknown e h = told_over Unknown

    told_generated : (export : Option (Export S B)) (room : ℕ) (variables : Variables S) (frames : List (Frame S B)) (f : ℕ) (values : List (Shown S)) (x : Option ℕ) (s : StateOf O) (effect : Effect S)
        → under_way s.stobjs ≡ above d (and_this export (exports_in frames)) → Told (done r export room variables frames (effected keeping f values x s effect))
    told_generated export room variables frames f values x s Refuses e = told _ e
    told_generated export room variables frames f values x s (Reads os) e = told _ e
    told_generated export room variables frames f values None s (Writes new) e = told _ e
    told_generated export room variables frames f values (Some x) s (Writes new) e = told _ (nests.writes x new s.stobjs ∙ e)

    told_abstract : (room : ℕ) (variables : Variables S) (frames : List (Frame S B)) (f : FunctionOfAbstract) (role : AbstractRole) (values : List (Shown S)) (s : StateOf O) → under_way s.stobjs ≡ above d (exports_in frames)
        → Told (call_of_abstract r room variables frames f role values s)
    told_abstract room variables frames f abstract_role.Recognizer values s e = told _ e
    told_abstract room variables frames f abstract_role.Creator values s e = told _ e
    told_abstract room variables frames f abstract_role.Export values s e = told _ (nests.hands_over f.formals values s.stobjs ∙ e)

    told_definition : (export : Option (Export S B)) (go : FunctionOfAbstract → StateOf O → Turned S O B) (room : ℕ) (variables : Variables S) (frames : List (Frame S B)) (def : Option Definition) (name : ℕ) (values : List (Shown S)) (s : StateOf O)
        → under_way s.stobjs ≡ above d (and_this export (exports_in frames)) → ((f : FunctionOfAbstract) → Told (go f s)) → Told (call_by_definition r export go room variables frames def name values s)
    told_definition export go room variables frames None name values s e h = told _ e
    told_definition export go room variables frames (Some (Primitive f row)) name values s e h = told_done export room variables frames s.stobjs _ e (writes_none.same f row.prim values s)
    told_definition export go room variables frames (Some (Defined f)) name values s e h = told _ (nests.hands_over f.formals values s.stobjs ∙ e)
    told_definition export go room variables frames (Some (Macro f formals body)) name values s e h = told _ e
    told_definition export go room variables frames (Some (Constant f value)) name values s e h = told _ e
    told_definition export go room variables frames (Some (Concrete c class)) name values s e h = told _ e
    told_definition export go room variables frames (Some (Generated g)) name values s e h = told_generated export room variables frames g.name values _ s _ e
    told_definition export go room variables frames (Some (Abstract a)) name values s e h = told _ e
    told_definition export go room variables frames (Some (OfAbstract f)) name values s e h = h f
    told_definition export go room variables frames (Some (Named f formals)) name values s e h = told _ e
    told_definition export go room variables frames (Some (Signed f formals signature executable)) name values s e h = told _ e

    told_call : (room : ℕ) (variables : Variables S) (frames : List (Frame S B)) (f : ℕ) (values : List (Shown S)) (s : StateOf O) → under_way s.stobjs ≡ above d (exports_in frames) → Told (call r room variables frames f values s)
    told_call room variables frames f values s e =
        told_if (nat_lt s.calls r.limit) _ _
        (told_definition None _ room variables frames (definition r.world f) f values (one_more_call s) e (λ g. told_abstract room variables frames g g.role values (one_more_call s) e))
        (told _ e)

    told_exec : (room : ℕ) (variables : Variables S) (frames : List (Frame S B)) (f : FunctionOfAbstract) (values : List (Shown S)) (begun : Begun B) (s : StateOf O) → under_way s.stobjs ≡ above d (exports_in frames)
        → Told (call_exec r room variables frames f values begun s)
    told_exec room variables frames f values begun s e =
        let after = beginning keeping (one_more_call s) in
        let now = nests.begins s.stobjs ∙ ap suc e in
        told_if (nat_lt s.calls r.limit) _ _ (told_definition (Some _) _ room variables frames (definition r.world f.exec) f.exec values after now (λ g. told _ now)) (told _ e)

    -- ---- parts and children

    told_parts_done : (room : ℕ) (variables : Variables S) (frames : List (Frame S B)) (goal : Then) (values : List (Shown S)) (s : StateOf O) → under_way s.stobjs ≡ above d (exports_in frames)
        → Told (parts_done r room variables frames goal values s)
    told_parts_done room variables frames (ThenBody names body) values s e = told _ e
    told_parts_done room variables frames ThenValues values s e = told _ e
    told_parts_done room variables frames (ThenCall f) values s e = told _ e

    told_part : (room : ℕ) (variables : Variables S) (frames : List (Frame S B)) (forms : Cores) (before : List (Shown S)) (goal : Then) (s : StateOf O) → under_way s.stobjs ≡ above d (exports_in frames)
        → Told (next_part r room variables frames forms before goal s)
    told_part room variables frames none before goal s e = told_parts_done room variables frames goal before s e
    told_part room variables frames (more form forms) before goal s e = told _ e

    told_reach_from : (room : ℕ) (variables : Variables S) (frames : List (Frame S B)) (step : Loan S → Step S B) (child : ℕ) (by : Reached) (p : Shown S) (s : StateOf O) → under_way s.stobjs ≡ above d (exports_in frames)
        → ((loan : Loan S) → export_in (step loan) ≡ None) → Told (reach_from r room variables frames step child by p s)
    told_reach_from room variables frames step child by (Plain o) s e h = told _ e
    told_reach_from room variables frames step child by (StobjNamed p) s e h =
        let loan = loan_of r child p by variables in
        told_if (nat_lt s.calls r.limit) _ _
        (told_if (is_reached loan.index (item loan.field (keeping.read s.stobjs loan.parent))) _ _ (told _ (rw (h loan) e)) (told _ e)) (told _ e)

    told_borrow : (room : ℕ) (variables : Variables S) (frames : List (Frame S B)) (step : Loan S → Step S B) (child : ℕ) (by : Option Reached) (s : StateOf O) → under_way s.stobjs ≡ above d (exports_in frames)
        → ((loan : Loan S) → export_in (step loan) ≡ None) → Told (borrow r room variables frames step child by s)
    told_borrow room variables frames step child None s e h = told _ e
    told_borrow room variables frames step child (Some by) s e h = told_reach_from room variables frames step child by (variable_in r.kind variables by.parent) s e h

    told_lend : (room : ℕ) (variables : Variables S) (frames : List (Frame S B)) (loans : List (Loan S)) (vars : List ℕ) (producer consumer : Core) (s : StateOf O) → under_way s.stobjs ≡ above d (exports_in frames)
        → Told (lend_all r room variables frames loans vars producer consumer s)
    told_lend room variables frames loans vars producer consumer s e = told_if (are_twins r.kind loans) _ _ (told _ e) (told _ (nests.lends loans s.stobjs ∙ e))

    told_child : (room : ℕ) (variables : Variables S) (frames : List (Frame S B)) (names : List ℕ) (forms : Cores) (loans : List (Loan S)) (vars : List ℕ) (producer consumer : Core) (s : StateOf O) → under_way s.stobjs ≡ above d (exports_in frames)
        → Told (next_child r room variables frames names forms loans vars producer consumer s)
    told_child room variables frames names none loans vars producer consumer s e = told_lend room variables frames loans vars producer consumer s e
    told_child room variables frames [] (more form forms) loans vars producer consumer s e = told_lend room variables frames loans vars producer consumer s e
    told_child room variables frames (x ∷ xs) (more form forms) loans vars producer consumer s e =
        told_borrow room variables frames (λ loan. Borrowing xs forms (loans ++ loan ∷ []) vars producer consumer) x (reached form) s e (λ loan. refl)

    told_put : (room : ℕ) (variables : Variables S) (frames : List (Frame S B)) (vars : List ℕ) (left loans : List (Loan S)) (consumer : Core) (values : List (Shown S)) (s : StateOf O) → under_way s.stobjs ≡ above d (exports_in frames)
        → Told (put_next r room variables frames vars left loans consumer values s)
    told_put room variables frames vars [] loans consumer values s e = told _ (nests.ends_loans (length loans) s.stobjs ∙ e)
    told_put room variables frames vars (l ∷ ls) loans consumer values s e =
        told_if (list_any (nat_eq l.child) vars) _ _ (told_if (nat_lt s.calls r.limit) _ _ (told _ (nests.puts l s.stobjs ∙ e)) (told _ e)) (told _ e)

    -- ---- a turn

    told_local : (room : ℕ) (variables : Variables S) (frames : List (Frame S B)) (x : ℕ) (fresh : Option (StobjList S)) (names : List ℕ) (producer body : Core) (s : StateOf O) → under_way s.stobjs ≡ above d (exports_in frames)
        → Told (make_local r room variables frames x fresh names producer body s)
    told_local room variables frames x None names producer body s e = told_over Unknown
    told_local room variables frames x (Some new) names producer body s e = told _ (nests.makes x new s.stobjs ∙ e)

    told_form : (room : ℕ) (variables : Variables S) (frames : List (Frame S B)) (form : Core) (s : StateOf O) → under_way s.stobjs ≡ above d (exports_in frames) → Told (open_form r room variables frames form s)
    told_form room variables frames (Var x) s e = told _ e
    told_form room variables frames (Const o) s e = told _ e
    told_form room variables frames (If a b c) s e = told _ e
    told_form room variables frames (Let names forms body) s e = told_part room variables frames forms [] (ThenBody names body) s e
    told_form room variables frames (Mv parts) s e = told_part room variables frames parts [] ThenValues s e
    told_form room variables frames (MvLet names form body) s e = told _ e
    told_form room variables frames (StobjLet names forms vars producer consumer) s e = told _ e
    told_form room variables frames (WithLocal stobj names producer body) s e =
        told_if (nat_lt s.calls r.limit) _ _ (told_local room variables frames stobj (r.fresh stobj) names producer body (one_more_call s) e) (told _ e)
    told_form room variables frames (MustBeEqual logic exec) s e = told _ e
    told_form room variables frames (Call f actuals) s e = told_part room variables frames actuals [] (ThenCall f) s e

    told_begin : (value : Option (Shown S)) (room : ℕ) (variables : Variables S) (frames : List (Frame S B)) (form : Core) (s : StateOf O) → under_way s.stobjs ≡ above d (exports_in frames) → Told (begin r value room variables frames form s)
    told_begin (Some v) room variables frames form s e = told _ e
    told_begin None zero variables frames form s e = told _ e
    told_begin None (suc room) variables frames form s e = told_form room variables frames form s e

    told_on : (room : ℕ) (variables : Variables S) (frames : List (Frame S B)) (step : Step S B) (values : List (Shown S)) (s : StateOf O) → under_way s.stobjs ≡ above d (and_this (export_in step) (exports_in frames))
        → Told (go_on r room variables frames step values s)
    told_on room variables frames (Test b c) values s e = told _ e
    told_on room variables frames (Parts forms before goal) values s e = told_part room variables frames forms _ goal s e
    told_on room variables frames (Several names body) values s e = told _ e
    told_on room variables frames (Calling f actuals) values s e = told_call room variables frames f actuals s e
    told_on room variables frames (Guarding export name formals actuals body behind) values s e =
        let back = nests.hands_back formals actuals s.stobjs behind ∙ e in
        told_if (is_false r values) _ _ (told _ back) (told _ (nests.hands_over formals actuals _ ∙ back))
    told_on room variables frames (Running export formals actuals behind) values s e = told _ (nests.hands_back formals actuals s.stobjs behind ∙ e)
    told_on room variables frames (Allowing f actuals begun behind) values s e =
        let back = nests.hands_back f.formals actuals s.stobjs behind ∙ e in
        told_if (is_false r values) _ _ (told _ back) (told _ back)
    told_on room variables frames (Exporting f actuals begun) values s e = told_exec room variables frames f actuals begun s e
    told_on room variables frames (Borrowing names forms loans vars producer consumer) values s e = told_child room variables frames names forms loans vars producer consumer s e
    told_on room variables frames (Producing vars loans consumer) values s e = told_put room variables frames vars loans loans consumer values s e
    told_on room variables frames (Putting vars left loans consumer given) values s e = told_put room variables frames vars left loans consumer given s e
    told_on room variables frames (Local names body) values s e = told _ (nests.unmakes s.stobjs ∙ e)
    told_on room variables frames (Last export) values s e = told _ (left_out export (exports_in frames) d s e)

    told_by : (room : ℕ) (frames : List (Frame S B)) (control : Control S) (s : StateOf O) → under_way s.stobjs ≡ above d (exports_in frames) → Told (turn_by r room frames control s)
    told_by room frames (Begin form variables) s e = told_begin (leaf r form variables) room variables frames form s e
    told_by room [] (Give values) s e = told_over _
    told_by room (f ∷ fs) (Give values) s e = told_on room f.variables fs f.step values s e
    told_by room [] (Stopped stop w) s e = told_over _
    told_by room (f ∷ fs) (Stopped stop w) s e = told _ (closed_so f.step (exports_in fs) d s e)

    told_turn : (m : Machine S O B) → under_way m.state.stobjs ≡ above d (exports_in m.frames) → Told (turn_of r m)
    unfolding turn_of
    told_turn m e = told_by m.room m.frames m.control m.state e

    pub told_later : (n : ℕ) (t : Turned S O B) (m : Machine S O B) → Told t → Leads r n t m → under_way m.state.stobjs ≡ above d (exports_in m.frames)
    told_later n (Over last) m f e = elim e [ ]
    told_later zero (Going start) m f e = subst (λ x. under_way x.state.stobjs ≡ above d (exports_in x.frames)) e f.facts
    told_later (suc n) (Going start) m f e = told_later n (turn_of r start) m (told_turn start f.facts) e
