-- A turn with a smaller limit of calls is the same turn, while the calls do not pass it.
use Rattle.std.proofs.Common.{◌≡◌, ℕ, zero, suc, ◌+◌, ◌≤◌, List, [], ◌∷◌, ◌++◌, Bool, true, false, Option, Some, None, refl, sym, ap, ◌∙◌, subst, arith}
use Rattle.std.specs.Prelude.{nat_lt, nat_eq, if◌then◌else◌}
use Rattle.std.specs.List.{list_any}
use Rattle.std.proofs.lemmas.Bool.Decides.{nat_tests}
use Rattle.model_lists.specs.Lists.{StobjList, item}
use Rattle.model_lists.specs.Effects.{Effect, Refuses, Reads, Writes}
use Rattle.model_terms.specs.Cores.{Core, Cores, Reached, Var, Const, If, Let, Mv, MvLet, StobjLet, WithLocal, MustBeEqual, Call, none, more, reached}
use Rattle.model_terms.specs.Worlds.{Definition, FunctionOfAbstract, definition, Primitive, Defined, Macro, Constant, Concrete, Generated, Abstract, OfAbstract, Named, Signed}
use Rattle.model_terms.specs.declared.role.AbstractRole.{AbstractRole}
use Rattle.model_terms.specs.declared.role.AbstractRole.TheVariants as abstract_role
use Rattle.model_eval.specs.Outcomes.{Shown, Plain, StobjNamed, StateOf, OutcomeOf, Gives, Stops, Unknown, one_more_call}
use Rattle.model_eval.specs.Keeping.{Loan, Keeping, beginning}
use Rattle.model_eval.specs.Variables.{Variables, variable_in}
use Rattle.model_eval.specs.Lending.{is_reached, are_twins}
use Rattle.model_eval.specs.GeneratedCalls.{effected}
use Rattle.model_eval.specs.Evaluated.{RulesOf, is_false, leaf, loan_of}
use Rattle.model_machine.specs.Frames.{Begun, Export, Then, ThenBody, ThenValues, ThenCall, Step, Test, Parts, Several, Calling, Guarding, Running, Allowing, Exporting, Borrowing, Producing, Putting, Local, Last, Frame, Control, Begin, Give, Stopped, Machine, Turned, Going, Over}
use Rattle.model_machine.specs.Turns.{out_of, abandoned, done, call_of_abstract, call_by_definition, call, call_exec, parts_done, next_part, reach_from, borrow, lend_all, next_child, put_next, make_local, open_form, begin, go_on, closed_state, turn_by, turn_of}
use Rattle.model_machine.specs.Stands.{running, outcome_of, outcome_after}
use Rattle.model_machine.specs.Cutting.{with_limit, HasCalls, PrimitivesCountNone, Leads, KeepsOutcomesAtLimits, CountsOneAtMost}
use Rattle.model_machine.proofs.Same.{turn_keeps}

is_below : (n l : ℕ) → n + 1 ≤ l → nat_lt n l ≡ true
is_below n l h = grind (arith, nat_tests)

below_is : (n l : ℕ) → nat_lt n l ≡ true → n + 1 ≤ l
below_is n l e = grind (arith, nat_tests)

not_below : (n l k : ℕ) → l ≤ k → nat_lt n k ≡ false → nat_lt n l ≡ false
not_below n l k h e = grind (arith, nat_tests)

module _ {S O B : Type 0} {keeping : Keeping S O B} (r : RulesOf keeping) (counts : PrimitivesCountNone r) (l : ℕ) (smaller : l ≤ r.limit) where
  abbrev pub q : RulesOf keeping
  q = with_limit l r

  -- a turn with so many calls before it, and the turn with the smaller limit
  abbrev pub FitsBy : ℕ → ℕ → Turned S O B → Turned S O B → Type 0
  FitsBy b n (Going m) u = (m.state.calls ≤ l → (n ≤ l) × (u ≡ Going m)) × (n ≤ r.limit → m.state.calls ≤ r.limit) × (n ≤ m.state.calls) × (m.state.calls ≤ n + b)
  FitsBy b n (Over outcome) u = Unit {0}

  pub record Fits (b n : ℕ) (t u : Turned S O B) : Type 0 where
    pub facts : FitsBy b n t u

  pub fits_same : {b : ℕ} (m : Machine S O B) → Fits b m.state.calls (Going m) (Going m)
  fits_same m = record { facts = (λ h. (h, refl), λ h. h, omega arith, omega arith) }

  fits_over : {b : ℕ} (n : ℕ) (outcome : OutcomeOf S O) (u : Turned S O B) → Fits b n (Over outcome) u
  fits_over n outcome u = record { facts = tt }

  fits_equal : {b : ℕ} (n : ℕ) (m : Machine S O B) → m.state.calls ≡ n → Fits b n (Going m) (Going m)
  fits_equal {b = b} n m e = subst (λ k. Fits b k (Going m) (Going m)) e (fits_same m)

  fits_if : {k : ℕ} (b : Bool) (n : ℕ) (t u v w : Turned S O B) → Fits k n t u → Fits k n v w → Fits k n (if b then t else v) (if b then u else w)
  fits_if true n t u v w e f = e
  fits_if false n t u v w e f = f

  fits_more : (t u stop : Turned S O B) (n : ℕ) → nat_lt n r.limit ≡ true → Fits 0 (n + 1) t u → Fits 1 n t (if nat_lt n l then u else stop)
  fits_more (Going m) u stop n e f =
      record {
        facts = (
          λ h. let x = f.facts.0 h in (below_one x.0, rw (is_below n l x.0) x.1),
          λ h. f.facts.1 (below_is n r.limit e),
          (let g = f.facts.2 in omega arith),
          (let g = f.facts.3 in omega arith),
        );
      }
    where
      below_one : {k : ℕ} → n + 1 ≤ k → n ≤ k
      below_one h = omega arith
  fits_more (Over outcome) u stop n e f = fits_over n outcome _

  fits_tested : (n : ℕ) (t u stop halt : Turned S O B) → Fits 0 (n + 1) t u → Fits 1 n stop halt → Fits 1 n (if nat_lt n r.limit then t else stop) (if nat_lt n l then u else halt)
  fits_tested n t u stop halt f g = by_test (nat_lt n r.limit) refl
    where
      by_test : (b : Bool) → nat_lt n r.limit ≡ b → Fits 1 n (if b then t else stop) (if nat_lt n l then u else halt)
      by_test true e = fits_more t u halt n e f
      by_test false e = rw (not_below n l r.limit smaller e) g

  -- ---- calls

  fits_done : (n : ℕ) (export : Option (Export S B)) (room : ℕ) (variables : Variables S) (frames : List (Frame S B)) (outcome : OutcomeOf S O) → HasCalls n outcome
      → Fits 0 n (done r export room variables frames outcome) (done q export room variables frames outcome)
  fits_done n export room variables frames (Gives values state) e = fits_equal n _ e
  fits_done n export room variables frames (Stops stop w state) e = fits_equal n _ e
  fits_done n export room variables frames Unknown e = fits_over n Unknown _

  generated_counts : (f : ℕ) (values : List (Shown S)) (x : Option ℕ) (state : StateOf O) (e : Effect S) → HasCalls state.calls (effected keeping f values x state e)
  generated_counts f values x state Refuses = refl
  generated_counts f values x state (Reads os) = refl
  generated_counts f values None state (Writes new) = refl
  generated_counts f values (Some x) state (Writes new) = refl

  fits_abstract : (room : ℕ) (variables : Variables S) (frames : List (Frame S B)) (f : FunctionOfAbstract) (role : AbstractRole) (values : List (Shown S)) (s : StateOf O)
      → Fits 0 s.calls (call_of_abstract r room variables frames f role values s) (call_of_abstract q room variables frames f role values s)
  fits_abstract room variables frames f abstract_role.Recognizer values s = fits_same _
  fits_abstract room variables frames f abstract_role.Creator values s = fits_same _
  fits_abstract room variables frames f abstract_role.Export values s = fits_same _

  fits_definition : (export : Option (Export S B)) (go to : FunctionOfAbstract → StateOf O → Turned S O B) (room : ℕ) (variables : Variables S) (frames : List (Frame S B)) (d : Option Definition) (name : ℕ) (values : List (Shown S)) (s : StateOf O)
      → ((f : FunctionOfAbstract) (after : StateOf O) → Fits 0 after.calls (go f after) (to f after))
      → Fits 0 s.calls (call_by_definition r export go room variables frames d name values s) (call_by_definition q export to room variables frames d name values s)
  fits_definition export go to room variables frames None name values s h = fits_same _
  fits_definition export go to room variables frames (Some (Primitive f row)) name values s h = fits_done s.calls export room variables frames _ (counts.same f row.prim values s)
  fits_definition export go to room variables frames (Some (Defined f)) name values s h = fits_same _
  fits_definition export go to room variables frames (Some (Macro f formals body)) name values s h = fits_same _
  fits_definition export go to room variables frames (Some (Constant f value)) name values s h = fits_same _
  fits_definition export go to room variables frames (Some (Concrete d class)) name values s h = fits_same _
  fits_definition export go to room variables frames (Some (Generated g)) name values s h = fits_done s.calls export room variables frames _ (generated_counts g.name values _ s _)
  fits_definition export go to room variables frames (Some (Abstract d)) name values s h = fits_same _
  fits_definition export go to room variables frames (Some (OfAbstract f)) name values s h = h f s
  fits_definition export go to room variables frames (Some (Named f formals)) name values s h = fits_same _
  fits_definition export go to room variables frames (Some (Signed f formals signature executable)) name values s h = fits_same _

  fits_call : (room : ℕ) (variables : Variables S) (frames : List (Frame S B)) (f : ℕ) (values : List (Shown S)) (s : StateOf O)
      → Fits 1 s.calls (call r room variables frames f values s) (call q room variables frames f values s)
  fits_call room variables frames f values s =
      fits_tested s.calls _ _ _ _ (fits_definition None _ _ room variables frames (definition r.world f) f values (one_more_call s) (λ g after. fits_abstract room variables frames g g.role values after)) (fits_same _)

  fits_exec : (room : ℕ) (variables : Variables S) (frames : List (Frame S B)) (f : FunctionOfAbstract) (values : List (Shown S)) (begun : Begun B) (s : StateOf O)
      → Fits 1 s.calls (call_exec r room variables frames f values begun s) (call_exec q room variables frames f values begun s)
  fits_exec room variables frames f values begun s =
      fits_tested s.calls _ _ _ _ (fits_definition _ _ _ room variables frames (definition r.world f.exec) f.exec values (beginning keeping (one_more_call s)) (λ g after. fits_same _)) (fits_same _)

  -- ---- parts and children

  fits_parts_done : (room : ℕ) (variables : Variables S) (frames : List (Frame S B)) (goal : Then) (values : List (Shown S)) (s : StateOf O)
      → Fits 1 s.calls (parts_done r room variables frames goal values s) (parts_done q room variables frames goal values s)
  fits_parts_done room variables frames (ThenBody names body) values s = fits_same _
  fits_parts_done room variables frames ThenValues values s = fits_same _
  fits_parts_done room variables frames (ThenCall f) values s = fits_same _

  fits_part : (room : ℕ) (variables : Variables S) (frames : List (Frame S B)) (forms : Cores) (before : List (Shown S)) (goal : Then) (s : StateOf O)
      → Fits 1 s.calls (next_part r room variables frames forms before goal s) (next_part q room variables frames forms before goal s)
  fits_part room variables frames none before goal s = fits_parts_done room variables frames goal before s
  fits_part room variables frames (more form forms) before goal s = fits_same _

  fits_reach_from : (room : ℕ) (variables : Variables S) (frames : List (Frame S B)) (step : Loan S → Step S B) (child : ℕ) (by : Reached) (p : Shown S) (s : StateOf O)
      → Fits 1 s.calls (reach_from r room variables frames step child by p s) (reach_from q room variables frames step child by p s)
  fits_reach_from room variables frames step child by (Plain o) s = fits_same _
  fits_reach_from room variables frames step child by (StobjNamed p) s =
      let loan = loan_of r child p by variables in
      fits_tested s.calls _ _ _ _ (fits_if (is_reached loan.index (item loan.field (keeping.read s.stobjs loan.parent))) (s.calls + 1) _ _ _ _ (fits_same _) (fits_same _)) (fits_same _)

  fits_borrow : (room : ℕ) (variables : Variables S) (frames : List (Frame S B)) (step : Loan S → Step S B) (child : ℕ) (by : Option Reached) (s : StateOf O)
      → Fits 1 s.calls (borrow r room variables frames step child by s) (borrow q room variables frames step child by s)
  fits_borrow room variables frames step child None s = fits_same _
  fits_borrow room variables frames step child (Some by) s = fits_reach_from room variables frames step child by (variable_in r.kind variables by.parent) s

  fits_lend : (room : ℕ) (variables : Variables S) (frames : List (Frame S B)) (loans : List (Loan S)) (vars : List ℕ) (producer consumer : Core) (s : StateOf O)
      → Fits 1 s.calls (lend_all r room variables frames loans vars producer consumer s) (lend_all q room variables frames loans vars producer consumer s)
  fits_lend room variables frames loans vars producer consumer s = fits_if (are_twins r.kind loans) s.calls _ _ _ _ (fits_same _) (fits_same _)

  fits_child : (room : ℕ) (variables : Variables S) (frames : List (Frame S B)) (names : List ℕ) (forms : Cores) (loans : List (Loan S)) (vars : List ℕ) (producer consumer : Core) (s : StateOf O)
      → Fits 1 s.calls (next_child r room variables frames names forms loans vars producer consumer s) (next_child q room variables frames names forms loans vars producer consumer s)
  fits_child room variables frames names none loans vars producer consumer s = fits_lend room variables frames loans vars producer consumer s
  fits_child room variables frames [] (more form forms) loans vars producer consumer s = fits_lend room variables frames loans vars producer consumer s
  fits_child room variables frames (x ∷ xs) (more form forms) loans vars producer consumer s = fits_borrow room variables frames (λ loan. Borrowing xs forms (loans ++ loan ∷ []) vars producer consumer) x (reached form) s

  fits_put : (room : ℕ) (variables : Variables S) (frames : List (Frame S B)) (vars : List ℕ) (left loans : List (Loan S)) (consumer : Core) (values : List (Shown S)) (s : StateOf O)
      → Fits 1 s.calls (put_next r room variables frames vars left loans consumer values s) (put_next q room variables frames vars left loans consumer values s)
  fits_put room variables frames vars [] loans consumer values s = fits_same _
  fits_put room variables frames vars (x ∷ xs) loans consumer values s =
      fits_if (list_any (nat_eq x.child) vars) s.calls _ _ _ _ (fits_tested s.calls _ _ _ _ (fits_same _) (fits_same _)) (fits_same _)

  -- ---- a turn

  fits_local : (room : ℕ) (variables : Variables S) (frames : List (Frame S B)) (x : ℕ) (fresh : Option (StobjList S)) (names : List ℕ) (producer body : Core) (s : StateOf O)
      → Fits 0 s.calls (make_local r room variables frames x fresh names producer body s) (make_local q room variables frames x fresh names producer body s)
  fits_local room variables frames x None names producer body s = fits_over s.calls Unknown _
  fits_local room variables frames x (Some new) names producer body s = fits_same _

  fits_form : (room : ℕ) (variables : Variables S) (frames : List (Frame S B)) (form : Core) (s : StateOf O)
      → Fits 1 s.calls (open_form r room variables frames form s) (open_form q room variables frames form s)
  fits_form room variables frames (Var x) s = fits_same _
  fits_form room variables frames (Const o) s = fits_same _
  fits_form room variables frames (If a b c) s = fits_same _
  fits_form room variables frames (Let names forms body) s = fits_part room variables frames forms [] (ThenBody names body) s
  fits_form room variables frames (Mv parts) s = fits_part room variables frames parts [] ThenValues s
  fits_form room variables frames (MvLet names form body) s = fits_same _
  fits_form room variables frames (StobjLet names forms vars producer consumer) s = fits_same _
  fits_form room variables frames (WithLocal stobj names producer body) s =
      fits_tested s.calls _ _ _ _ (fits_local room variables frames stobj (r.fresh stobj) names producer body (one_more_call s)) (fits_same _)
  fits_form room variables frames (MustBeEqual logic exec) s = fits_same _
  fits_form room variables frames (Call f actuals) s = fits_part room variables frames actuals [] (ThenCall f) s

  fits_begin : (value : Option (Shown S)) (room : ℕ) (variables : Variables S) (frames : List (Frame S B)) (form : Core) (s : StateOf O)
      → Fits 1 s.calls (begin r value room variables frames form s) (begin q value room variables frames form s)
  fits_begin (Some v) room variables frames form s = fits_same _
  fits_begin None zero variables frames form s = fits_same _
  fits_begin None (suc room) variables frames form s = fits_form room variables frames form s

  out_calls : (x : Option (Export S B)) (s : StateOf O) → (out_of r x s).calls ≡ s.calls
  out_calls None s = refl
  out_calls (Some x) s = refl

  abandoned_calls : (x : Option (Export S B)) (s : StateOf O) → (abandoned r x s).calls ≡ s.calls
  abandoned_calls None s = refl
  abandoned_calls (Some x) s = refl

  fits_on : (room : ℕ) (variables : Variables S) (frames : List (Frame S B)) (step : Step S B) (values : List (Shown S)) (s : StateOf O)
      → Fits 1 s.calls (go_on r room variables frames step values s) (go_on q room variables frames step values s)
  fits_on room variables frames (Test b c) values s = fits_same _
  fits_on room variables frames (Parts forms before goal) values s = fits_part room variables frames forms _ goal s
  fits_on room variables frames (Several names body) values s = fits_same _
  fits_on room variables frames (Calling f actuals) values s = fits_call room variables frames f actuals s
  fits_on room variables frames (Guarding export name formals actuals body behind) values s = fits_if (is_false r values) s.calls _ _ _ _ (fits_same _) (fits_same _)
  fits_on room variables frames (Running export formals actuals behind) values s = fits_same _
  fits_on room variables frames (Allowing f actuals begun behind) values s = fits_if (is_false r values) s.calls _ _ _ _ (fits_same _) (fits_same _)
  fits_on room variables frames (Exporting f actuals begun) values s = fits_exec room variables frames f actuals begun s
  fits_on room variables frames (Borrowing names forms loans vars producer consumer) values s = fits_child room variables frames names forms loans vars producer consumer s
  fits_on room variables frames (Producing vars loans consumer) values s = fits_put room variables frames vars loans loans consumer values s
  fits_on room variables frames (Putting vars left loans consumer given) values s = fits_put room variables frames vars left loans consumer given s
  fits_on room variables frames (Local names body) values s = fits_same _
  fits_on room variables frames (Last export) values s = fits_equal s.calls _ (out_calls export s)

  closed_calls : (step : Step S B) (s : StateOf O) → (closed_state r step s).calls ≡ s.calls
  closed_calls (Test b d) s = refl
  closed_calls (Parts forms before goal) s = refl
  closed_calls (Several names body) s = refl
  closed_calls (Calling f actuals) s = refl
  closed_calls (Guarding export name formals actuals body behind) s = abandoned_calls export _
  closed_calls (Running export formals actuals behind) s = abandoned_calls export _
  closed_calls (Allowing f actuals begun behind) s = refl
  closed_calls (Exporting f actuals begun) s = refl
  closed_calls (Borrowing names forms loans vars producer consumer) s = refl
  closed_calls (Producing vars loans consumer) s = refl
  closed_calls (Putting vars left loans consumer given) s = refl
  closed_calls (Local names body) s = refl
  closed_calls (Last export) s = abandoned_calls export s

  fits_by : (room : ℕ) (frames : List (Frame S B)) (control : Control S) (s : StateOf O) → Fits 1 s.calls (turn_by r room frames control s) (turn_by q room frames control s)
  fits_by room frames (Begin form variables) s = fits_begin (leaf r form variables) room variables frames form s
  fits_by room [] (Give values) s = fits_over s.calls _ _
  fits_by room (f ∷ fs) (Give values) s = fits_on room f.variables fs f.step values s
  fits_by room [] (Stopped stop w) s = fits_over s.calls _ _
  fits_by room (f ∷ fs) (Stopped stop w) s = fits_equal s.calls _ (closed_calls f.step s)

  pub fits_turn : (m : Machine S O B) → Fits 1 m.state.calls (turn_of r m) (turn_of q m)
  unfolding turn_of
  fits_turn m = fits_by m.room m.frames m.control m.state

  -- ---- many turns

  pub leads_within : (n : ℕ) (t : Turned S O B) (m : Machine S O B) (calls : ℕ) (u : Turned S O B) → Fits 1 calls t u → calls ≤ r.limit → Leads r n t m → m.state.calls ≤ r.limit
  leads_within n (Over last) m calls u f h e = elim e [ ]
  leads_within zero (Going start) m calls u f h e = subst (λ x. x.state.calls ≤ r.limit) e (f.facts.1 h)
  leads_within (suc n) (Going start) m calls u f h e = leads_within n (turn_of r start) m start.state.calls (turn_of q start) (fits_turn start) (f.facts.1 h) e

  -- where the calls do not pass the smaller limit in the end, no machine before has more, and each stands for one outcome at it
  pub leads_same : (n : ℕ) (start m : Machine S O B) → Leads r n (Going start) m → m.state.calls ≤ l → (start.state.calls ≤ l) × (outcome_of (running q) start ≡ outcome_of (running q) m)
  leads_same zero start m e h = (subst (λ x. x.state.calls ≤ l) (sym e) h, ap (outcome_of (running q)) e)
  leads_same (suc n) start m e h = by_turn (turn_of r start) refl (λ next f. leads_same n next m f h) e
    where
      by_turn : (t : Turned S O B) → turn_of r start ≡ t → ((next : Machine S O B) → Leads r n (Going next) m → (next.state.calls ≤ l) × (outcome_of (running q) next ≡ outcome_of (running q) m)) → Leads r n t m
          → (start.state.calls ≤ l) × (outcome_of (running q) start ≡ outcome_of (running q) m)
      by_turn (Over last) e later f = elim f [ ]
      by_turn (Going next) e later f =
          let x = later next f in
          let fits = subst (λ t. Fits 1 start.state.calls t (turn_of q start)) e (fits_turn start) in
          let y = fits.facts.0 x.0 in
          (y.0, sym (turn_keeps q start) ∙ ap (outcome_after (running q)) y.1 ∙ x.1)

pub keeps_outcomes_at_limits : {S O B : Type 0} (keeping : Keeping S O B) → KeepsOutcomesAtLimits keeping
keeps_outcomes_at_limits keeping = record { same = λ r counts limit n start m h e k. (leads_same r counts limit h n start m e k).1 }

pub not_above : (n : ℕ) → n ≤ n
not_above n = omega arith

counts_one : {S O B : Type 0} {keeping : Keeping S O B} (r : RulesOf keeping) → PrimitivesCountNone r → (m after : Machine S O B) → turn_of r m ≡ Going after
    → (m.state.calls ≤ after.state.calls) × (after.state.calls ≤ m.state.calls + 1) × (m.state.calls ≤ r.limit → after.state.calls ≤ r.limit)
counts_one r counts m after e =
    let same : r.limit ≤ r.limit = omega arith in
    let f = subst (λ t. Fits r counts r.limit same 1 m.state.calls t (turn_of (with_limit r.limit r) m)) e (fits_turn r counts r.limit same m) in
    (f.facts.2, f.facts.3, f.facts.1)

pub counts_one_at_most : {S O B : Type 0} (keeping : Keeping S O B) → CountsOneAtMost keeping
counts_one_at_most keeping = record { counts = counts_one }
