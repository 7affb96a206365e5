-- A machine at the moment, and evaluation with no more calls than it has counted.
use Rattle.std.specs.Prelude.{◌≡◌, ℕ, ◌+◌, ◌≤◌, zero, suc, List, [], ◌∷◌, length, Option, Some, None}
use Rattle.model_prims.specs.declared.prim.Prim.{Prim}
use Rattle.model_lists.specs.Lists.{StobjList}
use Rattle.model_terms.specs.Cores.{Core}
use Rattle.model_eval.specs.Outcomes.{Shown, StateOf, OutcomeOf, Gives, Stops, Unknown}
use Rattle.model_eval.specs.Keeping.{Loan, Keeping}
use Rattle.model_eval.specs.Variables.{Variables}
use Rattle.model_eval.specs.Evaluated.{RulesOf, evaluated}
use Rattle.model_machine.specs.Frames.{Frame, Machine, Turned, Going, Over}
use Rattle.model_machine.specs.Turns.{ended_state, closed_state, turn_of}
use Rattle.model_machine.specs.Stands.{running, outcome_of}
use Rattle.model_machine.specs.Ending.{begun_on}

-- nothing is changed by what is handed over or lent and comes back as it was, nor by a child that is put into its parent
pub record IsSteady {S O B : Type 0} (keeping : Keeping S O B) : Type 0 where
  pub returns : (formals : List ℕ) (actuals : List (Shown S)) (stobjs : O) → keeping.hand_back formals actuals (keeping.hand_over formals actuals stobjs) (keeping.behind stobjs) ≡ stobjs
  pub lends : (loans : List (Loan S)) (stobjs : O) → keeping.end_loans (length loans) (keeping.lend loans stobjs) ≡ stobjs
  pub puts : (loan : Loan S) (stobjs : O) → keeping.put loan stobjs ≡ stobjs

-- the stobjs tell how many exports are under way, which only their beginnings and ends change; and inside another one an export
-- leaves the same, whether its writes stay or it is abandoned, since it is the outermost that brings the stobjs back
pub record NestsExports {S O B : Type 0} (keeping : Keeping S O B) (under_way : O → ℕ) : Type 0 where
  pub begins : (stobjs : O) → under_way (keeping.begin_export stobjs) ≡ suc (under_way stobjs)
  pub commits : (n : ℕ) (stobjs : O) → under_way stobjs ≡ suc n → under_way (keeping.commit stobjs) ≡ n
  pub abandons : (n : ℕ) (actuals : List (Shown S)) (before : B) (stobjs : O) → under_way stobjs ≡ suc n → under_way (keeping.abandon actuals before stobjs) ≡ n
  pub inside : (n : ℕ) (actuals : List (Shown S)) (before : B) (stobjs : O) → under_way stobjs ≡ suc (suc n) → keeping.commit stobjs ≡ keeping.abandon actuals before stobjs
  pub writes : (x : ℕ) (l : StobjList S) (stobjs : O) → under_way (keeping.write x l stobjs) ≡ under_way stobjs
  pub hands_over : (formals : List ℕ) (actuals : List (Shown S)) (stobjs : O) → under_way (keeping.hand_over formals actuals stobjs) ≡ under_way stobjs
  pub hands_back : (formals : List ℕ) (actuals : List (Shown S)) (stobjs : O) (behind : B) → under_way (keeping.hand_back formals actuals stobjs behind) ≡ under_way stobjs
  pub lends : (loans : List (Loan S)) (stobjs : O) → under_way (keeping.lend loans stobjs) ≡ under_way stobjs
  pub puts : (loan : Loan S) (stobjs : O) → under_way (keeping.put loan stobjs) ≡ under_way stobjs
  pub ends_loans : (n : ℕ) (stobjs : O) → under_way (keeping.end_loans n stobjs) ≡ under_way stobjs
  pub makes : (x : ℕ) (l : StobjList S) (stobjs : O) → under_way (keeping.make x l stobjs) ≡ under_way stobjs
  pub unmakes : (stobjs : O) → under_way (keeping.unmake stobjs) ≡ under_way stobjs

-- the same rules with another limit of calls
abbrev pub with_limit : {S O B : Type 0} {keeping : Keeping S O B} → ℕ → RulesOf keeping → RulesOf keeping
with_limit limit r = record r { limit = limit }

-- so many calls were counted
abbrev pub HasCalls : {S O : Type 0} → ℕ → OutcomeOf S O → Type 0
HasCalls calls (Gives values after) = after.calls ≡ calls
HasCalls calls (Stops stop origin after) = after.calls ≡ calls
HasCalls calls Unknown = Unit {0}

-- the stobjs are these
abbrev pub HasStobjs : {S O : Type 0} → O → OutcomeOf S O → Type 0
HasStobjs stobjs (Gives values after) = after.stobjs ≡ stobjs
HasStobjs stobjs (Stops stop origin after) = after.stobjs ≡ stobjs
HasStobjs stobjs Unknown = Unit {0}

module _ {S O B : Type 0} {keeping : Keeping S O B} (r : RulesOf keeping) where
  -- primitives count no calls
  pub record PrimitivesCountNone : Type 0 where
    pub same : (f : ℕ) (p : Prim) (values : List (Shown S)) (state : StateOf O) → HasCalls state.calls (r.primitive f p values state)

  -- and write no stobjs
  pub record PrimitivesWriteNone : Type 0 where
    pub same : (f : ℕ) (p : Prim) (values : List (Shown S)) (state : StateOf O) → HasStobjs state.stobjs (r.primitive f p values state)

  -- the state once all frames are closed by values, and by a stop, which abandons the exports that run
  abbrev pub passed : List (Frame S B) → StateOf O → StateOf O
  passed [] state = state
  passed (f ∷ fs) state = passed fs (ended_state r f.step state)

  abbrev pub settled : List (Frame S B) → StateOf O → StateOf O
  settled [] state = state
  settled (f ∷ fs) state = settled fs (closed_state r f.step state)

  abbrev pub state_by : Option ℕ → List (Frame S B) → StateOf O → StateOf O
  state_by None frames state = passed frames state
  state_by (Some export) frames state = settled frames state

  -- the state of an outcome is that of a machine with these frames: an export that the outcome stopped inside is abandoned, and
  -- what was done in any other stays
  abbrev pub HasStateNow : List (Frame S B) → StateOf O → OutcomeOf S O → Type 0
  HasStateNow frames state (Gives values after) = after ≡ passed frames state
  HasStateNow frames state (Stops stop origin after) = after ≡ state_by origin.inside frames state
  HasStateNow frames state Unknown = ⊥

  -- so many turns lead from a machine to another
  abbrev pub Leads : ℕ → Turned S O B → Machine S O B → Type 0
  Leads n (Over last) m = ⊥
  Leads zero (Going start) m = start ≡ m
  Leads (suc n) (Going start) m = Leads n (turn_of r start) m

-- a machine that was begun on a form: evaluation of the form with no more calls than the machine has counted ends or stops in
-- just the state that the machine has, its frames closed
pub record IsCutNow {S O B : Type 0} (keeping : Keeping S O B) : Type 0 where
  pub cut : (r : RulesOf keeping) → PrimitivesCountNone r → PrimitivesWriteNone r → (depth : ℕ) (form : Core) (variables : Variables S) (state : StateOf O) (n : ℕ) (m : Machine S O B)
      → state.calls ≤ r.limit → Leads r n (Going (begun_on depth form variables state)) m
      → HasStateNow r m.frames m.state (evaluated (running (with_limit m.state.calls r)) depth form variables state)

-- at every limit between the calls counted and the limit, a machine stands for one outcome from the first turn on
pub record KeepsOutcomesAtLimits {S O B : Type 0} (keeping : Keeping S O B) : Type 0 where
  pub same : (r : RulesOf keeping) → PrimitivesCountNone r → (limit n : ℕ) (start m : Machine S O B) → limit ≤ r.limit → Leads r n (Going start) m → m.state.calls ≤ limit
      → outcome_of (running (with_limit limit r)) start ≡ outcome_of (running (with_limit limit r)) m

-- a turn counts one call at most
pub record CountsOneAtMost {S O B : Type 0} (keeping : Keeping S O B) : Type 0 where
  pub counts : (r : RulesOf keeping) → PrimitivesCountNone r → (m after : Machine S O B) → turn_of r m ≡ Going after
      → (m.state.calls ≤ after.state.calls) × (after.state.calls ≤ m.state.calls + 1) × (m.state.calls ≤ r.limit → after.state.calls ≤ r.limit)
