-- Where no call is left, a machine's outcome has the state that its frames leave of the state of now. And the cut.
use Rattle.std.proofs.Common.{◌≡◌, ℕ, zero, suc, ◌≤◌, List, [], ◌∷◌, ◌++◌, length, Option, Some, None, refl, sym, ap, ◌∙◌, subst}
use Rattle.std.specs.Prelude.{if◌then◌else◌}
use Rattle.model_terms.specs.Cores.{Core}
use Rattle.model_eval.specs.Outcomes.{Shown, StateOf, OutcomeOf, Gives, Stops, Unknown, then_with, with_state, cut_at}
use Rattle.model_eval.specs.Keeping.{Loan, Keeping, leaving, handed, put_all, ending_loans, taken_back, unmaking}
use Rattle.model_eval.specs.Variables.{Variables, bound, single}
use Rattle.model_eval.specs.Evaluated.{RulesOf, EvaluatorOf, is_false, evaluated}
use Rattle.model_machine.specs.Frames.{Export, Step, Test, Parts, Several, Calling, Guarding, Running, Allowing, Exporting, Borrowing, Producing, Putting, Local, Last, Frame, Control, Begin, Give, Stopped, Machine, Going}
use Rattle.model_machine.specs.Turns.{out_of, abandoned, ended_state, closed_state}
use Rattle.model_machine.specs.Stands.{within, running, rest_of, unwound, outcome_now, outcome_of}
use Rattle.model_machine.specs.Ending.{begun_on}
use Rattle.model_machine.specs.Cutting.{IsSteady, NestsExports, with_limit, PrimitivesCountNone, PrimitivesWriteNone, passed, settled, state_by, HasStateNow, Leads, IsCutNow}
use Rattle.model_machine.proofs.Ends.{begins_so}
use Rattle.model_machine.proofs.Still.{none_left, RestsAt, Still, all_same, still_if, still_called, still_in_order, still_put_back, still_all_borrowed, still_evaluated, still_scoped, still_parts}
use Rattle.model_machine.proofs.Limits.{not_above, fits_same, leads_within, leads_same}
use Rattle.model_machine.proofs.UnderWay.{export_in, and_this, above, exports_in, ended_so, told, told_later}

-- one of two states: that of values and of stops inside no export, and that of stops inside one
abbrev At : {O : Type 0} → Option ℕ → StateOf O → StateOf O → StateOf O → Type 0
At None s t after = after ≡ s
At (Some export) s t after = after ≡ t

at_of : {O : Type 0} (f : StateOf O → StateOf O) (inside : Option ℕ) (s t after : StateOf O) → At inside s t after → At inside (f s) (f t) (f after)
at_of f None s t after e = ap f e
at_of f (Some export) s t after e = ap f e

at_same : {O : Type 0} (inside : Option ℕ) (s t after : StateOf O) → s ≡ t → At inside s t after → after ≡ t
at_same None s t after same e = e ∙ same
at_same (Some export) s t after same e = e

at_none : {O : Type 0} (inside : Option ℕ) (s t after : StateOf O) → inside ≡ None → after ≡ s → At inside s t after
at_none inside s t after none e = rw none e

-- an outcome seen so
abbrev Seen : {S O : Type 0} → StateOf O → StateOf O → OutcomeOf S O → Type 0
Seen s t (Gives values after) = after ≡ s
Seen s t (Stops stop w after) = At w.inside s t after
Seen s t Unknown = ⊥

-- the two states are one, if there is an export
abbrev Together : {S O B : Type 0} → Option (Export S B) → StateOf O → StateOf O → Type 0
Together None s t = Unit {0}
Together (Some x) s t = s ≡ t

together_of : {S O B : Type 0} (f : StateOf O → StateOf O) (x : Option (Export S B)) (s t : StateOf O) → Together x s t → Together x (f s) (f t)
together_of f None s t e = e
together_of f (Some x) s t e = ap f e

abbrev Agree : {O : Type 0} → ℕ → StateOf O → StateOf O → Type 0
Agree zero s t = Unit {0}
Agree (suc n) s t = s ≡ t

agree_together : {S O B : Type 0} (x : Option (Export S B)) (n : ℕ) (s t : StateOf O) → Agree (and_this x n) s t → Together x s t
agree_together None n s t e = tt
agree_together (Some x) n s t e = e

agree_same : {O : Type 0} (n : ℕ) (s : StateOf O) → Agree n s s
agree_same zero s = tt
agree_same (suc n) s = refl

module _ {S O B : Type 0} {keeping : Keeping S O B} (steady : IsSteady keeping) (r : RulesOf keeping) (c : ℕ) where
  abbrev q : RulesOf keeping
  q = running (with_limit c r)

  rests_seen : (s t : StateOf O) (o : OutcomeOf S O) → RestsAt s o → Seen s t o
  rests_seen s t (Gives values after) e = e
  rests_seen s t (Stops stop w after) e = at_none w.inside s t after e.0 e.1
  rests_seen s t Unknown e = e

  seen_then : (s t : StateOf O) (o : OutcomeOf S O) (go : List (Shown S) → StateOf O → OutcomeOf S O) → Seen s t o → ((values : List (Shown S)) → RestsAt s (go values s)) → Seen s t (then_with o go)
  seen_then s t (Gives values after) go e h = rw e (rests_seen s t _ (h values))
  seen_then s t (Stops stop w after) go e h = e
  seen_then s t Unknown go e h = e

  seen_within : (x : Option (Export S B)) (s t : StateOf O) (o : OutcomeOf S O) → Together x s t → Seen s t o → Seen (out_of r x s) (abandoned r x t) (within keeping x o)
  seen_within None s t o same e = e
  seen_within (Some x) s t (Gives values after) same e = ap (out_of r (Some x)) e
  seen_within (Some x) s t (Stops stop w after) same e = ap (abandoned r (Some x)) (at_same w.inside s t after same e)
  seen_within (Some x) s t Unknown same e = e

  seen_cut : (n : ℕ) (s t : StateOf O) (o : OutcomeOf S O) → Seen s t o → Seen s t (cut_at n o)
  seen_cut n s t (Gives values after) e = e
  seen_cut n s t (Stops stop w after) e = e
  seen_cut n s t Unknown e = e

  seen_handed : (formals : List ℕ) (actuals : List (Shown S)) (behind : B) (s t : StateOf O) (o : OutcomeOf S O) → Seen s t o
      → Seen (leaving keeping formals actuals behind s) (leaving keeping formals actuals behind t) (handed keeping formals actuals behind o)
  seen_handed formals actuals behind s t (Gives values after) e = ap (leaving keeping formals actuals behind) e
  seen_handed formals actuals behind s t (Stops stop w after) e = at_of (leaving keeping formals actuals behind) w.inside s t after e
  seen_handed formals actuals behind s t Unknown e = e

  seen_unmaking : (s t : StateOf O) (o : OutcomeOf S O) → Seen s t o → Seen (unmaking keeping s) (unmaking keeping t) (with_state (unmaking keeping) o)
  seen_unmaking s t (Gives values after) e = ap (unmaking keeping) e
  seen_unmaking s t (Stops stop w after) e = at_of (unmaking keeping) w.inside s t after e
  seen_unmaking s t Unknown e = e

  -- the state after children that are all put into their parents
  abbrev all_back : List (Loan S) → StateOf O → StateOf O
  all_back loans s = ending_loans keeping (length loans) (record s { stobjs = put_all keeping loans s.stobjs })

  back_as : (loans : List (Loan S)) (s : StateOf O) → ending_loans keeping (length loans) s ≡ all_back loans s
  back_as loans s = ap (λ (stobjs : O). ending_loans keeping (length loans) (record s { stobjs = stobjs })) (sym (all_same steady r c loans s.stobjs))

  seen_taken_back : (loans : List (Loan S)) (s t : StateOf O) (o : OutcomeOf S O) → Seen s t o → Seen (all_back loans s) (all_back loans t) (taken_back keeping loans o)
  seen_taken_back loans s t (Gives values after) e = ap (ending_loans keeping (length loans)) e ∙ back_as loans s
  seen_taken_back loans s t (Stops stop w after) e = at_of (all_back loans) w.inside s t after e
  seen_taken_back loans s t Unknown e = e

  seen_consuming : (ev : EvaluatorOf S O) → Still steady r c ev → (variables : Variables S) (vars : List ℕ) (loans : List (Loan S)) (consumer : Core) (s t : StateOf O) (o : OutcomeOf S O) → c ≤ s.calls → Seen s t o
      → Seen (all_back loans s) (all_back loans t) (then_with (taken_back keeping loans o) (λ values after. ev consumer (bound vars values variables) after))
  seen_consuming ev e variables vars loans consumer s t o h x =
      seen_then (all_back loans s) (all_back loans t) _ _ (seen_taken_back loans s t o x) (λ values. e consumer (bound vars values variables) (all_back loans s) h)

  -- ---- frames

  seen_rest : (ev : EvaluatorOf S O) → Still steady r c ev → (variables : Variables S) (step : Step S B) (s t : StateOf O) (o : OutcomeOf S O) → c ≤ s.calls → Together (export_in step) s t → Seen s t o
      → Seen (ended_state r step s) (closed_state r step t) (rest_of q ev variables step o)
  seen_rest ev e variables (Test b d) s t o h same x = seen_then s t o _ x (λ test. e (if is_false q test then d else b) variables s h)
  seen_rest ev e variables (Parts forms before goal) s t o h same x =
      seen_then s t o _ x (λ values. still_in_order steady r c ev e forms variables (before ++ single r.kind values ∷ []) _ s h (λ vs. still_parts steady r c ev e variables goal vs s h))
  seen_rest ev e variables (Several names body) s t o h same x = seen_then s t o _ x (λ values. e body (bound names values variables) s h)
  seen_rest ev e variables (Calling f actuals) s t o h same x = seen_then s t o _ x (λ values. still_called steady r c ev f actuals s h)
  seen_rest ev e variables (Guarding export name formals actuals body behind) s t o h same x =
      let out = leaving keeping formals actuals behind in
      seen_within export (out s) (out t) _ (together_of out export s t same)
      (seen_then (out s) (out t) _ _ (seen_handed formals actuals behind s t o x)
      (λ test. still_if steady r c (is_false q test) (out s) _ _ (refl, refl) (still_scoped steady r c ev e formals actuals body (out s) h)))
  seen_rest ev e variables (Running export formals actuals behind) s t o h same x =
      let out = leaving keeping formals actuals behind in
      seen_within export (out s) (out t) _ (together_of out export s t same) (seen_handed formals actuals behind s t o x)
  seen_rest ev e variables (Allowing f actuals begun behind) s t o h same x =
      let out = leaving keeping f.formals actuals behind in
      seen_cut begun.number (out s) (out t) _
      (seen_then (out s) (out t) _ _ (seen_handed f.formals actuals behind s t o x)
      (λ test. still_if steady r c (is_false q test) (out s) _ _ (refl, refl) (rw (none_left c s.calls h) (refl, refl))))
  seen_rest ev e variables (Exporting f actuals begun) s t o h same x =
      seen_cut begun.number s t _ (seen_then s t o _ x (λ values. rw (none_left c s.calls h) (refl, refl)))
  seen_rest ev e variables (Borrowing names forms loans vars producer consumer) s t o h same x =
      seen_then s t o _ x (λ values. still_all_borrowed steady r c ev e names forms variables loans vars producer consumer s h)
  seen_rest ev e variables (Producing vars loans consumer) s t o h same x =
      seen_consuming ev e variables vars loans consumer s t _ h (seen_then s t o _ x (λ values. still_put_back steady r c vars loans values s h))
  seen_rest ev e variables (Putting vars left loans consumer given) s t o h same x =
      seen_consuming ev e variables vars loans consumer s t _ h (seen_then s t o _ x (λ values. still_put_back steady r c vars left given s h))
  seen_rest ev e variables (Local names body) s t o h same x =
      seen_then (unmaking keeping s) (unmaking keeping t) _ _ (seen_unmaking s t o x) (λ values. e body (bound names values variables) (unmaking keeping s) h)
  seen_rest ev e variables (Last export) s t o h same x = seen_within export s t o same x

  out_calls : (x : Option (Export S B)) (s : StateOf O) → (out_of r x s).calls ≡ s.calls
  out_calls None s = refl
  out_calls (Some x) s = refl

  ended_calls : (step : Step S B) (s : StateOf O) → (ended_state r step s).calls ≡ s.calls
  ended_calls (Test b d) s = refl
  ended_calls (Parts forms before goal) s = refl
  ended_calls (Several names body) s = refl
  ended_calls (Calling f actuals) s = refl
  ended_calls (Guarding export name formals actuals body behind) s = out_calls export _
  ended_calls (Running export formals actuals behind) s = out_calls export _
  ended_calls (Allowing f actuals begun behind) s = refl
  ended_calls (Exporting f actuals begun) s = refl
  ended_calls (Borrowing names forms loans vars producer consumer) s = refl
  ended_calls (Producing vars loans consumer) s = refl
  ended_calls (Putting vars left loans consumer given) s = refl
  ended_calls (Local names body) s = refl
  ended_calls (Last export) s = out_calls export s

  module _ (under_way : O → ℕ) (nests : NestsExports keeping under_way) (d : ℕ) where
    -- an export in another leaves one state
    agree_within : (x : Option (Export S B)) (n : ℕ) (s t : StateOf O) → under_way s.stobjs ≡ above d (and_this x n) → Agree (and_this x n) s t → Agree n (out_of r x s) (abandoned r x t)
    agree_within None n s t e same = same
    agree_within (Some x) zero s t e same = tt
    agree_within (Some x) (suc n) s t e same =
        ap (λ (stobjs : O). record s { stobjs = stobjs; outer = x.outer }) (nests.inside (above d n) x.actuals x.begun.before s.stobjs e) ∙ ap (abandoned r (Some x)) same

    agree_of : (f : StateOf O → StateOf O) (n : ℕ) (s t : StateOf O) → Agree n s t → Agree n (f s) (f t)
    agree_of f zero s t e = tt
    agree_of f (suc n) s t e = ap f e

    agree_closed : (step : Step S B) (n : ℕ) (s t : StateOf O) → under_way s.stobjs ≡ above d (and_this (export_in step) n) → Agree (and_this (export_in step) n) s t → Agree n (ended_state r step s) (closed_state r step t)
    agree_closed (Test b c) n s t e same = same
    agree_closed (Parts forms before goal) n s t e same = same
    agree_closed (Several names body) n s t e same = same
    agree_closed (Calling f actuals) n s t e same = same
    agree_closed (Guarding export name formals actuals body behind) n s t e same =
        agree_within export n _ _ (nests.hands_back formals actuals s.stobjs behind ∙ e) (agree_of (leaving keeping formals actuals behind) _ s t same)
    agree_closed (Running export formals actuals behind) n s t e same =
        agree_within export n _ _ (nests.hands_back formals actuals s.stobjs behind ∙ e) (agree_of (leaving keeping formals actuals behind) _ s t same)
    agree_closed (Allowing f actuals begun behind) n s t e same = agree_of (leaving keeping f.formals actuals behind) n s t same
    agree_closed (Exporting f actuals begun) n s t e same = same
    agree_closed (Borrowing names forms loans vars producer consumer) n s t e same = same
    agree_closed (Producing vars loans consumer) n s t e same = agree_of (all_back loans) n s t same
    agree_closed (Putting vars left loans consumer given) n s t e same = agree_of (all_back loans) n s t same
    agree_closed (Local names body) n s t e same = agree_of (unmaking keeping) n s t same
    agree_closed (Last export) n s t e same = agree_within export n s t e same

    seen_unwound : (frames : List (Frame S B)) (room : ℕ) (s t : StateOf O) (o : OutcomeOf S O) → c ≤ s.calls → under_way s.stobjs ≡ above d (exports_in frames) → Agree (exports_in frames) s t → Seen s t o
        → Seen (passed r frames s) (settled r frames t) (unwound q room frames o)
    unfolding unwound
    seen_unwound [] room s t o h e same x = x
    seen_unwound (f ∷ fs) room s t o h e same x =
        seen_unwound fs (suc room) (ended_state r f.step s) (closed_state r f.step t) _ (rw (ended_calls f.step s) h)
        (ended_so under_way nests r f.step (exports_in fs) d s e)
        (agree_closed f.step (exports_in fs) s t e same)
        (seen_rest (evaluated q room) (still_evaluated steady r c room) f.variables f.step s t o h (agree_together (export_in f.step) (exports_in fs) s t same) x)

    seen_now : (room : ℕ) (control : Control S) (s : StateOf O) → c ≤ s.calls → Seen s s (outcome_now q room control s)
    seen_now room (Begin form variables) s h = rests_seen s s _ (still_evaluated steady r c room form variables s h)
    seen_now room (Give values) s h = refl
    seen_now room (Stopped stop w) s h = either w.inside
      where
        either : (inside : Option ℕ) → At inside s s s
        either None = refl
        either (Some export) = refl

    seen_so : (frames : List (Frame S B)) (s : StateOf O) (o : OutcomeOf S O) → Seen (passed r frames s) (settled r frames s) o → HasStateNow r frames s o
    seen_so frames s (Gives values after) e = e
    seen_so frames s (Stops stop w after) e = which w.inside e
      where
        which : (inside : Option ℕ) → At inside (passed r frames s) (settled r frames s) after → after ≡ state_by r inside frames s
        which None e = e
        which (Some export) e = e
    seen_so frames s Unknown e = e

    pub now_outcome : (m : Machine S O B) → c ≤ m.state.calls → under_way m.state.stobjs ≡ above d (exports_in m.frames) → HasStateNow r m.frames m.state (outcome_of q m)
    unfolding outcome_of
    now_outcome m h e = seen_so m.frames m.state _ (seen_unwound m.frames m.room m.state m.state _ h e (agree_same (exports_in m.frames) m.state) (seen_now m.room m.control m.state h))

module _ {S O B : Type 0} {keeping : Keeping S O B} (steady : IsSteady keeping) (under_way : O → ℕ) (nests : NestsExports keeping under_way) (r : RulesOf keeping) (counts : PrimitivesCountNone r) (writes : PrimitivesWriteNone r) where
  ends_within : (n : ℕ) (start m : Machine S O B) → start.state.calls ≤ r.limit → Leads r n (Going start) m → m.state.calls ≤ r.limit
  ends_within n start m h e = leads_within r counts r.limit (not_above r.limit) n (Going start) m start.state.calls (Going start) (fits_same r counts r.limit (not_above r.limit) start) h e

  pub cut_now : (depth : ℕ) (form : Core) (variables : Variables S) (state : StateOf O) (n : ℕ) (m : Machine S O B) → state.calls ≤ r.limit → Leads r n (Going (begun_on depth form variables state)) m
      → HasStateNow r m.frames m.state (evaluated (running (with_limit m.state.calls r)) depth form variables state)
  cut_now depth form variables state n m h e =
      let k = m.state.calls in
      let start = begun_on depth form variables state in
      let within = ends_within n start m h e in
      let x = leads_same r counts k within n start m e (not_above k) in
      let d = under_way state.stobjs in
      let told_now = told_later under_way nests r writes d n (Going start) m (told under_way nests r writes d start refl) e in
      subst (HasStateNow r m.frames m.state) (sym x.1 ∙ begins_so (with_limit k r) depth form variables state) (now_outcome steady r k under_way nests d m (not_above k) told_now)

pub is_cut_now : {S O B : Type 0} (keeping : Keeping S O B) (under_way : O → ℕ) → IsSteady keeping → NestsExports keeping under_way → IsCutNow keeping
is_cut_now keeping under_way steady nests = record { cut = λ r counts writes. cut_now steady under_way nests r counts writes }
