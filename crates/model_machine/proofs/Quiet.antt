-- A turn at which no call is left writes no list and names no symbol.
use Rattle.std.proofs.Common.{◌≡◌, ℕ, zero, suc, ◌≤◌, List, [], ◌∷◌, ◌++◌, Bool, true, false, Option, Some, None, refl, subst, arith}
use Rattle.std.specs.Prelude.{nat_lt, nat_eq, if◌then◌else◌}
use Rattle.std.specs.List.{list_any}
use Rattle.std.proofs.lemmas.Bool.Decides.{nat_tests}
use Rattle.model_symbols.specs.Symbols.{QualifiedName}
use Rattle.model_lists.specs.Lists.{StobjList}
use Rattle.model_terms.specs.Cores.{Core, Cores, Reached, Var, Const, If, Let, Mv, MvLet, StobjLet, WithLocal, MustBeEqual, Call, none, more, reached}
use Rattle.model_terms.specs.Worlds.{FunctionOfAbstract}
use Rattle.model_eval.specs.Outcomes.{Shown, Plain, StobjNamed, StateOf}
use Rattle.model_eval.specs.Keeping.{Loan, put_all}
use Rattle.model_eval.specs.Variables.{Variables, variable_in}
use Rattle.model_eval.specs.Lending.{are_twins}
use Rattle.model_eval.specs.PlacesKeeping.{Places, Store, places_keeping}
use Rattle.model_eval.specs.Evaluated.{RulesOf, is_false, leaf}
use Rattle.model_machine.specs.Frames.{Begun, Export, Then, ThenBody, ThenValues, ThenCall, Step, Test, Parts, Several, Calling, Guarding, Running, Allowing, Exporting, Borrowing, Producing, Putting, Local, Last, Frame, Control, Begin, Give, Stopped, Machine, Turned, Going, Over}
use Rattle.model_machine.specs.Turns.{out_of, abandoned, call, call_exec, parts_done, next_part, reach_from, borrow, lend_all, next_child, put_next, open_form, begin, go_on, closed_state, turn_by, turn_of}
use Rattle.model_machine.specs.Cutting.{with_limit, PrimitivesCountNone}
use Rattle.model_machine.specs.Writing.{roots_undone, roots_given, roots_stopped, roots_left, WritesWhereItCounts}
use Rattle.model_machine.proofs.Still.{none_left}
use Rattle.model_machine.proofs.Limits.{Fits, fits_turn}

module _ {S : Type 0} (r : RulesOf (places_keeping {S = S})) (l : ℕ) where
  abbrev pub q : RulesOf (places_keeping {S = S})
  q = with_limit l r

  abbrev Leaves : List (StobjList S) → List QualifiedName → Turned S (Store S) Places → Type 0
  Leaves roots symbols (Going m) = (m.state.stobjs.roots ≡ roots) × (m.state.symbols ≡ symbols)
  Leaves roots symbols (Over outcome) = Unit {0}

  pub record Quiet (roots : List (StobjList S)) (symbols : List QualifiedName) (t : Turned S (Store S) Places) : Type 0 where
    pub facts : Leaves roots symbols t

  quiet : (m : Machine S (Store S) Places) → Quiet m.state.stobjs.roots m.state.symbols (Going m)
  quiet m = record { facts = (refl, refl) }

  abbrev At : StateOf (Store S) → Turned S (Store S) Places → Type 0
  At s t = Quiet s.stobjs.roots s.symbols t

  over : (s : StateOf (Store S)) (t : Turned S (Store S) Places) → Leaves s.stobjs.roots s.symbols t → At s t
  over s t e = record { facts = e }

  quiet_if : (b : Bool) (s : StateOf (Store S)) (t u : Turned S (Store S) Places) → At s t → At s u → At s (if b then t else u)
  quiet_if true s t u e f = e
  quiet_if false s t u e f = f

  -- no call is left
  quiet_tested : (s : StateOf (Store S)) (t u : Turned S (Store S) Places) → l ≤ s.calls → At s u → At s (if nat_lt s.calls l then t else u)
  quiet_tested s t u h e = rw (none_left l s.calls h) e

  quiet_call : (room : ℕ) (variables : Variables S) (frames : List (Frame S Places)) (f : ℕ) (values : List (Shown S)) (s : StateOf (Store S)) → l ≤ s.calls → At s (call q room variables frames f values s)
  quiet_call room variables frames f values s h = quiet_tested s _ _ h (quiet _)

  quiet_exec : (room : ℕ) (variables : Variables S) (frames : List (Frame S Places)) (f : FunctionOfAbstract) (values : List (Shown S)) (begun : Begun Places) (s : StateOf (Store S)) → l ≤ s.calls
      → At s (call_exec q room variables frames f values begun s)
  quiet_exec room variables frames f values begun s h = quiet_tested s _ _ h (quiet _)

  quiet_parts_done : (room : ℕ) (variables : Variables S) (frames : List (Frame S Places)) (goal : Then) (values : List (Shown S)) (s : StateOf (Store S)) → At s (parts_done q room variables frames goal values s)
  quiet_parts_done room variables frames (ThenBody names body) values s = quiet _
  quiet_parts_done room variables frames ThenValues values s = quiet _
  quiet_parts_done room variables frames (ThenCall f) values s = quiet _

  quiet_part : (room : ℕ) (variables : Variables S) (frames : List (Frame S Places)) (forms : Cores) (before : List (Shown S)) (goal : Then) (s : StateOf (Store S)) → At s (next_part q room variables frames forms before goal s)
  quiet_part room variables frames none before goal s = quiet_parts_done room variables frames goal before s
  quiet_part room variables frames (more form forms) before goal s = quiet _

  quiet_reach_from : (room : ℕ) (variables : Variables S) (frames : List (Frame S Places)) (step : Loan S → Step S Places) (child : ℕ) (by : Reached) (p : Shown S) (s : StateOf (Store S)) → l ≤ s.calls
      → At s (reach_from q room variables frames step child by p s)
  quiet_reach_from room variables frames step child by (Plain o) s h = quiet _
  quiet_reach_from room variables frames step child by (StobjNamed p) s h = quiet_tested s _ _ h (quiet _)

  quiet_borrow : (room : ℕ) (variables : Variables S) (frames : List (Frame S Places)) (step : Loan S → Step S Places) (child : ℕ) (by : Option Reached) (s : StateOf (Store S)) → l ≤ s.calls
      → At s (borrow q room variables frames step child by s)
  quiet_borrow room variables frames step child None s h = quiet _
  quiet_borrow room variables frames step child (Some by) s h = quiet_reach_from room variables frames step child by (variable_in r.kind variables by.parent) s h

  quiet_lend : (room : ℕ) (variables : Variables S) (frames : List (Frame S Places)) (loans : List (Loan S)) (vars : List ℕ) (producer consumer : Core) (s : StateOf (Store S))
      → At s (lend_all q room variables frames loans vars producer consumer s)
  quiet_lend room variables frames loans vars producer consumer s = quiet_if (are_twins r.kind loans) s _ _ (quiet _) (quiet _)

  quiet_child : (room : ℕ) (variables : Variables S) (frames : List (Frame S Places)) (names : List ℕ) (forms : Cores) (loans : List (Loan S)) (vars : List ℕ) (producer consumer : Core) (s : StateOf (Store S)) → l ≤ s.calls
      → At s (next_child q room variables frames names forms loans vars producer consumer s)
  quiet_child room variables frames names none loans vars producer consumer s h = quiet_lend room variables frames loans vars producer consumer s
  quiet_child room variables frames [] (more form forms) loans vars producer consumer s h = quiet_lend room variables frames loans vars producer consumer s
  quiet_child room variables frames (x ∷ xs) (more form forms) loans vars producer consumer s h =
      quiet_borrow room variables frames (λ loan. Borrowing xs forms (loans ++ loan ∷ []) vars producer consumer) x (reached form) s h

  quiet_put : (room : ℕ) (variables : Variables S) (frames : List (Frame S Places)) (vars : List ℕ) (left loans : List (Loan S)) (consumer : Core) (values : List (Shown S)) (s : StateOf (Store S)) → l ≤ s.calls
      → At s (put_next q room variables frames vars left loans consumer values s)
  quiet_put room variables frames vars [] loans consumer values s h = quiet _
  quiet_put room variables frames vars (x ∷ xs) loans consumer values s h = quiet_if (list_any (nat_eq x.child) vars) s _ _ (quiet_tested s _ _ h (quiet _)) (quiet _)

  quiet_form : (room : ℕ) (variables : Variables S) (frames : List (Frame S Places)) (form : Core) (s : StateOf (Store S)) → l ≤ s.calls → At s (open_form q room variables frames form s)
  quiet_form room variables frames (Var x) s h = quiet _
  quiet_form room variables frames (Const o) s h = quiet _
  quiet_form room variables frames (If a b c) s h = quiet _
  quiet_form room variables frames (Let names forms body) s h = quiet_part room variables frames forms [] (ThenBody names body) s
  quiet_form room variables frames (Mv parts) s h = quiet_part room variables frames parts [] ThenValues s
  quiet_form room variables frames (MvLet names form body) s h = quiet _
  quiet_form room variables frames (StobjLet names forms vars producer consumer) s h = quiet _
  quiet_form room variables frames (WithLocal stobj names producer body) s h = quiet_tested s _ _ h (quiet _)
  quiet_form room variables frames (MustBeEqual logic exec) s h = quiet _
  quiet_form room variables frames (Call f actuals) s h = quiet_part room variables frames actuals [] (ThenCall f) s

  quiet_begin : (value : Option (Shown S)) (room : ℕ) (variables : Variables S) (frames : List (Frame S Places)) (form : Core) (s : StateOf (Store S)) → l ≤ s.calls → At s (begin q value room variables frames form s)
  quiet_begin (Some v) room variables frames form s h = quiet _
  quiet_begin None zero variables frames form s h = quiet _
  quiet_begin None (suc room) variables frames form s h = quiet_form room variables frames form s h

  -- ---- a form ends

  out_quiet : (x : Option (Export S Places)) (s : StateOf (Store S)) → ((out_of q x s).stobjs.roots ≡ s.stobjs.roots) × ((out_of q x s).symbols ≡ s.symbols)
  out_quiet None s = (refl, refl)
  out_quiet (Some x) s = (refl, refl)

  undone : (x : Option (Export S Places)) (s : StateOf (Store S)) → ((abandoned q x s).stobjs.roots ≡ roots_undone x s.stobjs) × ((abandoned q x s).symbols ≡ s.symbols)
  undone None s = (refl, refl)
  undone (Some x) s = (refl, refl)

  all_put : (loans : List (Loan S)) (store : Store S) → (put_all places_keeping loans store).roots ≡ store.roots
  all_put [] store = refl
  all_put (x ∷ xs) store = all_put xs store

  quiet_on : (room : ℕ) (variables : Variables S) (frames : List (Frame S Places)) (step : Step S Places) (values : List (Shown S)) (s : StateOf (Store S)) → l ≤ s.calls
      → Quiet (roots_given step s.stobjs) s.symbols (go_on q room variables frames step values s)
  quiet_on room variables frames (Test b c) values s h = quiet _
  quiet_on room variables frames (Parts forms before goal) values s h = quiet_part room variables frames forms _ goal s
  quiet_on room variables frames (Several names body) values s h = quiet _
  quiet_on room variables frames (Calling f actuals) values s h = quiet_call room variables frames f actuals s h
  quiet_on room variables frames (Guarding export name formals actuals body behind) values s h = quiet_if (is_false r values) s _ _ (quiet _) (quiet _)
  quiet_on room variables frames (Running export formals actuals behind) values s h = quiet _
  quiet_on room variables frames (Allowing f actuals begun behind) values s h = quiet_if (is_false r values) s _ _ (quiet _) (quiet _)
  quiet_on room variables frames (Exporting f actuals begun) values s h = quiet_exec room variables frames f actuals begun s h
  quiet_on room variables frames (Borrowing names forms loans vars producer consumer) values s h = quiet_child room variables frames names forms loans vars producer consumer s h
  quiet_on room variables frames (Producing vars loans consumer) values s h = quiet_put room variables frames vars loans loans consumer values s h
  quiet_on room variables frames (Putting vars left loans consumer given) values s h = quiet_put room variables frames vars left loans consumer given s h
  quiet_on room variables frames (Local names body) values s h = quiet _
  quiet_on room variables frames (Last export) values s h = record { facts = out_quiet export s }

  quiet_closed : (step : Step S Places) (s : StateOf (Store S)) → ((closed_state q step s).stobjs.roots ≡ roots_stopped step s.stobjs) × ((closed_state q step s).symbols ≡ s.symbols)
  quiet_closed (Test b c) s = (refl, refl)
  quiet_closed (Parts forms before goal) s = (refl, refl)
  quiet_closed (Several names body) s = (refl, refl)
  quiet_closed (Calling f actuals) s = (refl, refl)
  quiet_closed (Guarding None name formals actuals body behind) s = (refl, refl)
  quiet_closed (Guarding (Some x) name formals actuals body behind) s = (refl, refl)
  quiet_closed (Running None formals actuals behind) s = (refl, refl)
  quiet_closed (Running (Some x) formals actuals behind) s = (refl, refl)
  quiet_closed (Allowing f actuals begun behind) s = (refl, refl)
  quiet_closed (Exporting f actuals begun) s = (refl, refl)
  quiet_closed (Borrowing names forms loans vars producer consumer) s = (refl, refl)
  quiet_closed (Producing vars loans consumer) s = (all_put loans s.stobjs, refl)
  quiet_closed (Putting vars left loans consumer given) s = (all_put loans s.stobjs, refl)
  quiet_closed (Local names body) s = (refl, refl)
  quiet_closed (Last export) s = undone export s

  quiet_by : (room : ℕ) (frames : List (Frame S Places)) (control : Control S) (s : StateOf (Store S)) → l ≤ s.calls → Quiet (roots_left control frames s.stobjs) s.symbols (turn_by q room frames control s)
  quiet_by room frames (Begin form variables) s h = quiet_begin (leaf r form variables) room variables frames form s h
  quiet_by room [] (Give values) s h = record { facts = tt }
  quiet_by room (f ∷ fs) (Give values) s h = quiet_on room f.variables fs f.step values s h
  quiet_by room [] (Stopped stop w) s h = record { facts = tt }
  quiet_by room (f ∷ fs) (Stopped stop w) s h = record { facts = quiet_closed f.step s }

  pub quiet_turn : (m : Machine S (Store S) Places) → l ≤ m.state.calls → Quiet (roots_left m.control m.frames m.state.stobjs) m.state.symbols (turn_of q m)
  unfolding turn_of
  quiet_turn m h = quiet_by m.room m.frames m.control m.state h

-- ---- any turn that counts no call

module _ {S : Type 0} (r : RulesOf (places_keeping {S = S})) (counts : PrimitivesCountNone r) (m after : Machine S (Store S) Places) (e : turn_of r m ≡ Going after) (none_counted : after.state.calls ≡ m.state.calls) where
  -- with no more calls than were counted before it the turn is the same
  same_turn : m.state.calls ≤ r.limit → turn_of (with_limit m.state.calls r) m ≡ Going after
  same_turn h =
      let f = subst (λ t. Fits r counts m.state.calls h 1 m.state.calls t (turn_of (with_limit m.state.calls r) m)) e (fits_turn r counts m.state.calls h m) in
      let stays : after.state.calls ≤ m.state.calls = omega arith in
      (f.facts.0 stays).1

  leaves : (after.state.stobjs.roots ≡ roots_left m.control m.frames m.state.stobjs) × (after.state.symbols ≡ m.state.symbols)
  leaves = by_test (nat_lt r.limit m.state.calls) refl
    where
      by_test : (b : Bool) → nat_lt r.limit m.state.calls ≡ b → (after.state.stobjs.roots ≡ roots_left m.control m.frames m.state.stobjs) × (after.state.symbols ≡ m.state.symbols)
      by_test true g =
          let h : r.limit ≤ m.state.calls = grind (arith, nat_tests) in
          (subst (λ t. Quiet r r.limit (roots_left m.control m.frames m.state.stobjs) m.state.symbols t) e (quiet_turn r r.limit m h)).facts
      by_test false g =
          let h : m.state.calls ≤ r.limit = grind (arith, nat_tests) in
          let same : m.state.calls ≤ m.state.calls = omega arith in
          (subst (λ t. Quiet r m.state.calls (roots_left m.control m.frames m.state.stobjs) m.state.symbols t) (same_turn h) (quiet_turn r m.state.calls m same)).facts

pub writes_where_it_counts : {S : Type 0} → WritesWhereItCounts S
writes_where_it_counts = record {
  lists = λ r counts m after e same. (leaves r counts m after e same).0;
  symbols = λ r counts m after e same. (leaves r counts m after e same).1;
}
