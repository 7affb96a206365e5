-- How much open calls have left behind, told by the frames of the machine over trees; some turns leave it as it is.
use Rattle.std.proofs.Common.{◌≡◌, ℕ, zero, suc, ◌+◌, List, [], ◌∷◌, refl, sym, ap, ◌∙◌, arith, subst}
use Rattle.std.specs.Prelude.{Option, Some, None, Bool, true, false, nat_lt, if◌then◌else◌, slice_get}
use Rattle.model_lists.specs.Lists.{StobjList}
use Rattle.model_terms.specs.Worlds as worlds
use Rattle.model_terms.specs.Worlds.{World}
use Rattle.model_eval.specs.Outcomes.{Shown, Steps, StateOf, OutcomeOf, Gives, Stops, Unknown, one_more_call}
use Rattle.model_eval.specs.Keeping.{Keeping}
use Rattle.model_eval.specs.Evaluated.{RulesOf}
use Rattle.model_slots.specs.Trees as trees
use Rattle.model_slots.specs.Trees.{Tree, Trees}
use Rattle.model_window.specs.Frames as windows
use Rattle.model_window.specs.Frames.{Code}
use Rattle.model_window.specs.Windows.{Memory}
use Rattle.model_window.specs.Turns.{next_part, done, make_local, open_tree, open_in, begin, call, call_by_definition, call_of_abstract, called_name, stop_here}
use Rattle.acl_base.specs.declared.SymId.{SymId}
use Rattle.acl_heap.specs.Objects.{Objects}
use Rattle.acl_machine.specs.declared.frame.Borrowed.{Borrowed}
use Rattle.acl_machine.specs.declared.frame.Step.{Step}
use Rattle.acl_machine.specs.declared.frame.Step.TheVariants as step
use Rattle.acl_machine.specs.declared.frame.Frame.{Frame}
use Rattle.acl_machine.specs.Views.{seen_step, seen_frames, lefts_below, names_below, loans_below}
use Rattle.acl_machine.specs.Keeping.{lefts_in, all_lefts}

module _ {B : Type 0} where
  abbrev pub export_lefts : Option (windows.Export B) → ℕ → ℕ
  export_lefts None n = n
  export_lefts (Some x) n = suc n

  -- with what is left behind around it
  abbrev pub with_lefts : windows.Step ℕ B → ℕ → ℕ
  with_lefts (windows.Test held other) n = n
  with_lefts (windows.Parts s count ts goal) n = n
  with_lefts (windows.Several s body) n = n
  with_lefts (windows.Calling s f count) n = n
  with_lefts (windows.Guarding export name formals names body behind) n = suc (export_lefts export n)
  with_lefts (windows.Running export formals names behind) n = suc (export_lefts export n)
  with_lefts (windows.Allowing f names begun behind) n = suc (suc n)
  with_lefts (windows.Exporting f names begun) n = suc n
  with_lefts (windows.Borrowing s children borrowed producer consumer) n = n
  with_lefts (windows.Producing s borrowed consumer) n = n
  with_lefts (windows.Putting s left borrowed consumer) n = n
  with_lefts (windows.Local s body) n = n
  with_lefts (windows.Last export) n = export_lefts export n

  abbrev pub frame_lefts : List (windows.Frame ℕ B) → ℕ
  frame_lefts [] = zero
  frame_lefts (f ∷ fs) = with_lefts f.step (frame_lefts fs)

module _ {B : Type 0} (h : Objects) (w : World) (ts : List Tree) (code : Code) (d : B) where
  step_seen : (s : Step) (ls : List B) (names : List SymId) (loans : List Borrowed) (n : ℕ) → with_lefts (seen_step h w ts code d ls names loans s) n ≡ lefts_in s + n
  step_seen (step.Test held other) ls names loans n = omega arith
  step_seen (step.Parts at count next left goal) ls names loans n = omega arith
  step_seen (step.Several at body) ls names loans n = omega arith
  step_seen (step.Calling at function count) ls names loans n = omega arith
  step_seen (step.Guarding None function k) ls names loans n = omega arith
  step_seen (step.Guarding (Some x) function k) ls names loans n = omega arith
  step_seen (step.Running None function k) ls names loans n = omega arith
  step_seen (step.Running (Some x) function k) ls names loans n = omega arith
  step_seen (step.Allowing function k number) ls names loans n = omega arith
  step_seen (step.Exporting function k number) ls names loans n = omega arith
  step_seen (step.Borrowing at term bound) ls names loans n = omega arith
  step_seen (step.Producing at k consumer) ls names loans n = omega arith
  step_seen (step.Putting at put k consumer) ls names loans n = omega arith
  step_seen (step.Local at body) ls names loans n = omega arith
  step_seen (step.Last None) ls names loans n = omega arith
  step_seen (step.Last (Some x)) ls names loans n = omega arith

  -- it is what code counts
  pub frames_seen : (fs : List Frame) (ls : List B) (names : List SymId) (loans : List Borrowed) → frame_lefts (seen_frames h w ts code d ls names loans fs) ≡ all_lefts fs
  frames_seen [] ls names loans = refl
  frames_seen (f ∷ fs) ls names loans =
      ap (with_lefts (seen_step h w ts code d ls names loans f.step)) (frames_seen fs (lefts_below f.step ls) (names_below f.step names) (loans_below f.step loans))
      ∙ step_seen f.step ls names loans (all_lefts fs)

module _ {O B : Type 0} where
  -- so much is left behind after a turn that goes on
  abbrev pub HasLefts : ℕ → windows.Turned ℕ O B → Type 0
  HasLefts n (windows.Going m) = frame_lefts m.frames ≡ n
  HasLefts n (windows.Over outcome) = Unit {0}

  pub choose : (n : ℕ) (b : Bool) (s t : windows.Turned ℕ O B) → HasLefts n s → HasLefts n t → HasLefts n (if b then s else t)
  choose n true s t p q = p
  choose n false s t p q = q

  pub otherwise : (n : ℕ) (b : Bool) (s t : windows.Turned ℕ O B) → b ≡ false → HasLefts n t → HasLefts n (if b then s else t)
  otherwise n b s t e p = subst (λ (c : Bool). HasLefts n (if c then s else t)) (sym e) p

-- a definition whose call, outside an export, leaves nothing behind and is one turn
abbrev pub IsAtOnce : Option worlds.Definition → Type 0
IsAtOnce None = Unit {0}
IsAtOnce (Some (worlds.Primitive f row)) = Unit {0}
IsAtOnce (Some (worlds.Defined f)) = ⊥
IsAtOnce (Some (worlds.Macro f formals body)) = Unit {0}
IsAtOnce (Some (worlds.Constant f value)) = Unit {0}
IsAtOnce (Some (worlds.Concrete d class)) = Unit {0}
IsAtOnce (Some (worlds.Generated g)) = ⊥
IsAtOnce (Some (worlds.Abstract d)) = Unit {0}
IsAtOnce (Some (worlds.OfAbstract f)) = ⊥
IsAtOnce (Some (worlds.Named f formals)) = Unit {0}
IsAtOnce (Some (worlds.Signed f formals signature executable)) = Unit {0}

module _ {O B : Type 0} {keeping : Keeping ℕ O B} (r : RulesOf keeping) (code : Code) (room base : ℕ) (frames : List (windows.Frame ℕ B)) (memory : Memory ℕ) (n : ℕ) (behind : frame_lefts frames ≡ n) where
  pub part_lefts : (s count : ℕ) (ts : Trees) (goal : windows.Then) (state : StateOf O) → HasLefts n (next_part r code room base frames memory s count ts goal state)
  part_lefts s count trees.none (windows.ThenBody body) state = behind
  part_lefts s count trees.none windows.ThenValues state = behind
  part_lefts s count trees.none (windows.ThenCall f) state = behind
  part_lefts s count (trees.more t ts) goal state = behind

  done_lefts : (outcome : OutcomeOf ℕ O) → HasLefts n (done r code None room base frames memory outcome)
  done_lefts (Gives values state) = behind
  done_lefts (Stops stop origin state) = behind
  done_lefts Unknown = tt

  local_lefts : (s x : ℕ) (l : Option (StobjList ℕ)) (producer body : Tree) (state : StateOf O) → HasLefts n (make_local r code room base frames memory s x l producer body state)
  local_lefts s x None producer body state = tt
  local_lefts s x (Some l) producer body state = behind

  open_lefts : (tree : Tree) (state : StateOf O) → HasLefts n (open_tree r code room base frames memory tree state)
  open_lefts (trees.Leaf operand) state = behind
  open_lefts (trees.If s test held other) state = behind
  open_lefts (trees.Let s bound body) state = part_lefts s 0 bound (windows.ThenBody body) state
  open_lefts (trees.Mv s parts) state = part_lefts s 0 parts windows.ThenValues state
  open_lefts (trees.MvLet s bound body) state = behind
  open_lefts (trees.StobjLet s children producer consumer) state = behind
  open_lefts (trees.WithLocal s stobj producer body) state =
      choose n (nat_lt state.calls r.limit) (make_local r code room base frames memory s stobj (r.fresh stobj) producer body (one_more_call state)) (stop_here r code None room base frames memory Steps state)
      (local_lefts s stobj (r.fresh stobj) producer body (one_more_call state)) behind
  open_lefts (trees.MustBeEqual logic) state = behind
  open_lefts (trees.Call s f actuals) state = part_lefts s 0 actuals (windows.ThenCall f) state

  -- a call of what has this definition
  abbrev called : ℕ → List (Shown ℕ) → Option worlds.Definition → ℕ → StateOf O → windows.Turned ℕ O B
  called g values what name state =
      call_by_definition r code None (λ f later. call_of_abstract r code room base frames memory g f f.role values later) room base frames memory g what name values (one_more_call state)

  definition_lefts : (g : ℕ) (values : List (Shown ℕ)) (what : Option worlds.Definition) (name : ℕ) (state : StateOf O) → IsAtOnce what → HasLefts n (called g values what name state)
  definition_lefts g values None name state q = behind
  definition_lefts g values (Some (worlds.Primitive f row)) name state q = done_lefts (r.primitive f row.prim values (one_more_call state))
  definition_lefts g values (Some (worlds.Defined f)) name state q = absurd q
  definition_lefts g values (Some (worlds.Macro f formals body)) name state q = behind
  definition_lefts g values (Some (worlds.Constant f value)) name state q = behind
  definition_lefts g values (Some (worlds.Concrete d class)) name state q = behind
  definition_lefts g values (Some (worlds.Generated f)) name state q = absurd q
  definition_lefts g values (Some (worlds.Abstract d)) name state q = behind
  definition_lefts g values (Some (worlds.OfAbstract f)) name state q = absurd q
  definition_lefts g values (Some (worlds.Named f formals)) name state q = behind
  definition_lefts g values (Some (worlds.Signed f formals signature executable)) name state q = behind

  pub call_lefts : (g : ℕ) (values : List (Shown ℕ)) (state : StateOf O) (what : Option worlds.Definition) → slice_get r.world g ≡ what → IsAtOnce what → HasLefts n (call r code room base frames memory g values state)
  call_lefts g values state what e q =
      choose n (nat_lt state.calls r.limit) (called g values (slice_get r.world g) (called_name r.world g) state) (stop_here r code None room base frames memory Steps state)
      (subst (λ x. HasLefts n (called g values x (called_name r.world g) state)) (sym e) (definition_lefts g values what (called_name r.world g) state q)) behind

  pub too_many_lefts : (g : ℕ) (values : List (Shown ℕ)) (state : StateOf O) → nat_lt state.calls r.limit ≡ false → HasLefts n (call r code room base frames memory g values state)
  too_many_lefts g values state e =
      otherwise n (nat_lt state.calls r.limit) (called g values (slice_get r.world g) (called_name r.world g) state) (stop_here r code None room base frames memory Steps state) e behind

module _ {O B : Type 0} {keeping : Keeping ℕ O B} (r : RulesOf keeping) (code : Code) (base : ℕ) (frames : List (windows.Frame ℕ B)) (memory : Memory ℕ) (n : ℕ) (behind : frame_lefts frames ≡ n) where
  in_lefts : (room : ℕ) (tree : Tree) (state : StateOf O) → HasLefts n (open_in r code room base frames memory tree state)
  in_lefts zero tree state = behind
  in_lefts (suc room) tree state = open_lefts r code room base frames memory n behind tree state

  pub begin_lefts : (room : ℕ) (tree : Tree) (state : StateOf O) → HasLefts n (begin r code room base frames memory tree state)
  begin_lefts room (trees.Leaf operand) state = behind
  begin_lefts room (trees.If s test held other) state = in_lefts room (trees.If s test held other) state
  begin_lefts room (trees.Let s bound body) state = in_lefts room (trees.Let s bound body) state
  begin_lefts room (trees.Mv s parts) state = in_lefts room (trees.Mv s parts) state
  begin_lefts room (trees.MvLet s bound body) state = in_lefts room (trees.MvLet s bound body) state
  begin_lefts room (trees.StobjLet s children producer consumer) state = in_lefts room (trees.StobjLet s children producer consumer) state
  begin_lefts room (trees.WithLocal s stobj producer body) state = in_lefts room (trees.WithLocal s stobj producer body) state
  begin_lefts room (trees.MustBeEqual logic) state = in_lefts room (trees.MustBeEqual logic) state
  begin_lefts room (trees.Call s f actuals) state = in_lefts room (trees.Call s f actuals) state
