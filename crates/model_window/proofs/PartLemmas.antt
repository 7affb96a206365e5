-- Parts, children and local stobjs of machines that stand for one another.
use Rattle.std.specs.Prelude.{◌≡◌, ℕ, ◌+◌, ◌≤◌, List, [], ◌∷◌, ◌++◌, map, length, Option, Some, None, nat_lt, slice_get, refl, if◌then◌else◌}
use Rattle.std.specs.Option.{option_map_or}
use Rattle.std.proofs.Common.{sym, ap, ◌∙◌, arith, subst}
use Rattle.model_prims.specs.Kinds.{by_number, nil_of}
use Rattle.model_lists.specs.Lists.{item}
use Rattle.model_terms.specs.Cores as cores
use Rattle.model_terms.specs.Cores.{Core, Cores, Reached, reached}
use Rattle.model_terms.specs.Worlds.{World, definition}
use Rattle.model_terms.specs.Worlds.{World}
use Rattle.model_eval.specs.Outcomes.{Shown, Plain, StobjNamed, Steps, Guard, StateOf, here, one_more_call}
use Rattle.model_eval.specs.Keeping.{Loan, Keeping}
use Rattle.model_eval.specs.Variables.{Variables, variable_in, nothing, bound, object_of}
use Rattle.model_eval.specs.Lending.{field_number, is_reached, loan_values, indices, are_twins}
use Rattle.model_eval.specs.Evaluated.{RulesOf, leaf, leaf_object, index_of, loan_of, lending, loaned_variables, stobj_let_word}
use Rattle.model_machine.specs.Frames as machine
use Rattle.model_machine.specs.Turns as forms
use Rattle.model_slots.specs.Trees as trees
use Rattle.model_slots.specs.Trees.{Tree, Trees, Child, Slot, Const}
use Rattle.model_slots.specs.Environments.{Environment, slot_in, all_bound, ordinary_bound}
use Rattle.model_slots.specs.Resolved.{number_in, variable_at, operand_in, index_in, resolved, all_resolved}
use Rattle.model_slots.specs.Laws.{Holds, AreAsNamed}
use Rattle.model_slots.proofs.SlotLemmas.{finds_variables, binds_as_evaluation, are_bound}
use Rattle.model_slots.proofs.WorldLemmas.{keeps_numbers}
use Rattle.model_window.specs.Windows.{Memory, window, all_written}
use Rattle.model_window.specs.Frames.{Code, Borrowed}
use Rattle.model_window.specs.Frames as windows
use Rattle.model_window.specs.Turns.{last_form, parts_done, next_part, operand_value, index_value, loan_at, reach, lend_all}
use Rattle.model_window.specs.Stands.{Origins, IsEarlier, HoldsTrees, SeesNil, InScope, NoExport, marked, children_of, BodyStands, ThenStands, Bodies, Values, Calls, FramesStand, Inside, TurnStands}
use Rattle.model_window.specs.Stands as stands
use Rattle.model_window.specs.Following.{worlds_of}
use Rattle.model_window.specs.Fitting.{FitGoal, FitParts}
use Rattle.model_window.proofs.MemoryLemmas.{Agrees, agrees_all, agrees_lower, holds_all, read_held}
use Rattle.model_window.proofs.KeptLemmas.{scope_kept, frames_kept}
use Rattle.model_window.proofs.TreeLemmas.{some_given, both_given, lies_wider, loans_marked}
use Rattle.model_window.proofs.CallLemmas.{goes, stands_if, stops_plain}

module _ {S O B : Type 0} {keeping : Keeping S O B} (r : RulesOf keeping) (origins : Origins) (code : Code) (h : HoldsTrees r.world origins code) (sees : SeesNil r) where
  -- ---- a form's value is that of its last part

  pub last_alike : (w : World) (ws : List World) (earlier : IsEarlier w r.world) (room base s outer : ℕ) (env : Environment) (variables inner : Variables S) (fs : List (windows.Frame S B)) (fs' : List (machine.Frame S B)) (memory : Memory S) (tree : Tree) (form : Core) (state : StateOf O)
      → outer ≤ base + s → InScope memory base s env inner → resolved w env s form ≡ Some tree → FramesStand r.world memory ws outer fs fs'
      → TurnStands r.world (worlds_of w ws w) (last_form r code room base fs memory tree state) (forms.last_form r room variables fs' form inner state)
  last_alike w ws earlier room base s outer env variables inner fs fs' memory tree form state l scope e hs =
      goes r origins code h sees (w ∷ ws) w room (base + s) _ _ memory _ _ state
      (Inside w ws base outer (base + s) variables (windows.Last None) (machine.Last None) fs fs' earlier (stands.Last None None l NoExport) hs)
      (stands.Begins env s base tree form inner (omega arith) scope earlier e)

  bound_scope : (w : World) (memory : Memory S) (base s : ℕ) (env : Environment) (names : List ℕ) (values : List (Shown S)) (variables : Variables S)
      → InScope memory base s env variables → AreAsNamed w names values → Holds (window memory base) s values
      → InScope memory base (s + length names) (ordinary_bound w s names env) (bound names values variables)
  bound_scope w memory base s env names values variables scope fit held = record {
    below = are_bound.names w s env names scope.below;
    are = ap (bound names values) scope.are ∙ binds_as_evaluation.names w (window memory base) s env names values fit held;
  }

  -- a body over values that lie in its slots
  pub body_alike : (w : World) (ws : List World) (earlier : IsEarlier w r.world) (room base s outer : ℕ) (env : Environment) (variables : Variables S) (fs : List (windows.Frame S B)) (fs' : List (machine.Frame S B)) (memory : Memory S) (tree : Tree) (names : List ℕ) (body : Core) (values : List (Shown S)) (state : StateOf O)
      → outer ≤ base + s → InScope memory base s env variables → AreAsNamed w names values → Holds (window memory base) s values → BodyStands w env s names body tree → FramesStand r.world memory ws outer fs fs'
      → TurnStands r.world (worlds_of w ws w) (last_form r code room base fs memory tree state) (forms.last_form r room variables fs' body (bound names values variables) state)
  body_alike w ws earlier room base s outer env variables fs fs' memory tree names body values state l scope fit held b hs =
      last_alike w ws earlier room base (s + length names) outer (ordinary_bound w s names env) variables (bound names values variables) fs fs' memory tree body state (omega arith)
      (bound_scope w memory base s env names values variables scope fit held) b.is hs

  -- the same where they are written first
  pub bound_alike : (w : World) (ws : List World) (earlier : IsEarlier w r.world) (room base s outer inner : ℕ) (env : Environment) (variables : Variables S) (fs : List (windows.Frame S B)) (fs' : List (machine.Frame S B)) (memory : Memory S) (tree : Tree) (names : List ℕ) (body : Core) (values : List (Shown S)) (state : StateOf O)
      → outer ≤ base + s → InScope memory base s env variables → AreAsNamed w names values → BodyStands w env s names body tree → FramesStand r.world memory ws outer fs fs'
      → TurnStands r.world (worlds_of w ws w) (last_form r code room base fs (all_written (base + s) values memory) tree state) (forms.last_form r room variables fs' body (bound names values variables) state)
  bound_alike w ws earlier room base s outer inner env variables fs fs' memory tree names body values state l scope fit b hs =
      let a : Agrees memory (all_written (base + s) values memory) (base + s) = agrees_all (base + s) values memory in
      body_alike w ws earlier room base s outer env variables fs fs' (all_written (base + s) values memory) tree names body values state l
      (scope_kept memory _ base s (base + s) env variables a (omega arith) scope) fit (holds_all base s values memory) b
      (frames_kept r.world memory _ ws outer fs fs' (agrees_lower memory _ outer (base + s) l a) hs)

  -- ---- parts

  goal_alike : (w : World) (ws : List World) (earlier : IsEarlier w r.world) (room base s count outer : ℕ) (env : Environment) (variables : Variables S) (fs : List (windows.Frame S B)) (fs' : List (machine.Frame S B)) (memory : Memory S) (goal : windows.Then) (aim : machine.Then) (before : List (Shown S)) (state : StateOf O)
      → outer ≤ base + s → InScope memory base s env variables → Holds (window memory base) s before → length before ≡ count → FitGoal r w aim before → FramesStand r.world memory ws outer fs fs' → ThenStands r.world w env s goal aim
      → TurnStands r.world (worlds_of w ws w) (parts_done r code room base fs memory s count goal state) (forms.parts_done r room variables fs' aim before state)
  goal_alike w ws earlier room base s count outer env variables fs fs' memory goal aim before state l scope held many fit hs (Bodies names body tree b) = body_alike w ws earlier room base s outer env variables fs fs' memory tree names body before state l scope fit held b hs
  goal_alike w ws earlier room base s count outer env variables fs fs' memory goal aim before state l scope held many fit hs Values =
      subst
      (λ vs. TurnStands r.world (worlds_of w ws w)
      (windows.Going (record { room = room; frames = record { step = windows.Last None; base = base } ∷ fs; memory = memory; control = windows.Give vs; state = state }))
      (forms.parts_done r room variables fs' machine.ThenValues before state))
      (sym (read_held (window memory base) s count before many held))
      (goes r origins code h sees (w ∷ ws) w room outer _ _ memory _ _ state (Inside w ws base outer outer variables (windows.Last None) (machine.Last None) fs fs' earlier (stands.Last None None (omega arith) NoExport) hs) (stands.Gives before))
  goal_alike w ws earlier room base s count outer env variables fs fs' memory goal aim before state l scope held many fit hs (Calls f n e) =
      goes r origins code h sees (w ∷ ws) w room (base + (s + count)) _ _ memory _ _ state (Inside w ws base outer (base + (s + count)) variables _ _ fs fs' earlier (stands.Calling s n count f before l (omega arith) held many e) hs) (stands.Gives [])

  pub part_alike : (w : World) (ws : List World) (earlier : IsEarlier w r.world) (room base s count outer : ℕ) (env : Environment) (variables : Variables S) (fs : List (windows.Frame S B)) (fs' : List (machine.Frame S B)) (memory : Memory S) (ts : Trees) (goal : windows.Then) (aim : machine.Then) (parts : Cores) (before : List (Shown S)) (state : StateOf O)
      → outer ≤ base + s → InScope memory base s env variables → Holds (window memory base) s before → length before ≡ count → all_resolved w env (s + count) parts ≡ Some ts → ThenStands r.world w env s goal aim
      → FitParts r w parts aim before → FramesStand r.world memory ws outer fs fs'
      → TurnStands r.world (worlds_of w ws w) (next_part r code room base fs memory s count ts goal state) (forms.next_part r room variables fs' parts before aim state)
  unfolding all_resolved
  part_alike w ws earlier room base s count outer env variables fs fs' memory ts goal aim cores.none before state l scope held many e then_is fit hs =
      some_given trees.none ts e (λ us. TurnStands r.world (worlds_of w ws w) (next_part r code room base fs memory s count us goal state) (forms.next_part r room variables fs' cores.none before aim state))
      (goal_alike w ws earlier room base s count outer env variables fs fs' memory goal aim before state l scope held many fit hs then_is)
  part_alike w ws earlier room base s count outer env variables fs fs' memory ts goal aim (cores.more part parts) before state l scope held many e then_is fit hs =
      both_given trees.more (resolved w env (s + count) part) (all_resolved w env (s + count + 1) parts) ts e
      (λ us. TurnStands r.world (worlds_of w ws w) (next_part r code room base fs memory s count us goal state) (forms.next_part r room variables fs' (cores.more part parts) before aim state))
      (λ u us e_first e_rest.
      goes r origins code h sees (w ∷ ws) w room (base + (s + count)) _ _ memory _ _ state
      (Inside w ws base outer (base + (s + count)) variables _ _ fs fs' earlier (stands.Parts env s count us goal parts before aim l (omega arith) scope held many e_rest then_is) hs)
      (stands.Begins env (s + count) base u part variables (omega arith) (record { below = lies_wider s (s + count) env (omega arith) scope.below; are = scope.are }) earlier e_first))

  -- ---- operands

  pub variable_alike : (memory : Memory S) (base s x : ℕ) (env : Environment) (variables : Variables S) → InScope memory base s env variables
      → variable_in r.kind variables x ≡ operand_value r code memory base (variable_at env x)
  variable_alike memory base s x env variables scope =
      ap (λ vs. variable_in r.kind vs x) scope.are ∙ (finds_variables.value r.kind (window memory base) env x ∙ by (slot_in env x))
    where
      by : (slot : Option ℕ) → option_map_or (window memory base) slot (nothing r.kind) ≡ operand_value r code memory base (option_map_or Slot slot (Const (nil_of by_number)))
      by None = ap Plain (sym sees.nil)
      by (Some i) = refl

  operand_alike : (memory : Memory S) (base s : ℕ) (env : Environment) (variables : Variables S) (form : Core) → InScope memory base s env variables
      → leaf_object r (leaf r form variables) ≡ object_of r.kind (operand_value r code memory base (operand_in env form))
  operand_alike memory base s env variables (cores.Var x) scope = ap (object_of r.kind) (variable_alike memory base s x env variables scope)
  operand_alike memory base s env variables (cores.Const o) scope = refl
  operand_alike memory base s env variables (cores.If a b c) scope = sym sees.nil
  operand_alike memory base s env variables (cores.Let names bound body) scope = sym sees.nil
  operand_alike memory base s env variables (cores.Mv parts) scope = sym sees.nil
  operand_alike memory base s env variables (cores.MvLet names bound body) scope = sym sees.nil
  operand_alike memory base s env variables (cores.StobjLet names bound vars producer consumer) scope = sym sees.nil
  operand_alike memory base s env variables (cores.WithLocal stobj names producer body) scope = sym sees.nil
  operand_alike memory base s env variables (cores.MustBeEqual logic exec) scope = sym sees.nil
  operand_alike memory base s env variables (cores.Call f actuals) scope = sym sees.nil

  index_alike : (memory : Memory S) (base s : ℕ) (env : Environment) (variables : Variables S) (form : Option Core) → InScope memory base s env variables
      → index_of r form variables ≡ index_value r code memory base (index_in env form)
  index_alike memory base s env variables None scope = refl
  index_alike memory base s env variables (Some form) scope = ap Some (operand_alike memory base s env variables form scope)

  -- ---- children

  pub loan_alike : (memory : Memory S) (base s n p x : ℕ) (env : Environment) (variables : Variables S) (by : Reached) (c : Child) → InScope memory base s env variables
      → number_in r.world by.accessor ≡ Some c.accessor → index_in env by.index ≡ c.index → c.name ≡ x → loan_of r x p by variables ≡ loan_at r code memory base p c
  loan_alike memory base s n p x env variables by c scope e i named =
      let f : field_number (definition r.world by.accessor) ≡ field_number (slice_get r.world c.accessor) = ap field_number (keeps_numbers.finds r.world by.accessor c.accessor e) in
      let k : index_of r by.index variables ≡ index_value r code memory base c.index = index_alike memory base s env variables by.index scope ∙ ap (index_value r code memory base) i in
      ap (λ y. record { child = y; parent = p; field = field_number (definition r.world by.accessor); index = index_of r by.index variables }) (sym named)
      ∙ (ap (λ y. record { child = c.name; parent = p; field = y; index = index_of r by.index variables }) f
      ∙ ap (λ y. record { child = c.name; parent = p; field = field_number (slice_get r.world c.accessor); index = y }) k)

  pub reached_alike : (w : World) (ws : List World) (earlier : IsEarlier w r.world) (room base outer inner : ℕ) (variables : Variables S) (fs : List (windows.Frame S B)) (fs' : List (machine.Frame S B)) (memory : Memory S) (step : windows.Step S B) (step' : machine.Step S B) (accessor accessor' : ℕ) (loan : Loan S) (state : StateOf O)
      → accessor ≡ accessor' → stands.StepStands r.world w memory base outer inner variables step step' → FramesStand r.world memory ws outer fs fs'
      → TurnStands r.world (worlds_of w ws w) (reach r code room base fs memory step accessor loan state) (forms.reach r room variables fs' step' accessor' loan state)
  reached_alike w ws earlier room base outer inner variables fs fs' memory step step' accessor accessor' loan state e st hs =
      subst (λ a. TurnStands r.world (worlds_of w ws w) (reach r code room base fs memory step accessor loan state) (forms.reach r room variables fs' step' a loan state)) e
      (stands_if r origins code h sees _ (nat_lt state.calls r.limit) _ _ _ _
      (stands_if r origins code h sees _ (is_reached loan.index (item loan.field (keeping.read state.stobjs loan.parent))) _ _ _ _
      (goes r origins code h sees (w ∷ ws) w room inner _ _ memory _ _ (one_more_call state) (Inside w ws base outer inner variables step step' fs fs' earlier st hs) (stands.Gives []))
      (stops_plain r origins code h sees w ws w earlier room base outer variables fs fs' memory (Guard accessor (loan_values loan)) (here (one_more_call state)) (one_more_call state) hs))
      (stops_plain r origins code h sees w ws w earlier room base outer variables fs fs' memory Steps (here state) state hs))

  pub lent_alike : (w : World) (ws : List World) (earlier : IsEarlier w r.world) (room base s outer : ℕ) (env : Environment) (variables : Variables S) (fs : List (windows.Frame S B)) (fs' : List (machine.Frame S B)) (memory : Memory S) (held other : Tree) (loans : List (Loan S)) (vars : List ℕ) (producer consumer : Core) (state : StateOf O)
      → outer ≤ base + s → InScope memory base s env variables → resolved w (all_bound s (children_of loans) env) (s + length (children_of loans)) producer ≡ Some held → BodyStands w env s vars consumer other → FramesStand r.world memory ws outer fs fs'
      → TurnStands r.world (worlds_of w ws w) (lend_all r code room base fs memory s (marked vars loans) held other state) (forms.lend_all r room variables fs' loans vars producer consumer state)
  lent_alike w ws earlier room base s outer env variables fs fs' memory held other loans vars producer consumer state l scope e b hs =
      let after : Memory S = all_written (base + s) (map (λ (k : Loan S). StobjNamed k.child) loans) memory in
      let a : Agrees memory after (base + s) = agrees_all (base + s) (map (λ (k : Loan S). StobjNamed k.child) loans) memory in
      let inside : InScope after base s env variables = scope_kept memory after base s (base + s) env variables a (omega arith) scope in
      subst
      (λ ls. TurnStands r.world (worlds_of w ws w)
      (if are_twins r.kind ls then windows.Going (record { room = room; frames = record { step = windows.Last None; base = base } ∷ fs; memory = memory; control = windows.Stopped (Guard stobj_let_word (indices ls)) (here state); state = state })
      else windows.Going (record { room = room; frames = record { step = windows.Producing s (marked vars loans) other; base = base } ∷ fs; memory = all_written (base + s) (map (λ (k : Loan S). StobjNamed k.child) ls) memory; control = windows.Begin held base; state = lending r ls state }))
      (forms.lend_all r room variables fs' loans vars producer consumer state))
      (sym (loans_marked vars loans))
      (stands_if r origins code h sees _ (are_twins r.kind loans) _ _ _ _
      (stops_plain r origins code h sees w ws w earlier room base outer variables fs fs' memory (Guard stobj_let_word (indices loans)) (here state) state hs)
      (goes r origins code h sees (w ∷ ws) w room (base + s) _ _ after _ _ (lending r loans state)
      (Inside w ws base outer (base + s) variables _ _ fs fs' earlier (stands.Producing env s (marked vars loans) other vars loans consumer l (omega arith) inside refl b) (frames_kept r.world memory after ws outer fs fs' (agrees_lower memory after outer (base + s) l a) hs))
      (stands.Begins (all_bound s (children_of loans) env) (s + length (children_of loans)) base held producer (loaned_variables r loans variables) (omega arith)
      (record {
        below = are_bound.all s env (children_of loans) inside.below;
        are = ap (λ vs. map (λ (k : Loan S). (k.child, StobjNamed k.child)) loans ++ vs) inside.are ∙ binds_as_evaluation.children (window after base) s env loans (holds_all base s (map (λ (k : Loan S). StobjNamed k.child) loans) memory);
      })
      earlier e)))
