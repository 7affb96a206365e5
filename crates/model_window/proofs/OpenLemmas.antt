-- Trees that begin in machines that stand for one another.
use Rattle.std.specs.Prelude.{◌≡◌, ℕ, zero, suc, ◌+◌, ◌≤◌, List, [], ◌∷◌, length, Some, None, nat_lt, refl}
use Rattle.std.proofs.Common.{sym, arith, subst}
use Rattle.model_terms.specs.Cores as cores
use Rattle.model_terms.specs.Cores.{Core, Cores}
use Rattle.model_terms.specs.Worlds.{World}
use Rattle.model_eval.specs.Outcomes.{Steps, Depth, StateOf, here, one_more_call}
use Rattle.model_eval.specs.Keeping.{Keeping}
use Rattle.model_eval.specs.Variables.{Variables}
use Rattle.model_eval.specs.Evaluated.{RulesOf, leaf}
use Rattle.model_machine.specs.Frames as machine
use Rattle.model_machine.specs.Turns as forms
use Rattle.model_slots.specs.Trees as trees
use Rattle.model_slots.specs.Trees.{Tree, Trees}
use Rattle.model_slots.specs.Environments.{Environment, all_bound, ordinary_bound}
use Rattle.model_slots.specs.Resolved.{number_in, variable_at, children_in, resolved, all_resolved}
use Rattle.model_window.specs.Windows.{Memory}
use Rattle.model_window.specs.Frames.{Code}
use Rattle.model_window.specs.Frames as windows
use Rattle.model_window.specs.Turns.{next_part, begin, open_in, open_tree}
use Rattle.model_window.specs.Stands.{Origins, IsEarlier, HoldsTrees, SeesNil, InScope, FramesStand, Inside, ThenStands, Bodies, Values, Calls, TurnStands}
use Rattle.model_window.specs.Stands as stands
use Rattle.model_window.specs.Following.{worlds_of, after_begin}
use Rattle.model_window.specs.Fitting.{FitForm, FitParts}
use Rattle.model_window.proofs.TreeLemmas.{some_given, mapped_given, both_given, three_given}
use Rattle.model_window.proofs.CallLemmas.{goes, stands_if, stops_plain}
use Rattle.model_window.proofs.PartLemmas.{variable_alike, part_alike, last_alike}
use Rattle.model_window.proofs.ChildLemmas.{local_alike}

module _ {S O B : Type 0} {keeping : Keeping S O B} (r : RulesOf keeping) (origins : Origins) (code : Code) (h : HoldsTrees r.world origins code) (sees : SeesNil r) where
  -- a form is opened where there is room for it
  opened_in : (w : World) (ws : List World) (earlier : IsEarlier w r.world) (room base inner : ℕ) (variables : Variables S) (fs : List (windows.Frame S B)) (fs' : List (machine.Frame S B)) (memory : Memory S) (tree : Tree) (form : Core) (state : StateOf O) → FramesStand r.world memory ws inner fs fs'
      → ((room : ℕ) → TurnStands r.world (worlds_of w ws w) (open_tree r code room base fs memory tree state) (forms.open_form r room variables fs' form state))
      → TurnStands r.world (after_begin {S = S} None room (record { frames = ws; control = w })) (open_in r code room base fs memory tree state) (forms.open_in r room variables fs' form state)
  opened_in w ws earlier zero base inner variables fs fs' memory tree form state hs go = goes r origins code h sees ws w 0 inner fs fs' memory _ _ state hs (stands.Stops Depth (here state))
  opened_in w ws earlier (suc room) base inner variables fs fs' memory tree form state hs go = go room

  fit_values : (w : World) (parts : Cores) → FitParts r w parts machine.ThenValues []
  fit_values w cores.none = tt
  fit_values w (cores.more part parts) = tt

  fit_call : (w : World) (f : ℕ) (parts : Cores) → FitParts r w parts (machine.ThenCall f) []
  fit_call w f cores.none = tt
  fit_call w f (cores.more part parts) = tt

  parts_begin : (w : World) (ws : List World) (earlier : IsEarlier w r.world) (room base s inner : ℕ) (env : Environment) (variables : Variables S) (fs : List (windows.Frame S B)) (fs' : List (machine.Frame S B)) (memory : Memory S) (ts : Trees) (goal : windows.Then) (aim : machine.Then) (parts : Cores) (state : StateOf O)
      → inner ≤ base + s → InScope memory base s env variables → all_resolved w env s parts ≡ Some ts → ThenStands r.world w env s goal aim → FitParts r w parts aim [] → FramesStand r.world memory ws inner fs fs'
      → TurnStands r.world (worlds_of w ws w) (next_part r code room base fs memory s 0 ts goal state) (forms.next_part r room variables fs' parts [] aim state)
  parts_begin w ws earlier room base s inner env variables fs fs' memory ts goal aim parts state l scope e then_is fit hs =
      let d : s ≡ s + 0 = omega arith in
      part_alike r origins code h sees w ws earlier room base s 0 inner env variables fs fs' memory ts goal aim parts [] state l scope tt refl (subst (λ i. all_resolved w env i parts ≡ Some ts) d e) then_is fit hs

  pub begins_alike : (w : World) (ws : List World) (earlier : IsEarlier w r.world) (room base s inner : ℕ) (env : Environment) (variables : Variables S) (fs : List (windows.Frame S B)) (fs' : List (machine.Frame S B)) (memory : Memory S) (tree : Tree) (form : Core) (state : StateOf O)
      → inner ≤ base + s → InScope memory base s env variables → resolved w env s form ≡ Some tree → FitForm r w form → FramesStand r.world memory ws inner fs fs'
      → TurnStands r.world (after_begin (leaf r form variables) room (record { frames = ws; control = w })) (begin r code room base fs memory tree state) (forms.begin r (leaf r form variables) room variables fs' form state)
  unfolding resolved
  begins_alike w ws earlier room base s inner env variables fs fs' memory tree (cores.Var x) state l scope e fit hs =
      some_given (trees.Leaf (variable_at env x)) tree e
      (λ t. TurnStands r.world (record { frames = ws; control = w }) (begin r code room base fs memory t state) (forms.begin r (leaf r (cores.Var x) variables) room variables fs' (cores.Var x) state))
      (subst
      (λ v. TurnStands r.world (record { frames = ws; control = w }) (begin r code room base fs memory (trees.Leaf (variable_at env x)) state) (forms.begin r (Some v) room variables fs' (cores.Var x) state))
      (sym (variable_alike r origins code h sees memory base s x env variables scope))
      (goes r origins code h sees ws w room inner fs fs' memory _ _ state hs (stands.Gives _)))
  begins_alike w ws earlier room base s inner env variables fs fs' memory tree (cores.Const o) state l scope e fit hs =
      some_given (trees.Leaf (trees.Const o)) tree e
      (λ t. TurnStands r.world (record { frames = ws; control = w }) (begin r code room base fs memory t state) (forms.begin r (leaf r (cores.Const o) variables) room variables fs' (cores.Const o) state))
      (goes r origins code h sees ws w room inner fs fs' memory _ _ state hs (stands.Gives _))
  begins_alike w ws earlier room base s inner env variables fs fs' memory tree (cores.If a b c) state l scope e fit hs =
      three_given (trees.If s) (resolved w env s a) (resolved w env s b) (resolved w env s c) tree e
      (λ t. TurnStands r.world (after_begin {S = S} None room (record { frames = ws; control = w })) (begin r code room base fs memory t state) (forms.open_in r room variables fs' (cores.If a b c) state))
      (λ test held other e_test e_held e_other.
      opened_in w ws earlier room base inner variables fs fs' memory (trees.If s test held other) (cores.If a b c) state hs
      (λ room. goes r origins code h sees (w ∷ ws) w room (base + s) _ _ memory _ _ state
      (Inside w ws base inner (base + s) variables _ _ fs fs' earlier (stands.Tests env s held other b c l (omega arith) scope e_held e_other) hs)
      (stands.Begins env s base test a variables (omega arith) scope earlier e_test)))
  begins_alike w ws earlier room base s inner env variables fs fs' memory tree (cores.Let names bound body) state l scope e fit hs =
      both_given (trees.Let s) (all_resolved w env s bound) (resolved w (ordinary_bound w s names env) (s + length names) body) tree e
      (λ t. TurnStands r.world (after_begin {S = S} None room (record { frames = ws; control = w })) (begin r code room base fs memory t state) (forms.open_in r room variables fs' (cores.Let names bound body) state))
      (λ ts last e_parts e_body.
      opened_in w ws earlier room base inner variables fs fs' memory (trees.Let s ts last) (cores.Let names bound body) state hs
      (λ room. parts_begin w ws earlier room base s inner env variables fs fs' memory ts (windows.ThenBody last) (machine.ThenBody names body) bound state l scope e_parts (Bodies names body last (record { is = e_body })) fit hs))
  begins_alike w ws earlier room base s inner env variables fs fs' memory tree (cores.Mv parts) state l scope e fit hs =
      mapped_given (trees.Mv s) (all_resolved w env s parts) tree e
      (λ t. TurnStands r.world (after_begin {S = S} None room (record { frames = ws; control = w })) (begin r code room base fs memory t state) (forms.open_in r room variables fs' (cores.Mv parts) state))
      (λ ts e_parts.
      opened_in w ws earlier room base inner variables fs fs' memory (trees.Mv s ts) (cores.Mv parts) state hs
      (λ room. parts_begin w ws earlier room base s inner env variables fs fs' memory ts windows.ThenValues machine.ThenValues parts state l scope e_parts Values (fit_values w parts) hs))
  begins_alike w ws earlier room base s inner env variables fs fs' memory tree (cores.MvLet names bound body) state l scope e fit hs =
      both_given (trees.MvLet s) (resolved w env s bound) (resolved w (ordinary_bound w s names env) (s + length names) body) tree e
      (λ t. TurnStands r.world (after_begin {S = S} None room (record { frames = ws; control = w })) (begin r code room base fs memory t state) (forms.open_in r room variables fs' (cores.MvLet names bound body) state))
      (λ first last e_first e_body.
      opened_in w ws earlier room base inner variables fs fs' memory (trees.MvLet s first last) (cores.MvLet names bound body) state hs
      (λ room. goes r origins code h sees (w ∷ ws) w room (base + s) _ _ memory _ _ state
      (Inside w ws base inner (base + s) variables _ _ fs fs' earlier (stands.Several env s last names body l (omega arith) scope (record { is = e_body })) hs)
      (stands.Begins env s base first bound variables (omega arith) scope earlier e_first)))
  begins_alike w ws earlier room base s inner env variables fs fs' memory tree (cores.StobjLet names bound vars producer consumer) state l scope e fit hs =
      three_given (trees.StobjLet s) (children_in w env vars names bound) (resolved w (all_bound s names env) (s + length names) producer) (resolved w (ordinary_bound w s vars env) (s + length vars) consumer) tree e
      (λ t. TurnStands r.world (after_begin {S = S} None room (record { frames = ws; control = w })) (begin r code room base fs memory t state) (forms.open_in r room variables fs' (cores.StobjLet names bound vars producer consumer) state))
      (λ children held other e_children e_held e_other.
      opened_in w ws earlier room base inner variables fs fs' memory (trees.StobjLet s children held other) (cores.StobjLet names bound vars producer consumer) state hs
      (λ room. goes r origins code h sees (w ∷ ws) w room (base + s) _ _ memory _ _ state
      (Inside w ws base inner (base + s) variables _ _ fs fs' earlier (stands.Borrowing env s children [] held other names bound [] vars producer consumer l (omega arith) scope e_children refl e_held (record { is = e_other })) hs)
      (stands.Gives [])))
  begins_alike w ws earlier room base s inner env variables fs fs' memory tree (cores.WithLocal stobj names producer body) state l scope e fit hs =
      both_given (trees.WithLocal s stobj) (resolved w (all_bound s (stobj ∷ []) env) (s + 1) producer) (resolved w (ordinary_bound w s names env) (s + length names) body) tree e
      (λ t. TurnStands r.world (after_begin {S = S} None room (record { frames = ws; control = w })) (begin r code room base fs memory t state) (forms.open_in r room variables fs' (cores.WithLocal stobj names producer body) state))
      (λ held other e_held e_other.
      opened_in w ws earlier room base inner variables fs fs' memory (trees.WithLocal s stobj held other) (cores.WithLocal stobj names producer body) state hs
      (λ room. stands_if r origins code h sees _ (nat_lt state.calls r.limit) _ _ _ _
      (local_alike r origins code h sees w ws earlier room base s inner env variables fs fs' memory stobj (r.fresh stobj) held other names producer body (one_more_call state) l scope e_held (record { is = e_other }) hs)
      (stops_plain r origins code h sees w ws w earlier room base inner variables fs fs' memory Steps (here state) state hs)))
  begins_alike w ws earlier room base s inner env variables fs fs' memory tree (cores.MustBeEqual logic exec) state l scope e fit hs =
      mapped_given trees.MustBeEqual (resolved w env s logic) tree e
      (λ t. TurnStands r.world (after_begin {S = S} None room (record { frames = ws; control = w })) (begin r code room base fs memory t state) (forms.open_in r room variables fs' (cores.MustBeEqual logic exec) state))
      (λ part e_part.
      opened_in w ws earlier room base inner variables fs fs' memory (trees.MustBeEqual part) (cores.MustBeEqual logic exec) state hs
      (λ room. last_alike r origins code h sees w ws earlier room base s inner env variables variables fs fs' memory part logic state l scope e_part hs))
  begins_alike w ws earlier room base s inner env variables fs fs' memory tree (cores.Call f actuals) state l scope e fit hs =
      both_given (trees.Call s) (number_in w f) (all_resolved w env s actuals) tree e
      (λ t. TurnStands r.world (after_begin {S = S} None room (record { frames = ws; control = w })) (begin r code room base fs memory t state) (forms.open_in r room variables fs' (cores.Call f actuals) state))
      (λ n ts e_number e_parts.
      opened_in w ws earlier room base inner variables fs fs' memory (trees.Call s n ts) (cores.Call f actuals) state hs
      (λ room. parts_begin w ws earlier room base s inner env variables fs fs' memory ts (windows.ThenCall n) (machine.ThenCall f) actuals state l scope e_parts (Calls f n (earlier.number f n e_number)) (fit_call w f actuals) hs))
