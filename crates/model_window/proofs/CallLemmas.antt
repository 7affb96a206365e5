-- Stops and calls of machines that stand for one another.
use Rattle.std.specs.Prelude.{◌∷◌, ◌≡◌, ℕ, ◌+◌, ◌≤◌, List, length, Bool, true, false, Option, Some, None, nat_lt, slice_get, refl, if◌then◌else◌}
use Rattle.std.proofs.Common.{sym, ap, ◌∙◌, arith, subst}
use Rattle.model_terms.specs.Worlds.{World, Definition, FunctionOfAbstract, definition, Primitive, Defined, Macro, Constant, Concrete, Generated, Abstract, OfAbstract, Named, Signed}
use Rattle.model_terms.specs.declared.role.AbstractRole.{AbstractRole}
use Rattle.model_terms.specs.declared.role.AbstractRole.TheVariants as abstract_role
use Rattle.model_eval.specs.Outcomes.{Shown, Stop, Steps, Guard, Origin, StateOf, OutcomeOf, Gives, Stops, Unknown, here, cut_before, one_more_call}
use Rattle.model_eval.specs.Keeping.{Keeping, beginning}
use Rattle.model_eval.specs.Variables.{Variables, inner_variables}
use Rattle.model_eval.specs.Evaluated.{RulesOf}
use Rattle.model_machine.specs.Frames as machine
use Rattle.model_machine.specs.Frames.{Begun}
use Rattle.model_machine.specs.Turns as forms
use Rattle.model_slots.specs.Environments.{formal_environment}
use Rattle.model_slots.specs.Resolved.{number_in}
use Rattle.model_slots.specs.Laws.{as_formals}
use Rattle.model_slots.proofs.SlotLemmas.{binds_as_evaluation, are_bound}
use Rattle.model_slots.proofs.WorldLemmas.{keeps_numbers}
use Rattle.model_window.specs.Windows.{Memory, window, all_written, stobj_names, actuals_at}
use Rattle.model_window.specs.Frames.{Code}
use Rattle.model_window.specs.Frames as windows
use Rattle.model_window.specs.Turns.{called_name, stop_from, done, counted, call_of_abstract, call_by_definition, call, call_exec_by, call_exec}
use Rattle.model_window.specs.Stands.{Origins, IsEarlier, HoldsTrees, SeesNil, Worlds, InScope, AreActuals, AreFormals, export_at, ExportStands, NoExport, ExportRuns, FramesStand, Inside, ControlStands, TurnStands}
use Rattle.model_window.specs.Stands as stands
use Rattle.model_window.specs.Following.{worlds_of}
use Rattle.model_window.specs.Fitting.{FitFormals}
use Rattle.model_window.proofs.MemoryLemmas.{agrees_all, agrees_lower, holds_first, actuals_held}
use Rattle.model_window.proofs.KeptLemmas.{frames_kept}
use Rattle.model_window.proofs.TreeLemmas.{name_of_number}

-- the export has these actuals
pub data ExportHas {S B : Type 0} (values : List (Shown S)) : Option (windows.Export B) → Option (machine.Export S B) → Type 0 where
  NoneHas : ExportHas values None None
  SomeHas : (x : windows.Export B) (y : machine.Export S B) → x.count ≡ length values → x.names ≡ stobj_names values
      → y ≡ record { name = x.name; actuals = values; begun = x.begun; outer = x.outer } → ExportHas values (Some x) (Some y)

module _ {S O B : Type 0} {keeping : Keeping S O B} (r : RulesOf keeping) (origins : Origins) (code : Code) (h : HoldsTrees r.world origins code) (sees : SeesNil r) where
  pub goes : (ws : List World) (z : World) (room inner : ℕ) (frames : List (windows.Frame S B)) (frames' : List (machine.Frame S B)) (memory : Memory S) (control : windows.Control S) (control' : machine.Control S) (state : StateOf O)
      → FramesStand r.world memory ws inner frames frames' → ControlStands r.world z memory inner control control'
      → TurnStands r.world (record { frames = ws; control = z }) (windows.Going (record { room = room; frames = frames; memory = memory; control = control; state = state })) (machine.Going (record { room = room; frames = frames'; control = control'; state = state }))
  unfolding TurnStands
  goes ws z room inner frames frames' memory control control' state f c = record { room = refl; state = refl; inner = inner; frames = f; control = c }

  pub ends : (worlds : Worlds) (outcome : OutcomeOf S O) → TurnStands {B = B} r.world worlds (windows.Over outcome) (machine.Over outcome)
  unfolding TurnStands
  ends worlds outcome = refl

  pub stands_if : (worlds : Worlds) (b : Bool) (t u : windows.Turned S O B) (t' u' : machine.Turned S O B) → TurnStands r.world worlds t t' → TurnStands r.world worlds u u' → TurnStands r.world worlds (if b then t else u) (if b then t' else u')
  stands_if worlds true t u t' u' e f = e
  stands_if worlds false t u t' u' e f = f

  -- ---- stops

  pub stops_from : (w : World) (ws : List World) (z : World) (earlier : IsEarlier w r.world) (export : Option (windows.Export B)) (export' : Option (machine.Export S B)) (room base outer inner : ℕ) (variables : Variables S) (fs : List (windows.Frame S B)) (fs' : List (machine.Frame S B)) (memory : Memory S) (stop : Stop S) (origin : Origin) (state : StateOf O)
      → outer ≤ inner → ExportStands memory base inner export export' → FramesStand r.world memory ws outer fs fs'
      → TurnStands r.world (worlds_of w ws z) (stop_from r code export room base fs memory stop origin state) (forms.stop_from r export' room variables fs' stop origin state)
  stops_from w ws z earlier export export' room base outer inner variables fs fs' memory stop origin state l x f =
      goes (w ∷ ws) z room inner _ _ memory _ _ state (Inside w ws base outer inner variables (windows.Last export) (machine.Last export') fs fs' earlier (stands.Last export export' l x) f) (stands.Stops stop origin)

  pub stops_plain : (w : World) (ws : List World) (z : World) (earlier : IsEarlier w r.world) (room base outer : ℕ) (variables : Variables S) (fs : List (windows.Frame S B)) (fs' : List (machine.Frame S B)) (memory : Memory S) (stop : Stop S) (origin : Origin) (state : StateOf O) → FramesStand r.world memory ws outer fs fs'
      → TurnStands r.world (worlds_of w ws z) (stop_from r code None room base fs memory stop origin state) (forms.stop_from r None room variables fs' stop origin state)
  stops_plain w ws z earlier room base outer variables fs fs' memory stop origin state f = stops_from w ws z earlier None None room base outer outer variables fs fs' memory stop origin state (omega arith) NoExport f

  done_alike : (w : World) (ws : List World) (z : World) (earlier : IsEarlier w r.world) (export : Option (windows.Export B)) (export' : Option (machine.Export S B)) (room base outer inner : ℕ) (variables : Variables S) (fs : List (windows.Frame S B)) (fs' : List (machine.Frame S B)) (memory : Memory S) (outcome : OutcomeOf S O)
      → outer ≤ inner → ExportStands memory base inner export export' → FramesStand r.world memory ws outer fs fs'
      → TurnStands r.world (worlds_of w ws z) (done r code export room base fs memory outcome) (forms.done r export' room variables fs' outcome)
  done_alike w ws z earlier export export' room base outer inner variables fs fs' memory (Gives values state) l x f =
      goes (w ∷ ws) z room inner _ _ memory _ _ state (Inside w ws base outer inner variables (windows.Last export) (machine.Last export') fs fs' earlier (stands.Last export export' l x) f) (stands.Gives values)
  done_alike w ws z earlier export export' room base outer inner variables fs fs' memory (Stops stop origin state) l x f = stops_from w ws z earlier export export' room base outer inner variables fs fs' memory stop origin state l x f
  done_alike w ws z earlier export export' room base outer inner variables fs fs' memory Unknown l x f = ends _ Unknown

  -- ---- a guard begins

  entered_scope : (base : ℕ) (memory : Memory S) (formals : List ℕ) (values : List (Shown S)) → length formals ≡ length values
      → InScope (all_written base (as_formals formals values) memory) base (length formals) (formal_environment formals) (inner_variables formals values)
  entered_scope base memory formals values e = record {
    below = are_bound.formals formals;
    are = binds_as_evaluation.formals (window (all_written base (as_formals formals values) memory) base) formals values e (holds_first base (as_formals formals values) memory);
  }

  entered_actuals : (base : ℕ) (memory : Memory S) (formals : List ℕ) (values : List (Shown S)) → length formals ≡ length values
      → AreActuals (all_written base (as_formals formals values) memory) base (base + length formals) (length formals) (stobj_names values) values
  entered_actuals base memory formals values e = record {
    below = omega arith;
    as_many = sym e;
    named = refl;
    are = actuals_held (all_written base (as_formals formals values) memory) base formals values e (holds_first base (as_formals formals values) memory);
  }

  entered_export : (base : ℕ) (memory : Memory S) (formals : List ℕ) (values : List (Shown S)) (x : Option (windows.Export B)) (y : Option (machine.Export S B)) → length formals ≡ length values → ExportHas values x y
      → ExportStands (all_written base (as_formals formals values) memory) base (base + length formals) x y
  entered_export base memory formals values x y e NoneHas = NoExport
  entered_export base memory formals values x y e (SomeHas u v many named is) =
      let a : values ≡ actuals_at (all_written base (as_formals formals values) memory) base (length formals) (stobj_names values) = (entered_actuals base memory formals values e).are in
      let c : length formals ≡ u.count = e ∙ sym many in
      let b : values ≡ actuals_at (all_written base (as_formals formals values) memory) base u.count u.names =
      a ∙ (ap (λ n. actuals_at (all_written base (as_formals formals values) memory) base n (stobj_names values)) c ∙ ap (actuals_at (all_written base (as_formals formals values) memory) base u.count) (sym named)) in
      ExportRuns u v (omega arith) (is ∙ ap (λ actuals. record { name = u.name; actuals = actuals; begun = u.begun; outer = u.outer }) b)

  -- ---- calls

  abstract_alike : (x : ℕ) (ws : List World) (room base outer : ℕ) (variables : Variables S) (fs : List (windows.Frame S B)) (fs' : List (machine.Frame S B)) (memory : Memory S) (n : ℕ) (f : FunctionOfAbstract) (role : AbstractRole) (values : List (Shown S)) (state : StateOf O)
      → number_in r.world x ≡ Some n → slice_get r.world n ≡ Some (OfAbstract f) → f.role ≡ role → length f.formals ≡ length values → outer ≤ base → FramesStand r.world memory ws outer fs fs'
      → TurnStands r.world (worlds_of (origins.body x) ws (origins.guard x)) (call_of_abstract r code room base fs memory n f role values state) (forms.call_of_abstract r room variables fs' f role values state)
  abstract_alike x ws room base outer variables fs fs' memory n f abstract_role.Recognizer values state e_number e is many l hs =
      goes ((origins.body x) ∷ ws) (origins.guard x) room outer _ _ memory _ _ state (Inside (origins.body x) ws base outer outer variables (windows.Last None) (machine.Last None) fs fs' (h.bodies x) (stands.Last None None (omega arith) NoExport) hs) (stands.Gives _)
  abstract_alike x ws room base outer variables fs fs' memory n f abstract_role.Creator values state e_number e is many l hs = stops_plain (origins.body x) ws (origins.guard x) (h.bodies x) room base outer variables fs fs' memory (Guard f.name values) (here state) state hs
  abstract_alike x ws room base outer variables fs fs' memory n f abstract_role.Export values state e_number e is many l hs =
      goes ((origins.body x) ∷ ws) (origins.guard x) room (base + length f.formals) _ _ _ _ _ _
      (Inside (origins.body x) ws base outer (base + length f.formals) variables _ _ fs fs' (h.bodies x) (stands.Allowing f (stobj_names values) _ _ values l (entered_actuals base memory f.formals values many))
      (frames_kept r.world memory _ ws outer fs fs' (agrees_lower memory _ outer base l (agrees_all base (as_formals f.formals values) memory)) hs))
      (stands.Begins (formal_environment f.formals) (length f.formals) base (code.guard n) f.guard (inner_variables f.formals values) (omega arith) (entered_scope base memory f.formals values many) (h.guards x) (h.export x n f e_number e is))

  definition_alike : (ws : List World) (export : Option (windows.Export B)) (export' : Option (machine.Export S B)) (go : FunctionOfAbstract → StateOf O → windows.Turned S O B) (go' : FunctionOfAbstract → StateOf O → machine.Turned S O B)
      (room base outer inner : ℕ) (variables : Variables S) (fs : List (windows.Frame S B)) (fs' : List (machine.Frame S B)) (memory : Memory S) (n : ℕ) (d : Option Definition) (name : ℕ) (values : List (Shown S)) (state : StateOf O)
      → number_in r.world name ≡ Some n → slice_get r.world n ≡ d → FitFormals d values → outer ≤ base → outer ≤ inner → ExportStands memory base inner export export' → ExportHas values export export' → FramesStand r.world memory ws outer fs fs'
      → ((f : FunctionOfAbstract) (after : StateOf O) → d ≡ Some (OfAbstract f) → TurnStands r.world (worlds_of (origins.body name) ws (origins.guard name)) (go f after) (go' f after))
      → TurnStands r.world (worlds_of (origins.body name) ws (origins.guard name)) (call_by_definition r code export go room base fs memory n d name values state) (forms.call_by_definition r export' go' room variables fs' d name values state)
  definition_alike ws export export' go go' room base outer inner variables fs fs' memory n None name values state e_number e fit l i x has hs g = stops_from (origins.body name) ws (origins.guard name) (h.bodies name) export export' room base outer inner variables fs fs' memory _ _ state i x hs
  definition_alike ws export export' go go' room base outer inner variables fs fs' memory n (Some (Primitive f row)) name values state e_number e fit l i x has hs g = done_alike (origins.body name) ws (origins.guard name) (h.bodies name) export export' room base outer inner variables fs fs' memory _ i x hs
  definition_alike ws export export' go go' room base outer inner variables fs fs' memory n (Some (Defined f)) name values state e_number e fit l i x has hs g =
      goes ((origins.body name) ∷ ws) (origins.guard name) room (base + length f.formals) _ _ _ _ _ _
      (Inside (origins.body name) ws base outer (base + length f.formals) variables _ _ fs fs' (h.bodies name) (stands.Guarding export export' f.name f.formals (stobj_names values) (code.body n) _ values f.body l (entered_export base memory f.formals values export export' fit.0 has) (entered_actuals base memory f.formals values fit.0)
      (record { as_many = fit.0; lie = holds_first base (as_formals f.formals values) memory }) (h.body name n f e_number e fit.1))
      (frames_kept r.world memory _ ws outer fs fs' (agrees_lower memory _ outer base l (agrees_all base (as_formals f.formals values) memory)) hs))
      (stands.Begins (formal_environment f.formals) (length f.formals) base (code.guard n) f.guard (inner_variables f.formals values) (omega arith) (entered_scope base memory f.formals values fit.0) (h.guards name) (h.guard name n f e_number e fit.1))
  definition_alike ws export export' go go' room base outer inner variables fs fs' memory n (Some (Macro f formals body)) name values state e_number e fit l i x has hs g = stops_from (origins.body name) ws (origins.guard name) (h.bodies name) export export' room base outer inner variables fs fs' memory _ _ state i x hs
  definition_alike ws export export' go go' room base outer inner variables fs fs' memory n (Some (Constant f value)) name values state e_number e fit l i x has hs g = stops_from (origins.body name) ws (origins.guard name) (h.bodies name) export export' room base outer inner variables fs fs' memory _ _ state i x hs
  definition_alike ws export export' go go' room base outer inner variables fs fs' memory n (Some (Concrete d class)) name values state e_number e fit l i x has hs g = stops_from (origins.body name) ws (origins.guard name) (h.bodies name) export export' room base outer inner variables fs fs' memory _ _ state i x hs
  definition_alike ws export export' go go' room base outer inner variables fs fs' memory n (Some (Generated d)) name values state e_number e fit l i x has hs g = done_alike (origins.body name) ws (origins.guard name) (h.bodies name) export export' room base outer inner variables fs fs' memory _ i x hs
  definition_alike ws export export' go go' room base outer inner variables fs fs' memory n (Some (Abstract d)) name values state e_number e fit l i x has hs g = stops_from (origins.body name) ws (origins.guard name) (h.bodies name) export export' room base outer inner variables fs fs' memory _ _ state i x hs
  definition_alike ws export export' go go' room base outer inner variables fs fs' memory n (Some (OfAbstract f)) name values state e_number e fit l i x has hs g = g f state refl
  definition_alike ws export export' go go' room base outer inner variables fs fs' memory n (Some (Named f formals)) name values state e_number e fit l i x has hs g = stops_from (origins.body name) ws (origins.guard name) (h.bodies name) export export' room base outer inner variables fs fs' memory _ _ state i x hs
  definition_alike ws export export' go go' room base outer inner variables fs fs' memory n (Some (Signed f formals signature executable)) name values state e_number e fit l i x has hs g = stops_from (origins.body name) ws (origins.guard name) (h.bodies name) export export' room base outer inner variables fs fs' memory _ _ state i x hs

  abstract_fits : (d : Option Definition) (f : FunctionOfAbstract) (values : List (Shown S)) → d ≡ Some (OfAbstract f) → FitFormals d values → length f.formals ≡ length values
  abstract_fits d f values e fit = subst (λ o. FitFormals o values) e fit

  -- a call, whose actuals lie from `base` on
  pub called_alike : (ws : List World) (room base outer : ℕ) (variables : Variables S) (fs : List (windows.Frame S B)) (fs' : List (machine.Frame S B)) (memory : Memory S) (f n : ℕ) (values : List (Shown S)) (state : StateOf O)
      → number_in r.world f ≡ Some n → FitFormals (definition r.world f) values → outer ≤ base → FramesStand r.world memory ws outer fs fs'
      → TurnStands r.world (worlds_of (origins.body f) ws (origins.guard f)) (call r code room base fs memory n values state) (forms.call r room variables fs' f values state)
  called_alike ws room base outer variables fs fs' memory f n values state e fit l hs =
      let d : definition r.world f ≡ slice_get r.world n = keeps_numbers.finds r.world f n e in
      let fits : FitFormals (slice_get r.world n) values = subst (λ o. FitFormals o values) d fit in
      let after : StateOf O = one_more_call state in
      stands_if _ (nat_lt state.calls r.limit) _ _ _ _
      (subst
      (λ o. TurnStands r.world (worlds_of (origins.body f) ws (origins.guard f))
      (call_by_definition r code None (λ g later. call_of_abstract r code room base fs memory n g g.role values later) room base fs memory n (slice_get r.world n) (called_name r.world n) values after)
      (forms.call_by_definition r None (λ g later. forms.call_of_abstract r room variables fs' g g.role values later) room variables fs' o f values after))
      (sym d)
      (subst
      (λ name. TurnStands r.world (worlds_of (origins.body f) ws (origins.guard f))
      (call_by_definition r code None (λ g later. call_of_abstract r code room base fs memory n g g.role values later) room base fs memory n (slice_get r.world n) name values after)
      (forms.call_by_definition r None (λ g later. forms.call_of_abstract r room variables fs' g g.role values later) room variables fs' (slice_get r.world n) f values after))
      (sym (name_of_number r.world f n e))
      (definition_alike ws None None _ _ room base outer outer variables fs fs' memory n (slice_get r.world n) f values after e refl fits l (omega arith) NoExport NoneHas hs
      (λ g later k. abstract_alike f ws room base outer variables fs fs' memory n g g.role values later e k refl (abstract_fits (slice_get r.world n) g values k fits) l hs))))
      (stops_plain (origins.body f) ws (origins.guard f) (h.bodies f) room base outer variables fs fs' memory Steps (here state) state hs)

  -- an exec function's call, with the export's actuals
  exec_alike : (ws : List World) (number : Option ℕ) (export : Option (windows.Export B)) (export' : Option (machine.Export S B)) (room base outer inner : ℕ) (variables : Variables S) (fs : List (windows.Frame S B)) (fs' : List (machine.Frame S B)) (memory : Memory S) (f : FunctionOfAbstract) (values : List (Shown S)) (state : StateOf O)
      → number_in r.world f.exec ≡ number → FitFormals (definition r.world f.exec) values → outer ≤ base → outer ≤ inner → ExportStands memory base inner export export' → ExportHas values export export' → FramesStand r.world memory ws outer fs fs'
      → TurnStands r.world (worlds_of (origins.body f.exec) ws (origins.guard f.exec)) (call_exec_by r code number export room base fs memory f values state)
      (forms.call_by_definition r export' (λ g later. forms.refuse r export' room variables fs' f.exec values later) room variables fs' (definition r.world f.exec) f.exec values state)
  exec_alike ws None export export' room base outer inner variables fs fs' memory f values state e fit l i x has hs =
      subst
      (λ o. TurnStands r.world (worlds_of (origins.body f.exec) ws (origins.guard f.exec)) (call_exec_by r code None export room base fs memory f values state)
      (forms.call_by_definition r export' (λ g later. forms.refuse r export' room variables fs' f.exec values later) room variables fs' o f.exec values state))
      (sym (keeps_numbers.nowhere r.world f.exec e))
      (stops_from (origins.body f.exec) ws (origins.guard f.exec) (h.bodies f.exec) export export' room base outer inner variables fs fs' memory (Guard f.exec values) (here state) state i x hs)
  exec_alike ws (Some n) export export' room base outer inner variables fs fs' memory f values state e fit l i x has hs =
      let d : definition r.world f.exec ≡ slice_get r.world n = keeps_numbers.finds r.world f.exec n e in
      subst
      (λ o. TurnStands r.world (worlds_of (origins.body f.exec) ws (origins.guard f.exec)) (call_exec_by r code (Some n) export room base fs memory f values state)
      (forms.call_by_definition r export' (λ g later. forms.refuse r export' room variables fs' f.exec values later) room variables fs' o f.exec values state))
      (sym d)
      (definition_alike ws export export' _ _ room base outer inner variables fs fs' memory n (slice_get r.world n) f.exec values state e refl (subst (λ o. FitFormals o values) d fit) l i x has hs
      (λ g later k. stops_from (origins.body f.exec) ws (origins.guard f.exec) (h.bodies f.exec) export export' room base outer inner variables fs fs' memory (Guard f.exec values) (here later) later i x hs))

  pub exported_alike : (ws : List World) (room base outer inner : ℕ) (variables : Variables S) (fs : List (windows.Frame S B)) (fs' : List (machine.Frame S B)) (memory : Memory S) (f : FunctionOfAbstract) (names : List ℕ) (begun : Begun B) (values : List (Shown S)) (state : StateOf O)
      → FitFormals (definition r.world f.exec) values → outer ≤ base → AreActuals memory base inner (length f.formals) names values → FramesStand r.world memory ws outer fs fs'
      → TurnStands r.world (worlds_of (origins.body f.exec) ws (origins.guard f.exec)) (call_exec r code room base fs memory f names begun state) (forms.call_exec r room variables fs' f values begun state)
  exported_alike ws room base outer inner variables fs fs' memory f names begun values state fit l are hs =
      let x : windows.Export B = record { name = f.name; count = length f.formals; names = names; begun = begun; outer = state.outer } in
      let y : machine.Export S B = record { name = f.name; actuals = values; begun = begun; outer = state.outer } in
      subst
      (λ vs. TurnStands r.world (worlds_of (origins.body f.exec) ws (origins.guard f.exec))
      (counted r code state
      (λ after. call_exec_by r code (number_in r.world f.exec) (Some x) room base fs memory f vs (beginning keeping after))
      (stop_from r code None room base fs memory Steps (cut_before begun.number (here state)) state))
      (forms.call_exec r room variables fs' f values begun state))
      are.are
      (stands_if _ (nat_lt state.calls r.limit) _ _ _ _
      (exec_alike ws (number_in r.world f.exec) (Some x) (Some y) room base outer inner variables fs fs' memory f values (beginning keeping (one_more_call state)) refl fit l (omega (arith, are.below))
      (ExportRuns x y are.below (ap (λ vs. record { name = f.name; actuals = vs; begun = begun; outer = state.outer }) are.are))
      (SomeHas x y (sym are.as_many) are.named refl) hs)
      (stops_plain (origins.body f.exec) ws (origins.guard f.exec) (h.bodies f.exec) room base outer variables fs fs' memory Steps (cut_before begun.number (here state)) state hs))
