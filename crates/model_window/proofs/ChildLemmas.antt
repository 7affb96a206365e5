-- Children and local stobjs of machines that stand for one another.
use Rattle.std.specs.Prelude.{◌≡◌, ℕ, ◌+◌, ◌≤◌, List, [], ◌∷◌, ◌++◌, length, Option, Some, None, nat_lt, nat_eq, refl}
use Rattle.std.specs.List.{list_any}
use Rattle.std.proofs.Common.{sym, ap, ◌∙◌, arith, subst}
use Rattle.model_lists.specs.Lists.{StobjList}
use Rattle.model_terms.specs.Cores as cores
use Rattle.model_terms.specs.Cores.{Core, Cores, Reached, reached}
use Rattle.model_terms.specs.Worlds.{World}
use Rattle.model_eval.specs.Outcomes.{Shown, Plain, StobjNamed, Steps, Depth, StateOf, Unknown, here}
use Rattle.model_eval.specs.Keeping.{Loan, Keeping, ending_loans}
use Rattle.model_eval.specs.Variables.{Variables, bound}
use Rattle.model_eval.specs.Evaluated.{RulesOf}
use Rattle.model_machine.specs.Frames as machine
use Rattle.model_machine.specs.Turns as forms
use Rattle.model_slots.specs.Trees.{Tree, Child, Operand}
use Rattle.model_slots.specs.Environments.{Environment, all_bound}
use Rattle.model_slots.specs.Resolved.{number_in, variable_at, index_in, child_of, child_in, children_in, resolved}
use Rattle.model_slots.specs.Laws.{Holds, AreAsNamed}
use Rattle.model_slots.proofs.SlotLemmas.{binds_as_evaluation, are_bound}
use Rattle.model_window.specs.Windows.{Memory, window, written}
use Rattle.model_window.specs.Frames.{Code, Borrowed}
use Rattle.model_window.specs.Frames as windows
use Rattle.model_window.specs.Turns.{called_name, last_form, operand_value, loan_at, reach, borrow, next_child, put_next, make_local}
use Rattle.model_window.specs.Stands.{Origins, IsEarlier, HoldsTrees, SeesNil, InScope, marked, children_of, BodyStands, FramesStand, Inside, TurnStands}
use Rattle.model_window.specs.Stands as stands
use Rattle.model_window.specs.Following.{worlds_of}
use Rattle.model_window.specs.Fitting.{FitChildren}
use Rattle.model_window.proofs.MemoryLemmas.{Agrees, agrees_written, agrees_lower, written_at}
use Rattle.model_window.proofs.KeptLemmas.{scope_kept, frames_kept}
use Rattle.model_window.proofs.TreeLemmas.{some_given, mapped_given, both_given, name_of_number, marked_length, marked_more, children_more, children_all}
use Rattle.model_window.proofs.CallLemmas.{goes, ends, stands_if, stops_plain}
use Rattle.model_window.proofs.PartLemmas.{variable_alike, loan_alike, reached_alike, lent_alike, body_alike}

module _ {S O B : Type 0} {keeping : Keeping S O B} (r : RulesOf keeping) (origins : Origins) (code : Code) (h : HoldsTrees r.world origins code) (sees : SeesNil r) where
  -- ---- children

  borrowed_alike : (w : World) (ws : List World) (earlier : IsEarlier w r.world) (room base s outer inner n : ℕ) (i : Operand) (env : Environment) (variables : Variables S) (fs : List (windows.Frame S B)) (fs' : List (machine.Frame S B)) (memory : Memory S) (cs : List Child) (held other : Tree) (x : ℕ) (xs : List ℕ)
      (by : Reached) (index : Option Operand) (parts : Cores) (loans : List (Loan S)) (vars : List ℕ) (producer consumer : Core) (v : Shown S) (state : StateOf O)
      → outer ≤ base + s → base + s ≤ inner → InScope memory base s env variables → number_in r.world by.accessor ≡ Some n → index_in env by.index ≡ index → children_in w env vars xs parts ≡ Some cs
      → resolved w (all_bound s (children_of loans ++ x ∷ xs) env) (s + length (children_of loans ++ x ∷ xs)) producer ≡ Some held → BodyStands w env s vars consumer other → FramesStand r.world memory ws outer fs fs'
      → TurnStands r.world (worlds_of w ws w)
      (borrow r code room base fs memory (λ loan. windows.Borrowing s cs (marked vars loans ++ record { loan = loan; returns = list_any (nat_eq x) vars } ∷ []) held other) (child_of x (list_any (nat_eq x) vars) index i n) v state)
      (forms.reach_from r room variables fs' (λ loan. machine.Borrowing xs parts (loans ++ loan ∷ []) vars producer consumer) x by v state)
  borrowed_alike w ws earlier room base s outer inner n i env variables fs fs' memory cs held other x xs by index parts loans vars producer consumer (Plain o) state l u scope e_number e_index e_rest e b hs =
      stops_plain r origins code h sees w ws w earlier room base outer variables fs fs' memory Depth (here state) state hs
  borrowed_alike w ws earlier room base s outer inner n i env variables fs fs' memory cs held other x xs by index parts loans vars producer consumer (StobjNamed p) state l u scope e_number e_index e_rest e b hs =
      let c : Child = child_of x (list_any (nat_eq x) vars) index i n in
      let loan : Loan S = loan_at r code memory base p c in
      let next_borrowed : List (Borrowed S) = marked vars loans ++ record { loan = loan; returns = list_any (nat_eq x) vars } ∷ [] in
      subst
      (λ k. TurnStands r.world (worlds_of w ws w) (reach r code room base fs memory (windows.Borrowing s cs next_borrowed held other) (called_name r.world n) loan state)
      (forms.reach r room variables fs' (machine.Borrowing xs parts (loans ++ k ∷ []) vars producer consumer) by.accessor k state))
      (sym (loan_alike r origins code h sees memory base s n p x env variables by c scope e_number e_index refl))
      (reached_alike r origins code h sees w ws earlier room base outer inner variables fs fs' memory (windows.Borrowing s cs next_borrowed held other) (machine.Borrowing xs parts (loans ++ loan ∷ []) vars producer consumer) (called_name r.world n) by.accessor loan state
      (name_of_number r.world by.accessor n e_number)
      (stands.Borrowing env s cs next_borrowed held other xs parts (loans ++ loan ∷ []) vars producer consumer l u scope e_rest (marked_more vars loans loan)
      (subst (λ ys. resolved w (all_bound s ys env) (s + length ys) producer ≡ Some held) (children_more loans loan xs) e) b)
      hs)

  child_alike : (w : World) (ws : List World) (earlier : IsEarlier w r.world) (room base s outer inner : ℕ) (env : Environment) (variables : Variables S) (fs : List (windows.Frame S B)) (fs' : List (machine.Frame S B)) (memory : Memory S) (c : Child) (cs : List Child) (held other : Tree) (x : ℕ) (xs : List ℕ)
      (by : Option Reached) (parts : Cores) (loans : List (Loan S)) (vars : List ℕ) (producer consumer : Core) (state : StateOf O)
      → outer ≤ base + s → base + s ≤ inner → InScope memory base s env variables → child_in w env vars x by ≡ Some c → children_in w env vars xs parts ≡ Some cs
      → resolved w (all_bound s (children_of loans ++ x ∷ xs) env) (s + length (children_of loans ++ x ∷ xs)) producer ≡ Some held → BodyStands w env s vars consumer other → FramesStand r.world memory ws outer fs fs'
      → TurnStands r.world (worlds_of w ws w)
      (borrow r code room base fs memory (λ loan. windows.Borrowing s cs (marked vars loans ++ record { loan = loan; returns = c.returns } ∷ []) held other) c (operand_value r code memory base c.parent) state)
      (forms.borrow r room variables fs' (λ loan. machine.Borrowing xs parts (loans ++ loan ∷ []) vars producer consumer) x by state)
  child_alike w ws earlier room base s outer inner env variables fs fs' memory c cs held other x xs None parts loans vars producer consumer state l u scope e_child e_rest e b hs = absurd cc
  child_alike w ws earlier room base s outer inner env variables fs fs' memory c cs held other x xs (Some by) parts loans vars producer consumer state l u scope e_child e_rest e b hs =
      mapped_given (child_of x (list_any (nat_eq x) vars) (index_in env by.index) (variable_at env by.parent)) (number_in w by.accessor) c e_child
      (λ d. TurnStands r.world (worlds_of w ws w)
      (borrow r code room base fs memory (λ loan. windows.Borrowing s cs (marked vars loans ++ record { loan = loan; returns = d.returns } ∷ []) held other) d (operand_value r code memory base d.parent) state)
      (forms.borrow r room variables fs' (λ loan. machine.Borrowing xs parts (loans ++ loan ∷ []) vars producer consumer) x (Some by) state))
      (λ n e_number.
      subst
      (λ v. TurnStands r.world (worlds_of w ws w)
      (borrow r code room base fs memory (λ loan. windows.Borrowing s cs (marked vars loans ++ record { loan = loan; returns = list_any (nat_eq x) vars } ∷ []) held other) (child_of x (list_any (nat_eq x) vars) (index_in env by.index) (variable_at env by.parent) n) (operand_value r code memory base (variable_at env by.parent)) state)
      (forms.reach_from r room variables fs' (λ loan. machine.Borrowing xs parts (loans ++ loan ∷ []) vars producer consumer) x by v state))
      (sym (variable_alike r origins code h sees memory base s by.parent env variables scope))
      (borrowed_alike w ws earlier room base s outer inner n (variable_at env by.parent) env variables fs fs' memory cs held other x xs by (index_in env by.index) parts loans vars producer consumer (operand_value r code memory base (variable_at env by.parent)) state l u scope (earlier.number by.accessor n e_number) refl e_rest e b hs))

  all_lent_alike : (w : World) (ws : List World) (earlier : IsEarlier w r.world) (room base s outer : ℕ) (env : Environment) (variables : Variables S) (fs : List (windows.Frame S B)) (fs' : List (machine.Frame S B)) (memory : Memory S) (children : List Child) (held other : Tree) (names : List ℕ)
      (loans : List (Loan S)) (vars : List ℕ) (producer consumer : Core) (state : StateOf O)
      → outer ≤ base + s → InScope memory base s env variables → Some [] ≡ Some children → names ≡ []
      → resolved w (all_bound s (children_of loans ++ names) env) (s + length (children_of loans ++ names)) producer ≡ Some held → BodyStands w env s vars consumer other → FramesStand r.world memory ws outer fs fs'
      → TurnStands r.world (worlds_of w ws w) (next_child r code room base fs memory s children (marked vars loans) held other state) (forms.lend_all r room variables fs' loans vars producer consumer state)
  all_lent_alike w ws earlier room base s outer env variables fs fs' memory children held other names loans vars producer consumer state l scope e_children fit e b hs =
      some_given [] children e_children
      (λ cs. TurnStands r.world (worlds_of w ws w) (next_child r code room base fs memory s cs (marked vars loans) held other state) (forms.lend_all r room variables fs' loans vars producer consumer state))
      (lent_alike r origins code h sees w ws earlier room base s outer env variables fs fs' memory held other loans vars producer consumer state l scope
      (subst (λ ys. resolved w (all_bound s ys env) (s + length ys) producer ≡ Some held) (ap (λ ns. children_of loans ++ ns) fit ∙ children_all loans) e) b hs)

  pub children_alike : (w : World) (ws : List World) (earlier : IsEarlier w r.world) (room base s outer inner : ℕ) (env : Environment) (variables : Variables S) (fs : List (windows.Frame S B)) (fs' : List (machine.Frame S B)) (memory : Memory S) (children : List Child) (held other : Tree) (names : List ℕ)
      (parts : Cores) (loans : List (Loan S)) (vars : List ℕ) (producer consumer : Core) (state : StateOf O)
      → outer ≤ base + s → base + s ≤ inner → InScope memory base s env variables → children_in w env vars names parts ≡ Some children → FitChildren r w parts names
      → resolved w (all_bound s (children_of loans ++ names) env) (s + length (children_of loans ++ names)) producer ≡ Some held → BodyStands w env s vars consumer other → FramesStand r.world memory ws outer fs fs'
      → TurnStands r.world (worlds_of w ws w) (next_child r code room base fs memory s children (marked vars loans) held other state) (forms.next_child r room variables fs' names parts loans vars producer consumer state)
  children_alike w ws earlier room base s outer inner env variables fs fs' memory children held other names cores.none loans vars producer consumer state l u scope e_children fit e b hs =
      all_lent_alike w ws earlier room base s outer env variables fs fs' memory children held other names loans vars producer consumer state l scope e_children fit e b hs
  children_alike w ws earlier room base s outer inner env variables fs fs' memory children held other [] (cores.more part parts) loans vars producer consumer state l u scope e_children fit e b hs =
      all_lent_alike w ws earlier room base s outer env variables fs fs' memory children held other [] loans vars producer consumer state l scope e_children refl e b hs
  children_alike w ws earlier room base s outer inner env variables fs fs' memory children held other (x ∷ xs) (cores.more part parts) loans vars producer consumer state l u scope e_children fit e b hs =
      both_given (λ c cs. c ∷ cs) (child_in w env vars x (reached part)) (children_in w env vars xs parts) children e_children
      (λ cs. TurnStands r.world (worlds_of w ws w) (next_child r code room base fs memory s cs (marked vars loans) held other state) (forms.next_child r room variables fs' (x ∷ xs) (cores.more part parts) loans vars producer consumer state))
      (λ c cs e_child e_rest. child_alike w ws earlier room base s outer inner env variables fs fs' memory c cs held other x xs (reached part) parts loans vars producer consumer state l u scope e_child e_rest e b hs)

  -- ---- children are put back

  pub put_alike : (w : World) (ws : List World) (earlier : IsEarlier w r.world) (room base s outer inner : ℕ) (env : Environment) (variables : Variables S) (fs : List (windows.Frame S B)) (fs' : List (machine.Frame S B)) (memory : Memory S) (other : Tree) (vars : List ℕ) (left loans : List (Loan S)) (consumer : Core) (given : List (Shown S)) (state : StateOf O)
      → outer ≤ base + s → base + (s + length given) ≤ inner → InScope memory base s env variables → AreAsNamed w vars given → Holds (window memory base) s given → BodyStands w env s vars consumer other → FramesStand r.world memory ws outer fs fs'
      → TurnStands r.world (worlds_of w ws w) (put_next r code room base fs memory s (marked vars left) (marked vars loans) other state) (forms.put_next r room variables fs' vars left loans consumer given state)
  put_alike w ws earlier room base s outer inner env variables fs fs' memory other vars [] loans consumer given state l u scope fit held b hs =
      subst
      (λ n. TurnStands r.world (worlds_of w ws w) (last_form r code room base fs memory other (ending_loans keeping n state)) (forms.last_form r room variables fs' consumer (bound vars given variables) (ending_loans keeping (length loans) state)))
      (sym (marked_length vars loans))
      (body_alike r origins code h sees w ws earlier room base s outer env variables fs fs' memory other vars consumer given (ending_loans keeping (length loans) state) l scope fit held b hs)
  put_alike w ws earlier room base s outer inner env variables fs fs' memory other vars (k ∷ ks) loans consumer given state l u scope fit held b hs =
      let frames : FramesStand r.world memory (w ∷ ws) inner (record { step = windows.Putting s (marked vars ks) (marked vars loans) other; base = base } ∷ fs) (record { step = machine.Putting vars ks loans consumer given; variables = variables } ∷ fs') =
      Inside w ws base outer inner variables _ _ fs fs' earlier (stands.Putting env s (marked vars ks) (marked vars loans) other vars ks loans consumer given l u scope refl refl held b) hs in
      stands_if r origins code h sees _ (list_any (nat_eq k.child) vars) _ _ _ _
      (stands_if r origins code h sees _ (nat_lt state.calls r.limit) _ _ _ _
      (goes r origins code h sees (w ∷ ws) w room inner _ _ memory _ _ _ frames (stands.Gives []))
      (goes r origins code h sees (w ∷ ws) w room inner _ _ memory _ _ state frames (stands.Stops Steps (here state))))
      (goes r origins code h sees (w ∷ ws) w room inner _ _ memory _ _ state frames (stands.Gives []))

  -- ---- local stobjs

  pub local_alike : (w : World) (ws : List World) (earlier : IsEarlier w r.world) (room base s outer : ℕ) (env : Environment) (variables : Variables S) (fs : List (windows.Frame S B)) (fs' : List (machine.Frame S B)) (memory : Memory S) (x : ℕ) (fresh : Option (StobjList S)) (held other : Tree) (names : List ℕ) (producer body : Core) (state : StateOf O)
      → outer ≤ base + s → InScope memory base s env variables → resolved w (all_bound s (x ∷ []) env) (s + 1) producer ≡ Some held → BodyStands w env s names body other → FramesStand r.world memory ws outer fs fs'
      → TurnStands r.world (worlds_of w ws w) (make_local r code room base fs memory s x fresh held other state) (forms.make_local r room variables fs' x fresh names producer body state)
  local_alike w ws earlier room base s outer env variables fs fs' memory x None held other names producer body state l scope e b hs = ends r origins code h sees _ Unknown
  local_alike w ws earlier room base s outer env variables fs fs' memory x (Some made) held other names producer body state l scope e b hs =
      let after : Memory S = written (base + s) (StobjNamed x) memory in
      let a : Agrees memory after (base + s) = agrees_written (base + s) (StobjNamed x) memory in
      let inside : InScope after base s env variables = scope_kept memory after base s (base + s) env variables a (omega arith) scope in
      goes r origins code h sees (w ∷ ws) w room (base + s) _ _ after _ _ _
      (Inside w ws base outer (base + s) variables _ _ fs fs' earlier (stands.Local env s other names body l (omega arith) inside b) (frames_kept r.world memory after ws outer fs fs' (agrees_lower memory after outer (base + s) l a) hs))
      (stands.Begins (all_bound s (x ∷ []) env) (s + 1) base held producer ((x, StobjNamed x) ∷ variables) (omega arith)
      (record {
        below = are_bound.all s env (x ∷ []) inside.below;
        are = ap (λ vs. (x, StobjNamed x) ∷ vs) inside.are ∙ binds_as_evaluation.local (window after base) s env x (written_at (base + s) (StobjNamed x) memory);
      })
      earlier e)
