-- What a turn makes of a machine that is at a term.
use Rattle.std.proofs.Common.{◌≡◌, ℕ, zero, suc, ◌+◌, ◌-◌, ◌<◌, ◌≤◌, List, [], ◌∷◌, length, map, take, drop, get_or, refl, sym, ap, ◌∙◌, arith, subst}
use Rattle.std.specs.declared.alloc.AllocError.{AllocError}
use Rattle.std.specs.Prelude.{Result, Ok, Err, OnOk, Some, None, Bool, slice_get, nat_eq, nat_lt, true, false, ◌&&◌, if◌then◌else◌}
use Rattle.std.proofs.lemmas.Bool.Decides.{nat_tests}
use Rattle.acl_base.specs.declared.TermId.{TermId}
use Rattle.acl_base.specs.declared.FnId.{FnId}
use Rattle.acl_base.specs.declared.Word.{Word}
use Rattle.acl_heap.specs.Objects.{Objects}
use Rattle.acl_terms.specs.declared.outcome.Shown.{Shown}
use Rattle.acl_terms.specs.declared.outcome.Shown.TheVariants as shown
use Rattle.model_eval.specs.Outcomes.{StateOf, Depth, here}
use Rattle.model_eval.specs.Keeping.{Keeping}
use Rattle.model_slots.specs.Trees as trees
use Rattle.model_slots.specs.Trees.{Tree}
use Rattle.model_window.specs.Frames as windows
use Rattle.model_window.specs.Windows.{window, read}
use Rattle.model_window.specs.Turns.{turn, turn_by, begin, open_in, open_tree, next_part, parts_done}
use Rattle.acl_code.specs.declared.term.Parts.{Parts}
use Rattle.acl_code.specs.declared.term.Term.TheVariants as term
use Rattle.acl_code.specs.declared.term.Child.{Child}
use Rattle.acl_machine.specs.declared.frame.Borrowed.{Borrowed}
use Rattle.acl_code.specs.Tables.{seen_child, tree_in, tree_at, trees_in, no_tree, IsTable}
use Rattle.acl_code.proofs.TableLemmas.{tree_over_table, forest_length}
use Rattle.acl_keep.specs.Seen.{seen_shown, all_seen}
use Rattle.acl_machine.specs.declared.frame.Goal.{Goal}
use Rattle.acl_machine.specs.declared.frame.Goal.TheVariants as goal
use Rattle.acl_machine.specs.declared.frame.Step.{Step}
use Rattle.acl_machine.specs.declared.frame.Step.TheVariants as step
use Rattle.acl_machine.specs.declared.frame.Frame.{Frame}
use Rattle.acl_machine.specs.declared.frame.Halt.TheVariants as halt
use Rattle.acl_machine.specs.declared.frame.Control.TheVariants as control
use Rattle.acl_machine.specs.declared.machine.Machine.{Machine}
use Rattle.acl_machine.specs.Cells.{cell, cells_from, memory_of, top, below}
use Rattle.acl_machine.specs.Views.{Around, world_of, trees_of, code_of, children_of, producer_of, consumer_of, all_borrowed, seen_step, seen_frames, seen_goal, seen_origin, seen_control, machine_of}
use Rattle.acl_machine.specs.Turns.{rules_of, turned, Turns}
use Rattle.acl_machine.specs.Steps.{stopped, giving, pushed, opened_to, beginning, has_next, goal_step, parts_step, goal_done, parts_next}

pub is_zero : (n : ℕ) → nat_eq n 0 ≡ true → n ≡ 0
is_zero n e = grind (arith, nat_tests)

pub is_more : (n : ℕ) → nat_eq n 0 ≡ false → n ≡ suc (n - 1)
is_more n e = let h : 0 < n = positive n e in omega arith
  where
    positive : (n : ℕ) → nat_eq n 0 ≡ false → 0 < n
    positive n e = grind (arith, nat_tests)

-- from what holds where a call answers Ok
pub by_ok : {P Q : Type 0} (r : Result (Unit {0}) AllocError) → (P → Q) → OnOk r P → OnOk r Q
by_ok (Ok u) f p = f p
by_ok (Err e) f p = p

-- ---- parts

pub read_cells : (h : Objects) (vs : List Shown) (base at n : ℕ) → read (window (memory_of h vs) base) at n ≡ all_seen h (cells_from vs (base + at) n)
read_cells h vs base at zero = refl
read_cells h vs base at (suc n) =
    let e : base + (at + 1) ≡ (base + at) + 1 = omega arith in
    ap (λ l. seen_shown h (cell vs (base + at)) ∷ l) (read_cells h vs base (at + 1) n ∙ ap (λ i. all_seen h (cells_from vs i n)) e)

drop_more : (ts : List Tree) (i : ℕ) → i < length ts → drop i ts ≡ get_or ts i no_tree ∷ drop (i + 1) ts
drop_more [] i h = absurd (omega arith)
drop_more (t ∷ ts) zero h = refl
drop_more (t ∷ ts) (suc i) h =
    let e : suc (i + 1) ≡ suc i + 1 = omega arith in
    drop_more ts i (omega arith) ∙ ap (λ k. get_or ts i no_tree ∷ drop k (t ∷ ts)) e

drop_none : (ts : List Tree) (i : ℕ) → length ts ≤ i → drop i ts ≡ []
drop_none [] zero h = refl
drop_none [] (suc i) h = refl
drop_none (t ∷ ts) zero h = absurd (omega arith)
drop_none (t ∷ ts) (suc i) h = drop_none ts i (omega arith)

next_parts : (ts : List Tree) (i left : ℕ) → 0 < left → i < length ts → trees.trees (take left (drop i ts)) ≡ trees.more (get_or ts i no_tree) (trees.trees (take (left - 1) (drop (i + 1) ts)))
next_parts ts i left h k =
    let n : left ≡ suc (left - 1) = omega arith in
    ap (λ l. trees.trees (take left l)) (drop_more ts i k)
    ∙ ap (λ m. trees.trees (take m (get_or ts i no_tree ∷ drop (i + 1) ts))) n

no_parts_left : (ts : List Tree) (i : ℕ) → trees.trees (take 0 (drop i ts)) ≡ trees.none
no_parts_left ts i = by_list (drop i ts)
  where
    by_list : (ts : List Tree) → trees.trees (take 0 ts) ≡ trees.none
    by_list [] = refl
    by_list (t ∷ ts) = refl

none_taken : (left : ℕ) → trees.trees (take left []) ≡ trees.none
none_taken zero = refl
none_taken (suc n) = refl

-- the two tests
both_hold : (m n k : ℕ) → (nat_lt 0 m && nat_lt n k) ≡ true → (0 < m) × (n < k)
both_hold m n k e = go (nat_lt 0 m) refl (nat_lt n k) refl e
  where
    less : (a b : ℕ) → nat_lt a b ≡ true → a < b
    less a b e = grind (arith, nat_tests)

    go : (b : Bool) → nat_lt 0 m ≡ b → (c : Bool) → nat_lt n k ≡ c → (b && c) ≡ true → (0 < m) × (n < k)
    go true e true f g = (less 0 m e, less n k f)
    go true e false f g = absurd (cc)
    go false e c f g = absurd (cc)

parts_none : (ts : List Tree) (i left : ℕ) → (nat_lt 0 left && nat_lt i (length ts)) ≡ false → trees.trees (take left (drop i ts)) ≡ trees.none
parts_none ts i left e = go (nat_lt 0 left) refl (nat_lt i (length ts)) refl e
  where
    none_left : (a : ℕ) → nat_lt 0 a ≡ false → a ≡ 0
    none_left a e = grind (arith, nat_tests)

    past : (a b : ℕ) → nat_lt a b ≡ false → b ≤ a
    past a b e = grind (arith, nat_tests)

    go : (b : Bool) → nat_lt 0 left ≡ b → (c : Bool) → nat_lt i (length ts) ≡ c → (b && c) ≡ false → trees.trees (take left (drop i ts)) ≡ trees.none
    go true e true f g = absurd (cc)
    go true e false f g = ap (λ l. trees.trees (take left l)) (drop_none ts i (past i (length ts) f)) ∙ none_taken left
    go false e c f g = ap (λ n. trees.trees (take n (drop i ts))) (none_left left e) ∙ no_parts_left ts i

-- nothing of a stack
pub top_none : {X : Type 0} (xs : List X) → top 0 xs ≡ []
top_none xs = let n : length xs - 0 ≡ length xs = omega arith in ap (λ k. drop k xs) n ∙ all_dropped xs
  where
    all_dropped : {X : Type 0} (xs : List X) → drop (length xs) xs ≡ []
    all_dropped [] = refl
    all_dropped (x ∷ xs) = all_dropped xs

pub below_none : {X : Type 0} (xs : List X) → below 0 xs ≡ xs
below_none xs = let n : length xs - 0 ≡ length xs = omega arith in ap (λ k. take k xs) n ∙ all_taken xs
  where
    all_taken : {X : Type 0} (xs : List X) → take (length xs) xs ≡ xs
    all_taken [] = refl
    all_taken (x ∷ xs) = ap (λ l. x ∷ l) (all_taken xs)

module _ {O B : Type 0} (keeping : Keeping ℕ O B) where
  abbrev pub state_of : Around → O → Machine → StateOf O
  state_of a kept m = record { stobjs = kept; symbols = a.table.symbols; calls = m.calls; outer = m.outer }

  abbrev pub frames_of : Around → B → List B → Machine → List Frame → List (windows.Frame ℕ B)
  frames_of a d ls m fs = seen_frames a.heap (world_of a) (trees_of a) (code_of a) d ls m.names m.loans fs

  -- the parts of a form whose frame is the innermost
  pub parts : (a : Around) (d : B) (kept : O) (ls : List B) (m : Machine) (rest : List Frame) (base at count : ℕ) (next : TermId) (left : ℕ) (g : Goal)
      → next_part (rules_of keeping a) (code_of a) m.room base (frames_of a d ls m rest) (memory_of a.heap m.values) at count (trees.trees (trees_in (trees_of a) (record { first = next; count = left }))) (seen_goal (trees_of a) g) (state_of a kept m)
      ≡ windows.Going (machine_of a d kept ls (parts_next (length a.terms) base at count next left g (record m { frames = record { step = parts_step (length a.terms) at count next left g; base = base } ∷ rest })))
  parts a d kept ls m rest base at count next left g = by_next (has_next (length a.terms) next left) refl
    where
      same_length : length (trees_of a) ≡ length a.terms
      same_length = forest_length a.heap a.terms

      goals : (g : Goal) → parts_done (rules_of keeping a) (code_of a) m.room base (frames_of a d ls m rest) (memory_of a.heap m.values) at count (seen_goal (trees_of a) g) (state_of a kept m)
          ≡ windows.Going (machine_of a d kept ls (goal_done base at count g (record m { frames = record { step = goal_step at count g; base = base } ∷ rest })))
      goals (goal.Body t) = refl
      goals goal.Values =
          ap (λ vs. windows.Going (record { room = m.room; frames = record { step = windows.Last None; base = base } ∷ frames_of a d ls m rest; memory = memory_of a.heap m.values; control = windows.Give vs; state = state_of a kept m }))
          (read_cells a.heap m.values base at count)
      goals (goal.Call f) = refl

      by_next : (b : Bool) → has_next (length a.terms) next left ≡ b
          → next_part (rules_of keeping a) (code_of a) m.room base (frames_of a d ls m rest) (memory_of a.heap m.values) at count (trees.trees (trees_in (trees_of a) (record { first = next; count = left }))) (seen_goal (trees_of a) g) (state_of a kept m)
          ≡ windows.Going (machine_of a d kept ls (if b then beginning next base (record m { frames = record { step = (if b then step.Parts at count (record { 0 = next.0 + 1 }) (left - 1) g else goal_step at count g); base = base } ∷ rest })
          else goal_done base at count g (record m { frames = record { step = (if b then step.Parts at count (record { 0 = next.0 + 1 }) (left - 1) g else goal_step at count g); base = base } ∷ rest })))
      by_next true e =
          let both = both_hold left next.0 (length a.terms) e in
          ap (λ ts. next_part (rules_of keeping a) (code_of a) m.room base (frames_of a d ls m rest) (memory_of a.heap m.values) at count ts (seen_goal (trees_of a) g) (state_of a kept m))
          (next_parts (trees_of a) next.0 left both.0 (subst (λ n. next.0 < n) (sym same_length) both.1))
      by_next false e =
          ap (λ ts. next_part (rules_of keeping a) (code_of a) m.room base (frames_of a d ls m rest) (memory_of a.heap m.values) at count ts (seen_goal (trees_of a) g) (state_of a kept m))
          (parts_none (trees_of a) next.0 left (ap (λ n. nat_lt 0 left && nat_lt next.0 n) same_length ∙ e))
          ∙ goals g

  -- ---- a term

  pub at_term : (a : Around) (m : Machine) (t : TermId) (base : ℕ) (tree : Tree) (d : B) (kept : O) (ls : List B) → m.control ≡ control.Begin t base → tree_at a.heap a.terms t ≡ tree
      → turned keeping a d kept ls m ≡ begin (rules_of keeping a) (code_of a) m.room base (frames_of a d ls m m.frames) (memory_of a.heap m.values) tree (state_of a kept m)
  unfolding turn
  at_term a m t base tree d kept ls e f =
      ap (λ c. turn_by (rules_of keeping a) (code_of a) m.room (frames_of a d ls m m.frames) (memory_of a.heap m.values) (seen_control a.heap (trees_of a) m.given (seen_origin m.inside m.cut) c) (state_of a kept m)) e
      ∙ ap (λ x. begin (rules_of keeping a) (code_of a) m.room base (frames_of a d ls m m.frames) (memory_of a.heap m.values) x (state_of a kept m)) f

  -- a machine that is the one that a turn leads to
  pub becomes : {a after : Around} {m : Machine} (n n' : Machine) → n ≡ n' → Turns keeping a after m n' → Turns keeping a after m n
  becomes {a} {after} {m} n n' q t = subst (λ x. Turns keeping a after m x) (sym q) t

  -- a term that is opened
  opens : (a : Around) (m : Machine) (t : TermId) (base : ℕ) (tree : Tree) (s : Step) (next : Machine → Machine) → m.control ≡ control.Begin t base → tree_at a.heap a.terms t ≡ tree
      → ((d : B) (kept : O) (ls : List B) → begin (rules_of keeping a) (code_of a) m.room base (frames_of a d ls m m.frames) (memory_of a.heap m.values) tree (state_of a kept m)
      ≡ open_in (rules_of keeping a) (code_of a) m.room base (frames_of a d ls m m.frames) (memory_of a.heap m.values) tree (state_of a kept m))
      → ((d : B) (kept : O) (ls : List B) → open_tree (rules_of keeping a) (code_of a) (m.room - 1) base (frames_of a d ls m m.frames) (memory_of a.heap m.values) tree (state_of a kept m)
      ≡ windows.Going (machine_of a d kept ls (next (pushed s base m))))
      → Turns keeping a a m (opened_to s base next m)
  opens a m t base tree s next e f not_leaf is = record { goes = λ d kept ls. at_term a m t base tree d kept ls e f ∙ not_leaf d kept ls ∙ by_room d kept ls (nat_eq m.room 0) refl }
    where
      by_room : (d : B) (kept : O) (ls : List B) (b : Bool) → nat_eq m.room 0 ≡ b
          → open_in (rules_of keeping a) (code_of a) m.room base (frames_of a d ls m m.frames) (memory_of a.heap m.values) tree (state_of a kept m)
          ≡ windows.Going (machine_of a d kept ls (if b then stopped halt.Depth m else next (pushed s base m)))
      by_room d kept ls true e =
          ap (λ n. open_in (rules_of keeping a) (code_of a) n base (frames_of a d ls m m.frames) (memory_of a.heap m.values) tree (state_of a kept m)) (is_zero m.room e)
          ∙ ap (λ n. windows.Going (record { room = n; frames = frames_of a d ls m m.frames; memory = memory_of a.heap m.values; control = windows.Stopped Depth (here (state_of a kept m)); state = state_of a kept m })) (sym (is_zero m.room e))
      by_room d kept ls false e =
          ap (λ n. open_in (rules_of keeping a) (code_of a) n base (frames_of a d ls m m.frames) (memory_of a.heap m.values) tree (state_of a kept m)) (is_more m.room e)
          ∙ is d kept ls

  pub begins_slot : (a : Around) (m : Machine) (t : TermId) (base s : ℕ) → m.control ≡ control.Begin t base → IsTable a.terms → slice_get a.terms t.0 ≡ Some (term.Slot s)
      → (n : Machine) → n ≡ giving (cell m.values (base + s) ∷ []) m → Turns keeping a a m n
  begins_slot a m t base s e i f n q =
      becomes n _ q
      (record { goes = λ d kept ls. at_term a m t base _ d kept ls e (tree_over_table a.heap a.terms (term.Slot s) t i f) })

  pub begins_const : (a : Around) (m : Machine) (t : TermId) (base : ℕ) (w : Word) → m.control ≡ control.Begin t base → IsTable a.terms → slice_get a.terms t.0 ≡ Some (term.Const w)
      → (n : Machine) → n ≡ giving (shown.Value w ∷ []) m → Turns keeping a a m n
  begins_const a m t base w e i f n q =
      becomes n _ q
      (record { goes = λ d kept ls. at_term a m t base _ d kept ls e (tree_over_table a.heap a.terms (term.Const w) t i f) })

  past_tree : (ts : List Tree) (n : ℕ) → length ts ≤ n → get_or ts n no_tree ≡ no_tree
  past_tree [] n h = refl
  past_tree (t ∷ ts) zero h = absurd (omega arith)
  past_tree (t ∷ ts) (suc n) h = past_tree ts n (omega arith)

  pub begins_nowhere : (a : Around) (m : Machine) (t : TermId) (base : ℕ) → m.control ≡ control.Begin t base → length a.terms ≤ t.0
      → (n : Machine) → n ≡ giving (cell m.values (base + 0) ∷ []) m → Turns keeping a a m n
  begins_nowhere a m t base e h n q =
      becomes n _ q
      (record { goes = λ d kept ls. at_term a m t base no_tree d kept ls e (past_tree (trees_of a) t.0 (subst (λ n. n ≤ t.0) (sym (forest_length a.heap a.terms)) h)) })

  pub begins_if : (a : Around) (m : Machine) (t : TermId) (base at : ℕ) (x y z : TermId) → m.control ≡ control.Begin t base → IsTable a.terms → slice_get a.terms t.0 ≡ Some (term.If at x y z)
      → (n : Machine) → n ≡ opened_to (step.Test y z) base (beginning x base) m → Turns keeping a a m n
  begins_if a m t base at x y z e i f n q =
      becomes n _ q
      (opens a m t base _ (step.Test y z) (beginning x base) e (tree_over_table a.heap a.terms (term.If at x y z) t i f) (λ d kept ls. refl) (λ d kept ls. refl))

  pub begins_mv_let : (a : Around) (m : Machine) (t : TermId) (base at : ℕ) (x y : TermId) → m.control ≡ control.Begin t base → IsTable a.terms → slice_get a.terms t.0 ≡ Some (term.MvLet at x y)
      → (n : Machine) → n ≡ opened_to (step.Several at y) base (beginning x base) m → Turns keeping a a m n
  begins_mv_let a m t base at x y e i f n q =
      becomes n _ q
      (opens a m t base _ (step.Several at y) (beginning x base) e (tree_over_table a.heap a.terms (term.MvLet at x y) t i f) (λ d kept ls. refl) (λ d kept ls. refl))

  pub begins_must_be_equal : (a : Around) (m : Machine) (t : TermId) (base : ℕ) (x : TermId) → m.control ≡ control.Begin t base → IsTable a.terms → slice_get a.terms t.0 ≡ Some (term.MustBeEqual x)
      → (n : Machine) → n ≡ opened_to (step.Last None) base (beginning x base) m → Turns keeping a a m n
  begins_must_be_equal a m t base x e i f n q =
      becomes n _ q
      (opens a m t base _ (step.Last None) (beginning x base) e (tree_over_table a.heap a.terms (term.MustBeEqual x) t i f) (λ d kept ls. refl) (λ d kept ls. refl))

  pub begins_let : (a : Around) (m : Machine) (t : TermId) (base at : ℕ) (p : Parts) (x : TermId) → m.control ≡ control.Begin t base → IsTable a.terms → slice_get a.terms t.0 ≡ Some (term.Let at p x)
      → (n : Machine) → n ≡ opened_to (parts_step (length a.terms) at 0 p.first p.count (goal.Body x)) base (parts_next (length a.terms) base at 0 p.first p.count (goal.Body x)) m → Turns keeping a a m n
  begins_let a m t base at p x e i f n q =
      becomes n _ q
      (opens a m t base _ (parts_step (length a.terms) at 0 p.first p.count (goal.Body x)) (parts_next (length a.terms) base at 0 p.first p.count (goal.Body x)) e (tree_over_table a.heap a.terms (term.Let at p x) t i f)
      (λ d kept ls. refl) (λ d kept ls. parts a d kept ls (record m { room = m.room - 1 }) m.frames base at 0 p.first p.count (goal.Body x)))

  pub begins_mv : (a : Around) (m : Machine) (t : TermId) (base at : ℕ) (p : Parts) → m.control ≡ control.Begin t base → IsTable a.terms → slice_get a.terms t.0 ≡ Some (term.Mv at p)
      → (n : Machine) → n ≡ opened_to (parts_step (length a.terms) at 0 p.first p.count goal.Values) base (parts_next (length a.terms) base at 0 p.first p.count goal.Values) m → Turns keeping a a m n
  begins_mv a m t base at p e i f n q =
      becomes n _ q
      (opens a m t base _ (parts_step (length a.terms) at 0 p.first p.count goal.Values) (parts_next (length a.terms) base at 0 p.first p.count goal.Values) e (tree_over_table a.heap a.terms (term.Mv at p) t i f)
      (λ d kept ls. refl) (λ d kept ls. parts a d kept ls (record m { room = m.room - 1 }) m.frames base at 0 p.first p.count goal.Values))

  pub begins_call : (a : Around) (m : Machine) (t : TermId) (base at : ℕ) (g : FnId) (p : Parts) → m.control ≡ control.Begin t base → IsTable a.terms → slice_get a.terms t.0 ≡ Some (term.Call at g p)
      → (n : Machine) → n ≡ opened_to (parts_step (length a.terms) at 0 p.first p.count (goal.Call g)) base (parts_next (length a.terms) base at 0 p.first p.count (goal.Call g)) m → Turns keeping a a m n
  begins_call a m t base at g p e i f n q =
      becomes n _ q
      (opens a m t base _ (parts_step (length a.terms) at 0 p.first p.count (goal.Call g)) (parts_next (length a.terms) base at 0 p.first p.count (goal.Call g)) e (tree_over_table a.heap a.terms (term.Call at g p) t i f)
      (λ d kept ls. refl) (λ d kept ls. parts a d kept ls (record m { room = m.room - 1 }) m.frames base at 0 p.first p.count (goal.Call g)))

  pub begins_stobj_let : (a : Around) (m : Machine) (t : TermId) (base at : ℕ) (cs : List Child) (x y : TermId) → m.control ≡ control.Begin t base → IsTable a.terms → slice_get a.terms t.0 ≡ Some (term.StobjLet at cs x y)
      → (n : Machine) → n ≡ opened_to (step.Borrowing at t 0) base (giving []) m → Turns keeping a a m n
  begins_stobj_let a m t base at cs x y e i f n q =
      becomes n _ q
      (opens a m t base _ (step.Borrowing at t 0) (giving []) e tree (λ d kept ls. refl)
      (λ d kept ls.
      ap (λ (s : windows.Step ℕ B). going_with d kept ls s m.loans) (sym (same_step d ls))
      ∙ ap (λ (l : List Borrowed). going_with d kept ls (seen_step a.heap (world_of a) (trees_of a) (code_of a) d ls m.names m.loans (step.Borrowing at t 0)) l) (sym (below_none m.loans))))
    where
      tree : tree_at a.heap a.terms t ≡ trees.StobjLet at (map (seen_child a.heap) cs) (tree_in (trees_of a) x) (tree_in (trees_of a) y)
      tree = tree_over_table a.heap a.terms (term.StobjLet at cs x y) t i f

      same_step : (d : B) (ls : List B) → seen_step a.heap (world_of a) (trees_of a) (code_of a) d ls m.names m.loans (step.Borrowing at t 0) ≡ windows.Borrowing at (map (seen_child a.heap) cs) [] (tree_in (trees_of a) x) (tree_in (trees_of a) y)
      same_step d ls =
          ap (λ z. windows.Borrowing at (children_of z) (all_borrowed a.heap (top 0 m.loans)) (producer_of z) (consumer_of z)) tree
          ∙ ap (λ l. windows.Borrowing at (map (seen_child a.heap) cs) (all_borrowed a.heap l) (tree_in (trees_of a) x) (tree_in (trees_of a) y)) (top_none m.loans)

      going_with : B → O → List B → windows.Step ℕ B → List Borrowed → windows.Turned ℕ O B
      going_with d kept ls s loans = windows.Going (record {
        room = m.room - 1;
        frames = record { step = s; base = base } ∷ seen_frames a.heap (world_of a) (trees_of a) (code_of a) d ls m.names loans m.frames;
        memory = memory_of a.heap m.values;
        control = windows.Give [];
        state = state_of a kept m;
      })
