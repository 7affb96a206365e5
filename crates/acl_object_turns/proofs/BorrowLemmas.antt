-- What a turn makes of a machine that binds the children of a `STOBJ-LET`.
use Rattle.std.proofs.Common.{◌≡◌, ℕ, zero, suc, ◌+◌, ◌-◌, ◌<◌, ◌≤◌, List, [], ◌∷◌, ◌++◌, length, map, take, drop, refl, sym, ap, ◌∙◌, arith, subst}
use Rattle.std.specs.Prelude.{Option, Some, None, Bool, slice_get, nat_lt, true, false, if◌then◌else◌, option_map, unwrap_or}
use Rattle.std.specs.Option.{option_map_or}
use Rattle.model_prims.specs.Kinds.{by_number}
use Rattle.model_lists.specs.Lists.{item}
use Rattle.model_terms.specs.Worlds as worlds
use Rattle.model_eval.specs.Outcomes as outcomes
use Rattle.model_eval.specs.Outcomes.{Steps, Depth, Guard, one_more_call}
use Rattle.model_eval.specs.Keeping as keepings
use Rattle.model_eval.specs.Keeping.{Keeping}
use Rattle.model_eval.specs.Variables as variables
use Rattle.model_eval.specs.Lending.{field_number, is_reached, index_list, loan_values}
use Rattle.model_slots.specs.Trees as trees
use Rattle.model_window.specs.Frames as windows
use Rattle.model_window.specs.Windows.{Memory}
use Rattle.model_window.specs.Turns.{called_name, operand_value, index_value, loan_at, reach, borrow, next_child, next, stop_here}
use Rattle.acl_base.specs.declared.SymId.{SymId}
use Rattle.acl_base.specs.declared.TermId.{TermId}
use Rattle.acl_base.specs.declared.Word.{Word}
use Rattle.acl_heap.specs.Objects.{Objects, object_of}
use Rattle.acl_terms.specs.Definitions.{seen_definition, name_in}
use Rattle.acl_terms.specs.declared.definition.Definition.{Definition}
use Rattle.acl_terms.specs.declared.definition.Definition.TheVariants as definition
use Rattle.acl_terms.specs.declared.outcome.Shown.{Shown}
use Rattle.acl_terms.specs.declared.outcome.Shown.TheVariants as shown
use Rattle.acl_code.specs.declared.term.Operand.{Operand}
use Rattle.acl_code.specs.declared.term.Operand.TheVariants as operand
use Rattle.acl_code.specs.declared.term.Child.{Child}
use Rattle.acl_code.specs.Tables.{seen_operand, seen_child, tree_in, tree_at}
use Rattle.acl_keep.specs.Seen.{seen_shown, all_seen, seen_loan}
use Rattle.acl_keep.specs.Calls.{has_child, MayBe}
use Rattle.acl_keep.specs.declared.effect.Loan.{Loan}
use Rattle.acl_machine.specs.declared.frame.Borrowed.{Borrowed}
use Rattle.acl_machine.specs.declared.frame.Step.{Step}
use Rattle.acl_machine.specs.declared.frame.Step.TheVariants as step
use Rattle.acl_machine.specs.declared.frame.Frame.{Frame}
use Rattle.acl_machine.specs.declared.frame.Halt.{Halt}
use Rattle.acl_machine.specs.declared.frame.Halt.TheVariants as halt
use Rattle.acl_machine.specs.declared.frame.Control.TheVariants as control
use Rattle.acl_machine.specs.declared.machine.Machine.{Machine}
use Rattle.acl_machine.specs.Cells.{cell, memory_of, top, below}
use Rattle.acl_machine.specs.Views.{Around, world_of, trees_of, code_of, children_of, producer_of, consumer_of, seen_borrowed, all_borrowed, seen_step, seen_frames, machine_of}
use Rattle.acl_machine.specs.Turns.{rules_of, turned, IsFirst}
use Rattle.acl_machine.specs.Keeping.{lefts_in, Goes, MayGo, TurnsTo}
use Rattle.acl_machine.specs.Steps.{stopped, giving, again, counted}
use Rattle.acl_machine.proofs.BeginLemmas.{state_of, frames_of}
use Rattle.acl_machine.proofs.CallLemmas.{seen_named, not_below, is_below}
use Rattle.acl_machine.proofs.GoLemmas.{at_give, again_as}
use Rattle.acl_object_turns.specs.Steps.{closed_first}
use Rattle.acl_object_turns.specs.Children.{operand_cell, index_word, field_at, name_at, loan_from, index_cells, loan_cells, parent_shown, MayReachIn}
use Rattle.acl_object_turns.proofs.FrameLemmas.{lefts_again, lefts_closed, keeps_all, at_stop, closed_as}

-- ---- what is read, as the definition reads it

seen_at : (h : Objects) (ds : List Definition) (n : ℕ) → slice_get (map (seen_definition h) ds) n ≡ option_map (seen_definition h) (slice_get ds n)
seen_at h [] n = refl
seen_at h (d ∷ ds) zero = refl
seen_at h (d ∷ ds) (suc n) = seen_at h ds n

field_seen : (h : Objects) (x : Option Definition) → field_number (option_map (seen_definition h) x) ≡ field_at x
field_seen h None = refl
field_seen h (Some (definition.Primitive name row arity)) = refl
field_seen h (Some (definition.Function f)) = refl
field_seen h (Some (definition.Macro m)) = refl
field_seen h (Some (definition.Constant name value)) = refl
field_seen h (Some (definition.Object descriptor layout class)) = refl
field_seen h (Some (definition.Generated f)) = refl
field_seen h (Some (definition.Abstract descriptor)) = refl
field_seen h (Some (definition.OfAbstract f)) = refl
field_seen h (Some (definition.Named name formals)) = refl
field_seen h (Some (definition.Signed name formals signature executable)) = refl

pub field_is : (h : Objects) (ds : List Definition) (n : ℕ) → field_number (slice_get (map (seen_definition h) ds) n) ≡ field_at (slice_get ds n)
field_is h ds n = ap field_number (seen_at h ds n) ∙ field_seen h (slice_get ds n)

name_seen : (h : Objects) (x : Option Definition) → option_map_or worlds.definition_name (option_map (seen_definition h) x) 0 ≡ name_at x
name_seen h None = refl
name_seen h (Some d) = seen_named h d

name_is : (h : Objects) (ds : List Definition) (n : ℕ) → called_name (map (seen_definition h) ds) n ≡ name_at (slice_get ds n)
name_is h ds n = ap (λ x. option_map_or worlds.definition_name x 0) (seen_at h ds n) ∙ name_seen h (slice_get ds n)

word_seen : (h : Objects) (v : Shown) → variables.object_of by_number (seen_shown h v) ≡ object_of h (index_word v)
word_seen h (shown.Value w) = refl
word_seen h (shown.Object x) = refl

pub indices_seen : (h : Objects) (i : Option Word) → all_seen h (index_cells i) ≡ index_list (option_map (object_of h) i)
indices_seen h None = refl
indices_seen h (Some w) = refl

pub seen_both : (h : Objects) (xs ys : List Shown) → all_seen h (xs ++ ys) ≡ all_seen h xs ++ all_seen h ys
seen_both h [] ys = refl
seen_both h (x ∷ xs) ys = ap (λ l. seen_shown h x ∷ l) (seen_both h xs ys)

called_seen : (h : Objects) (l : Loan) → all_seen h (loan_cells l) ≡ loan_values (seen_loan h l)
called_seen h l = seen_both h (index_cells l.index) (shown.Object l.parent ∷ []) ∙ ap (λ xs. xs ++ outcomes.StobjNamed l.parent.0 ∷ []) (indices_seen h l.index)

-- ---- the stack of loans

one_longer : {X : Type 0} (xs : List X) (x : X) → length (xs ++ x ∷ []) ≡ length xs + 1
one_longer [] x = refl
one_longer (y ∷ ys) x = let e : suc (length ys + 1) ≡ suc (length ys) + 1 = omega arith in ap suc (one_longer ys x) ∙ e

same_place : {X : Type 0} (n : ℕ) (xs : List X) (x : X) → length (xs ++ x ∷ []) - (n + 1) ≡ length xs - n
same_place n xs x = let e : length (xs ++ x ∷ []) ≡ length xs + 1 = one_longer xs x in omega (arith, e)

dropped_more : {X : Type 0} (k : ℕ) (xs : List X) (x : X) → k ≤ length xs → drop k (xs ++ x ∷ []) ≡ drop k xs ++ x ∷ []
dropped_more zero [] x l = refl
dropped_more zero (y ∷ ys) x l = refl
dropped_more (suc k) [] x l = absurd (omega arith)
dropped_more (suc k) (y ∷ ys) x l = dropped_more k ys x (omega arith)

taken_more : {X : Type 0} (k : ℕ) (xs : List X) (x : X) → k ≤ length xs → take k (xs ++ x ∷ []) ≡ take k xs
taken_more zero [] x l = refl
taken_more zero (y ∷ ys) x l = refl
taken_more (suc k) [] x l = absurd (omega arith)
taken_more (suc k) (y ∷ ys) x l = ap (λ zs. y ∷ zs) (taken_more k ys x (omega arith))

top_more : {X : Type 0} (n : ℕ) (xs : List X) (x : X) → top (n + 1) (xs ++ x ∷ []) ≡ top n xs ++ x ∷ []
top_more n xs x = ap (λ i. drop i (xs ++ x ∷ [])) (same_place n xs x) ∙ dropped_more (length xs - n) xs x (omega arith)

below_more : {X : Type 0} (n : ℕ) (xs : List X) (x : X) → below (n + 1) (xs ++ x ∷ []) ≡ below n xs
below_more n xs x = ap (λ i. take i (xs ++ x ∷ [])) (same_place n xs x) ∙ taken_more (length xs - n) xs x (omega arith)

borrowed_more : (h : Objects) (bs : List Borrowed) (b : Borrowed) → all_borrowed h (bs ++ b ∷ []) ≡ all_borrowed h bs ++ seen_borrowed h b ∷ []
borrowed_more h [] b = refl
borrowed_more h (x ∷ xs) b = ap (λ l. seen_borrowed h x ∷ l) (borrowed_more h xs b)

module _ {O B : Type 0} (keeping : Keeping ℕ O B) where
  index_is : (a : Around) (values : List Shown) (base : ℕ) (i : Option Operand)
      → index_value (rules_of keeping a) (code_of a) (memory_of a.heap values) base (option_map (seen_operand a.heap) i) ≡ option_map (object_of a.heap) (option_map (λ o. index_word (operand_cell values base o)) i)
  index_is a values base None = refl
  index_is a values base (Some (operand.Slot s)) = ap Some (word_seen a.heap (cell values (base + s)))
  index_is a values base (Some (operand.Const w)) = refl

  parent_is : (a : Around) (values : List Shown) (base : ℕ) (o : Operand)
      → operand_value (rules_of keeping a) (code_of a) (memory_of a.heap values) base (seen_operand a.heap o) ≡ seen_shown a.heap (operand_cell values base o)
  parent_is a values base (operand.Slot s) = refl
  parent_is a values base (operand.Const w) = refl

  pub loan_is : (a : Around) (values : List Shown) (base : ℕ) (p : SymId) (c : Child)
      → loan_at (rules_of keeping a) (code_of a) (memory_of a.heap values) base p.0 (seen_child a.heap c) ≡ seen_loan a.heap (loan_from a.content.definitions values base p c)
  loan_is a values base p c =
      ap (λ n. record { child = c.name.0; parent = p.0; field = n; index = index_value (rules_of keeping a) (code_of a) (memory_of a.heap values) base (option_map (seen_operand a.heap) c.index) }) (field_is a.heap a.content.definitions c.accessor.0)
      ∙ ap (λ i. record { child = c.name.0; parent = p.0; field = field_at (slice_get a.content.definitions c.accessor.0); index = i }) (index_is a values base c.index)

  -- ---- the turn

  -- the forms around
  abbrev pub rest_of : Around → Machine → ℕ → List Frame → B → List B → List (windows.Frame ℕ B)
  rest_of a m bound rest d ls = seen_frames a.heap (world_of a) (trees_of a) (code_of a) d ls m.names (below bound m.loans) rest

  -- with these children left
  abbrev pub binding : Around → Machine → ℕ → ℕ → TermId → ℕ → List Frame → List trees.Child → B → O → List B → windows.Turned ℕ O B
  binding a m base at t bound rest cs d kept ls =
      next_child (rules_of keeping a) (code_of a) m.room base (rest_of a m bound rest d ls) (memory_of a.heap m.values) at cs (all_borrowed a.heap (top bound m.loans)) (producer_of (tree_in (trees_of a) t)) (consumer_of (tree_in (trees_of a) t)) (state_of keeping a kept m)

  pub at_borrowing : (a : Around) (m : Machine) (f : Frame) (at : ℕ) (t : TermId) (bound : ℕ) (d : B) (kept : O) (ls : List B) → m.control ≡ control.Give → (first : IsFirst f m.frames) → f.step ≡ step.Borrowing at t bound
      → turned keeping a d kept ls m ≡ binding a m f.base at t bound first.rest (drop bound (children_of (tree_in (trees_of a) t))) d kept ls
  at_borrowing a m f at t bound d kept ls e first g = at_give keeping a m f (step.Borrowing at t bound) d kept ls e first g

  -- what the form waits for once a child is bound
  abbrev pub step_with : Around → Machine → ℕ → TermId → ℕ → Child → keepings.Loan ℕ → windows.Step ℕ B
  step_with a m at t bound c loan =
      windows.Borrowing at (drop (bound + 1) (children_of (tree_in (trees_of a) t))) (all_borrowed a.heap (top bound m.loans) ++ record { loan = loan; returns = c.returns } ∷ []) (producer_of (tree_in (trees_of a) t)) (consumer_of (tree_in (trees_of a) t))

  -- where its parent is this
  abbrev pub from_parent : Around → Machine → ℕ → ℕ → TermId → ℕ → List Frame → Child → outcomes.Shown ℕ → B → O → List B → windows.Turned ℕ O B
  from_parent a m base at t bound rest c v d kept ls =
      borrow (rules_of keeping a) (code_of a) m.room base (rest_of a m bound rest d ls) (memory_of a.heap m.values) (step_with a m at t bound c) (seen_child a.heap c) v (state_of keeping a kept m)

  pub at_child : (a : Around) (m : Machine) (f : Frame) (at : ℕ) (t : TermId) (bound : ℕ) (c : Child) (v : Shown) (d : B) (kept : O) (ls : List B) → m.control ≡ control.Give → (first : IsFirst f m.frames) → f.step ≡ step.Borrowing at t bound
      → drop bound (children_of (tree_in (trees_of a) t)) ≡ seen_child a.heap c ∷ drop (bound + 1) (children_of (tree_in (trees_of a) t)) → operand_cell m.values f.base c.parent ≡ v
      → turned keeping a d kept ls m ≡ from_parent a m f.base at t bound first.rest c (seen_shown a.heap v) d kept ls
  at_child a m f at t bound c v d kept ls e first g next q =
      at_borrowing a m f at t bound d kept ls e first g
      ∙ ap (λ cs. binding a m f.base at t bound first.rest cs d kept ls) next
      ∙ ap (λ v. from_parent a m f.base at t bound first.rest c v d kept ls) (parent_is a m.values f.base c.parent)
      ∙ ap (λ v. from_parent a m f.base at t bound first.rest c (seen_shown a.heap v) d kept ls) q

  -- the form stops, and its loans are gone
  abbrev pub stopped_borrowing : Halt → ℕ → Machine → Machine
  stopped_borrowing why bound m = stopped why (again (step.Last None) (record m { loans = below bound m.loans }))

  pub stops_at_parent : (Keeps : O → List B → Type 0) (a : Around) (m n : Machine) (f : Frame) (at : ℕ) (t : TermId) (bound : ℕ) (c : Child) (w : Word)
      → m.control ≡ control.Give → IsFirst f m.frames → f.step ≡ step.Borrowing at t bound
      → drop bound (children_of (tree_in (trees_of a) t)) ≡ seen_child a.heap c ∷ drop (bound + 1) (children_of (tree_in (trees_of a) t)) → operand_cell m.values f.base c.parent ≡ shown.Value w
      → n ≡ stopped_borrowing halt.Depth bound m → TurnsTo keeping Keeps Keeps a a m n
  stops_at_parent Keeps a m n f at t bound c w e first g next q is = subst (λ x. TurnsTo keeping Keeps Keeps a a m x) (sym is)
      (keeps_all keeping Keeps a m _ (lefts_again (step.Last None) f m.frames first (sym (ap lefts_in g)))
      (λ d kept ls k. at_child a m f at t bound c (shown.Value w) d kept ls e first g next q ∙ again_as keeping a (stopped halt.Depth (record m { loans = below bound m.loans })) f (step.Last None) d kept ls first))

  -- the accessor's call, of this loan, by whether a call is left
  abbrev pub reaching : Around → Machine → ℕ → ℕ → TermId → ℕ → List Frame → Child → ℕ → keepings.Loan ℕ → Bool → Bool → B → O → List B → windows.Turned ℕ O B
  reaching a m base at t bound rest c name loan left reached d kept ls =
      if left then (if reached then next (rules_of keeping a) (code_of a) m.room base (rest_of a m bound rest d ls) (memory_of a.heap m.values) (step_with a m at t bound c loan) (windows.Give []) (one_more_call (state_of keeping a kept m))
      else stop_here (rules_of keeping a) (code_of a) None m.room base (rest_of a m bound rest d ls) (memory_of a.heap m.values) (Guard name (loan_values loan)) (one_more_call (state_of keeping a kept m)))
      else stop_here (rules_of keeping a) (code_of a) None m.room base (rest_of a m bound rest d ls) (memory_of a.heap m.values) Steps (state_of keeping a kept m)

  pub at_reaching : (a : Around) (m : Machine) (f : Frame) (at : ℕ) (t : TermId) (bound : ℕ) (c : Child) (p : SymId) (loan : Loan) (name : ℕ) (left reached : Bool) (d : B) (kept : O) (ls : List B) → m.control ≡ control.Give → (first : IsFirst f m.frames) → f.step ≡ step.Borrowing at t bound
      → drop bound (children_of (tree_in (trees_of a) t)) ≡ seen_child a.heap c ∷ drop (bound + 1) (children_of (tree_in (trees_of a) t)) → operand_cell m.values f.base c.parent ≡ shown.Object p
      → loan ≡ loan_from a.content.definitions m.values f.base p c → name ≡ name_at (slice_get a.content.definitions c.accessor.0) → nat_lt m.calls a.limit ≡ left
      → has_child keeping (option_map (object_of a.heap) loan.index) loan.parent.0 loan.field kept ≡ reached
      → turned keeping a d kept ls m ≡ reaching a m f.base at t bound first.rest c name (seen_loan a.heap loan) left reached d kept ls
  at_reaching a m f at t bound c p loan name left reached d kept ls e first g next q is named l r =
      at_child a m f at t bound c (shown.Object p) d kept ls e first g next q
      ∙ ap (λ x. reaching a m f.base at t bound first.rest c (called_name (world_of a) c.accessor.0) x (nat_lt m.calls a.limit) (is_reached x.index (item x.field (keeping.read kept x.parent))) d kept ls) (loan_is a m.values f.base p c ∙ sym (ap (seen_loan a.heap) is))
      ∙ ap (λ x. reaching a m f.base at t bound first.rest c x (seen_loan a.heap loan) (nat_lt m.calls a.limit) (has_child keeping (option_map (object_of a.heap) loan.index) loan.parent.0 loan.field kept) d kept ls) (name_is a.heap a.content.definitions c.accessor.0 ∙ sym named)
      ∙ ap (λ x. reaching a m f.base at t bound first.rest c name (seen_loan a.heap loan) x (has_child keeping (option_map (object_of a.heap) loan.index) loan.parent.0 loan.field kept) d kept ls) l
      ∙ ap (λ x. reaching a m f.base at t bound first.rest c name (seen_loan a.heap loan) left x d kept ls) r

  pub stops_at_limit : (Keeps : O → List B → Type 0) (a : Around) (m n : Machine) (f : Frame) (at : ℕ) (t : TermId) (bound : ℕ) (c : Child) (p : SymId)
      → m.control ≡ control.Give → IsFirst f m.frames → f.step ≡ step.Borrowing at t bound
      → drop bound (children_of (tree_in (trees_of a) t)) ≡ seen_child a.heap c ∷ drop (bound + 1) (children_of (tree_in (trees_of a) t)) → operand_cell m.values f.base c.parent ≡ shown.Object p
      → a.limit ≤ m.calls → n ≡ stopped_borrowing halt.Steps bound m → TurnsTo keeping Keeps Keeps a a m n
  stops_at_limit Keeps a m n f at t bound c p e first g next q l is = subst (λ x. TurnsTo keeping Keeps Keeps a a m x) (sym is)
      (keeps_all keeping Keeps a m _ (lefts_again (step.Last None) f m.frames first (sym (ap lefts_in g)))
      (λ d kept ls k.
      at_reaching a m f at t bound c p (loan_from a.content.definitions m.values f.base p c) (name_at (slice_get a.content.definitions c.accessor.0)) false _ d kept ls e first g next q refl refl (not_below m.calls a.limit l) refl
      ∙ again_as keeping a (stopped halt.Steps (record m { loans = below bound m.loans })) f (step.Last None) d kept ls first))

  pub binds_child : (Keeps : O → List B → Type 0) (a : Around) (m n : Machine) (f : Frame) (at : ℕ) (t : TermId) (bound : ℕ) (c : Child) (p : SymId) (loan : Loan) (r : Bool)
      → m.control ≡ control.Give → IsFirst f m.frames → f.step ≡ step.Borrowing at t bound
      → drop bound (children_of (tree_in (trees_of a) t)) ≡ seen_child a.heap c ∷ drop (bound + 1) (children_of (tree_in (trees_of a) t)) → operand_cell m.values f.base c.parent ≡ shown.Object p
      → loan ≡ loan_from a.content.definitions m.values f.base p c → m.calls < a.limit
      → ((kept : O) (ls : List B) → Keeps kept ls → r ≡ has_child keeping (option_map (object_of a.heap) loan.index) p.0 loan.field kept) → r ≡ true
      → n ≡ giving [] (again (step.Borrowing at t (bound + 1)) (counted (record m { loans = m.loans ++ record { loan = loan; returns = c.returns } ∷ [] }))) → TurnsTo keeping Keeps Keeps a a m n
  binds_child Keeps a m n f at t bound c p loan r e first g next q from l reached holds is = subst (λ x. TurnsTo keeping Keeps Keeps a a m x) (sym is)
      (keeps_all keeping Keeps a m _ (lefts_again (step.Borrowing at t (bound + 1)) f m.frames first (sym (ap lefts_in g)))
      (λ d kept ls k.
      at_reaching a m f at t bound c p loan (name_at (slice_get a.content.definitions c.accessor.0)) true true d kept ls e first g next q from refl (is_below m.calls a.limit l) (same_parent kept ∙ sym (reached kept ls k) ∙ holds)
      ∙ ap (λ bs. bound_with d kept ls bs (below bound m.loans)) (sym (ap (all_borrowed a.heap) (top_more bound m.loans b) ∙ borrowed_more a.heap (top bound m.loans) b))
      ∙ ap (bound_with d kept ls (all_borrowed a.heap (top (bound + 1) (m.loans ++ b ∷ [])))) (sym (below_more bound m.loans b))
      ∙ again_as keeping a (giving [] (counted (record m { loans = m.loans ++ b ∷ [] }))) f (step.Borrowing at t (bound + 1)) d kept ls first))
    where
      b : Borrowed
      b = record { loan = loan; returns = c.returns }

      same_parent : (kept : O) → has_child keeping (option_map (object_of a.heap) loan.index) loan.parent.0 loan.field kept ≡ has_child keeping (option_map (object_of a.heap) loan.index) p.0 loan.field kept
      same_parent kept = ap (λ (x : Loan). has_child keeping (option_map (object_of a.heap) loan.index) x.parent.0 loan.field kept) from

      bound_with : B → O → List B → List (windows.Borrowed ℕ) → List Borrowed → windows.Turned ℕ O B
      bound_with d kept ls bs loans = windows.Going (record {
        room = m.room;
        frames = record { step = windows.Borrowing at (drop (bound + 1) (children_of (tree_in (trees_of a) t))) bs (producer_of (tree_in (trees_of a) t)) (consumer_of (tree_in (trees_of a) t)); base = f.base }
            ∷ seen_frames a.heap (world_of a) (trees_of a) (code_of a) d ls m.names loans first.rest;
        memory = memory_of a.heap m.values;
        control = windows.Give [];
        state = one_more_call (state_of keeping a kept m);
      })

  pub refuses_child : (Keeps : O → List B → Type 0) (a : Around) (m n : Machine) (f : Frame) (at : ℕ) (t : TermId) (bound : ℕ) (c : Child) (p : SymId) (loan : Loan) (name : SymId) (r : Bool)
      → m.control ≡ control.Give → IsFirst f m.frames → f.step ≡ step.Borrowing at t bound
      → drop bound (children_of (tree_in (trees_of a) t)) ≡ seen_child a.heap c ∷ drop (bound + 1) (children_of (tree_in (trees_of a) t)) → operand_cell m.values f.base c.parent ≡ shown.Object p
      → loan ≡ loan_from a.content.definitions m.values f.base p c → name.0 ≡ name_at (slice_get a.content.definitions c.accessor.0) → m.calls < a.limit
      → ((kept : O) (ls : List B) → Keeps kept ls → r ≡ has_child keeping (option_map (object_of a.heap) loan.index) p.0 loan.field kept) → r ≡ false
      → n ≡ stopped (halt.Guard name) (again (step.Last None) (record (counted (record m { given = loan_cells loan })) { loans = below bound m.loans })) → TurnsTo keeping Keeps Keeps a a m n
  refuses_child Keeps a m n f at t bound c p loan name r e first g next q from named l reached no_child is = subst (λ x. TurnsTo keeping Keeps Keeps a a m x) (sym is)
      (keeps_all keeping Keeps a m _ (lefts_again (step.Last None) f m.frames first (sym (ap lefts_in g)))
      (λ d kept ls k.
      at_reaching a m f at t bound c p loan name.0 true false d kept ls e first g next q from named (is_below m.calls a.limit l) (same_parent kept ∙ sym (reached kept ls k) ∙ no_child)
      ∙ ap (λ vs. stop_here (rules_of keeping a) (code_of a) None m.room f.base (rest_of a m bound first.rest d ls) (memory_of a.heap m.values) (Guard name.0 vs) (one_more_call (state_of keeping a kept m))) (sym (called_seen a.heap loan))
      ∙ again_as keeping a (stopped (halt.Guard name) (record (counted (record m { given = loan_cells loan })) { loans = below bound m.loans })) f (step.Last None) d kept ls first))
    where
      same_parent : (kept : O) → has_child keeping (option_map (object_of a.heap) loan.index) loan.parent.0 loan.field kept ≡ has_child keeping (option_map (object_of a.heap) loan.index) p.0 loan.field kept
      same_parent kept = ap (λ (x : Loan). has_child keeping (option_map (object_of a.heap) loan.index) x.parent.0 loan.field kept) from

  pub closes_borrowing : (Keeps : O → List B → Type 0) (a : Around) (m n : Machine) (f : Frame) (why : Halt) (at : ℕ) (t : TermId) (bound : ℕ)
      → m.control ≡ control.Stopped why → IsFirst f m.frames → f.step ≡ step.Borrowing at t bound → n ≡ record (closed_first m) { loans = below bound m.loans } → TurnsTo keeping Keeps Keeps a a m n
  closes_borrowing Keeps a m n f why at t bound e first g q = subst (λ x. TurnsTo keeping Keeps Keeps a a m x) (sym q)
      (keeps_all keeping Keeps a m _ (lefts_closed f m.frames first (ap lefts_in g))
      (λ d kept ls p. at_stop keeping a m f (step.Borrowing at t bound) why d kept ls e first g ∙ closed_as keeping a (record m { loans = below bound m.loans }) f why d kept ls e first))

-- ---- what is asked of the keeper

parent_seen : (h : Objects) (values : List Shown) (base : ℕ) (o : Operand) → parent_shown (memory_of h values) base (seen_operand h o) ≡ seen_shown h (operand_cell values base o)
parent_seen h values base (operand.Slot s) = refl
parent_seen h values base (operand.Const w) = refl

pub may_reach : {O B : Type 0} (Keeps : O → List B → Type 0) (reach : ℕ → ℕ → O → List B → Type 0) (h : Objects) (ds : List Definition) (m : Machine) (base : ℕ) (c : Child) (p : SymId) (loan : Loan)
    → operand_cell m.values base c.parent ≡ shown.Object p → loan ≡ loan_from ds m.values base p c
    → MayGo Keeps (MayReachIn reach (parent_shown (memory_of h m.values) base (seen_operand h c.parent)) (field_number (slice_get (map (seen_definition h) ds) c.accessor.0))) m → MayBe Keeps (reach p.0 loan.field)
may_reach Keeps reach h ds m base c p loan q from may = record {
  kept = may.kept;
  lefts = may.lefts;
  keeps = may.goes.keeps;
  may = subst (λ (x : Loan). reach p.0 x.field may.kept may.lefts) (sym from)
      (subst (λ n. reach p.0 n may.kept may.lefts) (field_is h ds c.accessor.0)
      (subst (λ v. MayReachIn reach v (field_number (slice_get (map (seen_definition h) ds) c.accessor.0)) may.kept may.lefts) (parent_seen h m.values base c.parent ∙ ap (seen_shown h) q) may.may));
}
