-- What a turn makes of a machine that lends the children of a `STOBJ-LET`.
use Rattle.std.proofs.Common.{◌≡◌, ℕ, ◌+◌, List, [], ◌∷◌, ◌++◌, map, drop, refl, sym, ap, ◌∙◌, subst}
use Rattle.std.specs.Prelude.{None, Bool, slice_get, true, false, if◌then◌else◌}
use Rattle.model_prims.specs.Kinds.{by_number}
use Rattle.model_terms.specs.Worlds.{World}
use Rattle.model_eval.specs.Outcomes as outcomes
use Rattle.model_eval.specs.Outcomes.{Guard, StobjNamed}
use Rattle.model_eval.specs.Keeping as keepings
use Rattle.model_eval.specs.Keeping.{Keeping}
use Rattle.model_eval.specs.Lending.{field_number, index_list, indices, are_twins}
use Rattle.model_eval.specs.Evaluated.{stobj_let_word}
use Rattle.model_slots.specs.Trees as trees
use Rattle.model_window.specs.Frames as windows
use Rattle.model_window.specs.Windows.{Memory, all_written}
use Rattle.model_window.specs.Turns.{loans_of, next, stop_here}
use Rattle.acl_base.specs.declared.TermId.{TermId}
use Rattle.acl_heap.specs.Objects.{Objects}
use Rattle.acl_terms.specs.declared.outcome.Shown.{Shown}
use Rattle.acl_code.specs.declared.term.Child.{Child}
use Rattle.acl_code.specs.Tables.{seen_operand, seen_child, tree_in}
use Rattle.acl_keep.specs.Seen.{all_seen, seen_loan, seen_loans}
use Rattle.acl_keep.specs.Calls.{MayBe}
use Rattle.acl_keep.specs.declared.effect.Loan.{Loan}
use Rattle.acl_machine.specs.declared.frame.Borrowed.{Borrowed}
use Rattle.acl_machine.specs.declared.frame.Step.TheVariants as step
use Rattle.acl_machine.specs.declared.frame.Frame.{Frame}
use Rattle.acl_machine.specs.declared.frame.Halt.TheVariants as halt
use Rattle.acl_machine.specs.declared.frame.Control.TheVariants as control
use Rattle.acl_machine.specs.declared.machine.Machine.{Machine}
use Rattle.acl_machine.specs.Cells.{memory_of, top, below}
use Rattle.acl_machine.specs.Views.{Around, world_of, trees_of, code_of, children_of, producer_of, consumer_of, all_borrowed, machine_of}
use Rattle.acl_machine.specs.Turns.{rules_of, turned, IsFirst}
use Rattle.acl_machine.specs.Keeping.{lefts_in, MayGo, TurnsTo}
use Rattle.acl_machine.specs.Steps.{stopped, again, beginning}
use Rattle.acl_machine.proofs.BeginLemmas.{state_of, frames_of}
use Rattle.acl_machine.proofs.GoLemmas.{again_as}
use Rattle.acl_machine.proofs.MemoryLemmas.{memory_all_written}
use Rattle.acl_object_turns.specs.Children.{loans_in, children_in, index_cells, all_indices, parent_shown, MayReachIn, MayLendOf, MayBorrow, LendsAll}
use Rattle.acl_object_turns.proofs.FrameLemmas.{lefts_again, keeps_all, changes}
use Rattle.acl_object_turns.proofs.BorrowLemmas.{seen_both, indices_seen, rest_of, binding, at_borrowing}

-- ---- what is lent, as the definition has it

pub loans_seen : (h : Objects) (bs : List Borrowed) → loans_of (all_borrowed h bs) ≡ seen_loans h (loans_in bs)
loans_seen h [] = refl
loans_seen h (b ∷ bs) = ap (λ l. seen_loan h b.loan ∷ l) (loans_seen h bs)

all_indices_seen : (h : Objects) (loans : List Loan) → all_seen h (all_indices loans) ≡ indices (seen_loans h loans)
all_indices_seen h [] = refl
all_indices_seen h (l ∷ ls) =
    seen_both h (index_cells l.index) (all_indices ls)
    ∙ ap (λ xs. xs ++ all_seen h (all_indices ls)) (indices_seen h l.index)
    ∙ ap (λ xs. index_list (seen_loan h l).index ++ xs) (all_indices_seen h ls)

children_seen : (h : Objects) (loans : List Loan) → all_seen h (children_in loans) ≡ map (λ (l : keepings.Loan ℕ). StobjNamed l.child) (seen_loans h loans)
children_seen h [] = refl
children_seen h (l ∷ ls) = ap (λ xs. StobjNamed l.child.0 ∷ xs) (children_seen h ls)

-- ---- what is asked of the keeper

module _ {O B : Type 0} (Keeps : O → List B → Type 0) (reach : ℕ → ℕ → O → List B → Type 0) (lend : List (keepings.Loan ℕ) → O → List B → Type 0) where
  pub may_child : (w : World) (memory : Memory ℕ) (base : ℕ) (cs ds : List trees.Child) (loans : List (keepings.Loan ℕ)) (h : Objects) (c : Child) (m : Machine)
      → MayGo Keeps (MayBorrow reach lend w memory base cs loans) m → cs ≡ seen_child h c ∷ ds → MayGo Keeps (MayReachIn reach (parent_shown memory base (seen_operand h c.parent)) (field_number (slice_get w c.accessor.0))) m
  may_child w memory base cs ds loans h c m may e = subst (λ l. MayGo Keeps (MayBorrow reach lend w memory base l loans) m) e may

  pub may_all : (w : World) (memory : Memory ℕ) (base : ℕ) (cs : List trees.Child) (loans : List (keepings.Loan ℕ)) (m : Machine)
      → MayGo Keeps (MayBorrow reach lend w memory base cs loans) m → cs ≡ [] → MayGo Keeps (MayLendOf lend (are_twins by_number loans) loans) m
  may_all w memory base cs loans m may e = subst (λ l. MayGo Keeps (MayBorrow reach lend w memory base l loans) m) e may

pub may_lend : {O B : Type 0} (Keeps : O → List B → Type 0) (lend : List (keepings.Loan ℕ) → O → List B → Type 0) (loans : List (keepings.Loan ℕ)) (b : Bool) (m : Machine)
    → MayGo Keeps (MayLendOf lend (are_twins by_number loans) loans) m → b ≡ are_twins by_number loans → b ≡ false → MayBe Keeps (lend loans)
may_lend Keeps lend loans b m may e no_twins = record {
  kept = may.kept;
  lefts = may.lefts;
  keeps = may.goes.keeps;
  may = subst (λ x. MayLendOf lend x loans may.kept may.lefts) (sym e ∙ no_twins) may.may;
}

-- ---- the turn

module _ {O B : Type 0} (keeping : Keeping ℕ O B) where
  -- these are lent, where they are no twins
  abbrev pub lending_to : Around → Machine → ℕ → ℕ → TermId → ℕ → List Frame → List (keepings.Loan ℕ) → Bool → B → O → List B → windows.Turned ℕ O B
  lending_to a m base at t bound rest loans twins d kept ls =
      if twins then stop_here (rules_of keeping a) (code_of a) None m.room base (rest_of keeping a m bound rest d ls) (memory_of a.heap m.values) (Guard stobj_let_word (indices loans)) (state_of keeping a kept m)
      else next (rules_of keeping a) (code_of a) m.room base (rest_of keeping a m bound rest d ls) (all_written (base + at) (map (λ (l : keepings.Loan ℕ). StobjNamed l.child) loans) (memory_of a.heap m.values))
      (windows.Producing at (all_borrowed a.heap (top bound m.loans)) (consumer_of (tree_in (trees_of a) t))) (windows.Begin (producer_of (tree_in (trees_of a) t)) base)
      (record (state_of keeping a kept m) { stobjs = keeping.lend loans kept })

  at_lending : (a : Around) (m : Machine) (f : Frame) (at : ℕ) (t : TermId) (bound : ℕ) (loans : List Loan) (b twins : Bool) (d : B) (kept : O) (ls : List B) → m.control ≡ control.Give → (first : IsFirst f m.frames) → f.step ≡ step.Borrowing at t bound
      → drop bound (children_of (tree_in (trees_of a) t)) ≡ [] → loans ≡ loans_in (top bound m.loans) → b ≡ are_twins by_number (seen_loans a.heap loans) → b ≡ twins
      → turned keeping a d kept ls m ≡ lending_to a m f.base at t bound first.rest (seen_loans a.heap loans) twins d kept ls
  at_lending a m f at t bound loans b twins d kept ls e first g none are q r =
      at_borrowing keeping a m f at t bound d kept ls e first g
      ∙ ap (λ cs. binding keeping a m f.base at t bound first.rest cs d kept ls) none
      ∙ ap (λ l. lending_to a m f.base at t bound first.rest l (are_twins by_number l) d kept ls) (loans_seen a.heap (top bound m.loans) ∙ sym (ap (seen_loans a.heap) are))
      ∙ ap (λ x. lending_to a m f.base at t bound first.rest (seen_loans a.heap loans) x d kept ls) (sym q ∙ r)

  pub stops_twins : (Keeps : O → List B → Type 0) (a : Around) (m n : Machine) (f : Frame) (at : ℕ) (t : TermId) (bound : ℕ) (loans : List Loan) (b : Bool)
      → m.control ≡ control.Give → IsFirst f m.frames → f.step ≡ step.Borrowing at t bound → drop bound (children_of (tree_in (trees_of a) t)) ≡ []
      → loans ≡ loans_in (top bound m.loans) → b ≡ are_twins by_number (seen_loans a.heap loans) → b ≡ true
      → n ≡ stopped (halt.Guard (record { 0 = stobj_let_word })) (again (step.Last None) (record m { given = all_indices loans; loans = below bound m.loans })) → TurnsTo keeping Keeps Keeps a a m n
  stops_twins Keeps a m n f at t bound loans b e first g none are q holds is = subst (λ x. TurnsTo keeping Keeps Keeps a a m x) (sym is)
      (keeps_all keeping Keeps a m _ (lefts_again (step.Last None) f m.frames first (sym (ap lefts_in g)))
      (λ d kept ls k.
      at_lending a m f at t bound loans b true d kept ls e first g none are q holds
      ∙ ap (λ vs. stop_here (rules_of keeping a) (code_of a) None m.room f.base (rest_of keeping a m bound first.rest d ls) (memory_of a.heap m.values) (Guard stobj_let_word vs) (state_of keeping a kept m)) (sym (all_indices_seen a.heap loans))
      ∙ again_as keeping a (stopped (halt.Guard (record { 0 = stobj_let_word })) (record m { given = all_indices loans; loans = below bound m.loans })) f (step.Last None) d kept ls first))

  pub lends_children : (Before After : O → List B → Type 0) (a : Around) (m n : Machine) (f : Frame) (at : ℕ) (t : TermId) (bound : ℕ) (loans : List Loan) (b : Bool) (producer consumer : TermId)
      → m.control ≡ control.Give → IsFirst f m.frames → f.step ≡ step.Borrowing at t bound → drop bound (children_of (tree_in (trees_of a) t)) ≡ []
      → loans ≡ loans_in (top bound m.loans) → b ≡ are_twins by_number (seen_loans a.heap loans) → b ≡ false
      → tree_in (trees_of a) producer ≡ producer_of (tree_in (trees_of a) t) → tree_in (trees_of a) consumer ≡ consumer_of (tree_in (trees_of a) t)
      → LendsAll f.base at bound loans producer consumer m n
      → ((kept : O) (ls : List B) → Before kept ls → After (keeping.lend (seen_loans a.heap loans) kept) ls) → TurnsTo keeping Before After a a m n
  lends_children Before After a m n f at t bound loans b producer consumer e first g none are q no_twins p c lends keeps = subst (λ x. TurnsTo keeping Before After a a m x) (sym lends.is)
      (changes keeping Before After (keeping.lend (seen_loans a.heap loans)) a a m _ (lefts_again (step.Producing at bound consumer) f m.frames first (sym (ap lefts_in g))) keeps
      (λ d kept ls k.
      at_lending a m f at t bound loans b false d kept ls e first g none are q no_twins
      ∙ ap (λ vs. lent_with d kept ls (all_written (f.base + at) vs (memory_of a.heap m.values)) (consumer_of (tree_in (trees_of a) t)) (producer_of (tree_in (trees_of a) t))) (sym (children_seen a.heap loans))
      ∙ ap (λ memory. lent_with d kept ls memory (consumer_of (tree_in (trees_of a) t)) (producer_of (tree_in (trees_of a) t))) (sym (memory_all_written a.heap (f.base + at) (children_in loans) m.values lends.values lends.writes))
      ∙ ap (λ tree. lent_with d kept ls (memory_of a.heap lends.values) tree (producer_of (tree_in (trees_of a) t))) (sym c)
      ∙ ap (lent_with d kept ls (memory_of a.heap lends.values) (tree_in (trees_of a) consumer)) (sym p)
      ∙ again_as keeping a (record m { values = lends.values; control = control.Begin producer f.base }) f (step.Producing at bound consumer) d (keeping.lend (seen_loans a.heap loans) kept) ls first))
    where
      lent_with : B → O → List B → Memory ℕ → trees.Tree → trees.Tree → windows.Turned ℕ O B
      lent_with d kept ls memory consumer producer =
          next (rules_of keeping a) (code_of a) m.room f.base (rest_of keeping a m bound first.rest d ls) memory (windows.Producing at (all_borrowed a.heap (top bound m.loans)) consumer) (windows.Begin producer f.base)
          (record (state_of keeping a kept m) { stobjs = keeping.lend (seen_loans a.heap loans) kept })
