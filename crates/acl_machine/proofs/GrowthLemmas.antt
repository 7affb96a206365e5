-- What a machine stands for as the heap grows.
use Rattle.std.proofs.Common.{◌≡◌, ℕ, zero, suc, ◌+◌, ◌-◌, List, [], ◌∷◌, length, take, drop, refl, ap, ◌∙◌}
use Rattle.std.proofs.Math.Path.{fun_ext}
use Rattle.std.specs.Prelude.{Option, Some, None, option_map}
use Rattle.model_terms.specs.Worlds.{World}
use Rattle.model_symbols.specs.Symbols.{Table}
use Rattle.model_slots.specs.Trees.{Tree}
use Rattle.model_window.specs.Frames as windows
use Rattle.model_window.specs.Frames.{Code}
use Rattle.acl_base.specs.declared.SymId.{SymId}
use Rattle.acl_base.specs.declared.Word.{Word}
use Rattle.acl_heap.specs.Objects.{Objects, object_of, Extends}
use Rattle.acl_terms.specs.declared.outcome.Shown.{Shown}
use Rattle.acl_terms.specs.declared.outcome.Shown.TheVariants as shown
use Rattle.model_eval.specs.Outcomes as outcomes
use Rattle.acl_code.specs.Tables.{tree_in}
use Rattle.acl_keep.specs.Seen.{seen_shown, all_seen}
use Rattle.acl_machine.specs.declared.frame.Step.{Step}
use Rattle.acl_machine.specs.declared.frame.Step.TheVariants as step
use Rattle.acl_machine.specs.declared.frame.Frame.{Frame}
use Rattle.acl_machine.specs.declared.frame.Borrowed.{Borrowed}
use Rattle.acl_machine.specs.Cells.{cell, cells_from, memory_of, top, ShownWhole, AreWholeCells}
use Rattle.acl_machine.specs.Views.{children_of, producer_of, consumer_of, seen_borrowed, all_borrowed, lefts_below, names_below, loans_below, seen_step, seen_frames}
use Rattle.acl_machine.specs.Steps.{LoanWhole, LoansWhole}

module _ (h h' : Objects) (grows : Extends h h') where
  same_shown : (t : Table) (v : Shown) → ShownWhole t h v → seen_shown h' v ≡ seen_shown h v
  same_shown t (shown.Value w) i = ap outcomes.Plain (grows.same w i.lies)
  same_shown t (shown.Object x) i = refl

  pub same_memory : (t : Table) (values : List Shown) → AreWholeCells t h values → memory_of h' values ≡ memory_of h values
  same_memory t values a = fun_ext (λ i. same_shown t (cell values i) (a.whole i))

  pub same_cells : (t : Table) (values : List Shown) (at n : ℕ) → AreWholeCells t h values → all_seen h' (cells_from values at n) ≡ all_seen h (cells_from values at n)
  same_cells t values at zero a = refl
  same_cells t values at (suc n) a =
      ap (λ v. v ∷ all_seen h' (cells_from values (at + 1) n)) (same_shown t (cell values at) (a.whole at))
      ∙ ap (λ l. seen_shown h (cell values at) ∷ l) (same_cells t values (at + 1) n a)

  same_index : (t : Table) (index : Option Word) → LoanWhole t h index → option_map (object_of h') index ≡ option_map (object_of h) index
  same_index t None l = refl
  same_index t (Some w) l = ap Some (grows.same w l.lies)

  same_borrowed : (t : Table) (b : Borrowed) → LoanWhole t h b.loan.index → seen_borrowed h' b ≡ seen_borrowed h b
  same_borrowed t b l = ap (λ i. record { loan = record { child = b.loan.child.0; parent = b.loan.parent.0; field = b.loan.field; index = i }; returns = b.returns }) (same_index t b.loan.index l)

  same_loans : (t : Table) (bs : List Borrowed) → LoansWhole t h bs → all_borrowed h' bs ≡ all_borrowed h bs
  same_loans t [] l = refl
  same_loans t (b ∷ bs) l = ap (λ x. x ∷ all_borrowed h' bs) (same_borrowed t b l.0) ∙ ap (λ xs. seen_borrowed h b ∷ xs) (same_loans t bs l.1)

  lie_take : (t : Table) (n : ℕ) (bs : List Borrowed) → LoansWhole t h bs → LoansWhole t h (take n bs)
  lie_take t zero [] l = tt
  lie_take t zero (b ∷ bs) l = tt
  lie_take t (suc n) [] l = tt
  lie_take t (suc n) (b ∷ bs) l = (l.0, lie_take t n bs l.1)

  lie_drop : (t : Table) (n : ℕ) (bs : List Borrowed) → LoansWhole t h bs → LoansWhole t h (drop n bs)
  lie_drop t zero [] l = tt
  lie_drop t zero (b ∷ bs) l = l
  lie_drop t (suc n) [] l = tt
  lie_drop t (suc n) (b ∷ bs) l = lie_drop t n bs l.1

  lie_below : (t : Table) (s : Step) (bs : List Borrowed) → LoansWhole t h bs → LoansWhole t h (loans_below s bs)
  lie_below t (step.Test held other) bs l = l
  lie_below t (step.Parts at count next left g) bs l = l
  lie_below t (step.Several at body) bs l = l
  lie_below t (step.Calling at function count) bs l = l
  lie_below t (step.Guarding inside function names) bs l = l
  lie_below t (step.Running inside function names) bs l = l
  lie_below t (step.Allowing function names number) bs l = l
  lie_below t (step.Exporting function names number) bs l = l
  lie_below t (step.Borrowing at term bound) bs l = lie_take t (length bs - bound) bs l
  lie_below t (step.Producing at loans consumer) bs l = lie_take t (length bs - loans) bs l
  lie_below t (step.Putting at put loans consumer) bs l = lie_take t (length bs - loans) bs l
  lie_below t (step.Local at body) bs l = l
  lie_below t (step.Last inside) bs l = l

  module _ {B : Type 0} (t : Table) (w : World) (ts : List Tree) (code : Code) (d : B) where
    same_step : (ls : List B) (names : List SymId) (bs : List Borrowed) (s : Step) → LoansWhole t h bs → seen_step h' w ts code d ls names bs s ≡ seen_step h w ts code d ls names bs s
    same_step ls names bs (step.Test held other) l = refl
    same_step ls names bs (step.Parts at count next left g) l = refl
    same_step ls names bs (step.Several at body) l = refl
    same_step ls names bs (step.Calling at function count) l = refl
    same_step ls names bs (step.Guarding inside function n) l = refl
    same_step ls names bs (step.Running inside function n) l = refl
    same_step ls names bs (step.Allowing function n number) l = refl
    same_step ls names bs (step.Exporting function n number) l = refl
    same_step ls names bs (step.Borrowing at term bound) l =
        ap (λ x. windows.Borrowing at (drop bound (children_of (tree_in ts term))) x (producer_of (tree_in ts term)) (consumer_of (tree_in ts term))) (same_loans t (top bound bs) (lie_drop t (length bs - bound) bs l))
    same_step ls names bs (step.Producing at n consumer) l = ap (λ x. windows.Producing at x (tree_in ts consumer)) (same_loans t (top n bs) (lie_drop t (length bs - n) bs l))
    same_step ls names bs (step.Putting at put n consumer) l = ap (λ x. windows.Putting at (drop put x) x (tree_in ts consumer)) (same_loans t (top n bs) (lie_drop t (length bs - n) bs l))
    same_step ls names bs (step.Local at body) l = refl
    same_step ls names bs (step.Last inside) l = refl

    pub same_frames : (ls : List B) (names : List SymId) (bs : List Borrowed) (fs : List Frame) → LoansWhole t h bs → seen_frames h' w ts code d ls names bs fs ≡ seen_frames h w ts code d ls names bs fs
    same_frames ls names bs [] l = refl
    same_frames ls names bs (f ∷ fs) l =
        ap (λ s. record { step = s; base = f.base } ∷ seen_frames h' w ts code d (lefts_below f.step ls) (names_below f.step names) (loans_below f.step bs) fs) (same_step ls names bs f.step l)
        ∙ ap (λ xs. record { step = seen_step h w ts code d ls names bs f.step; base = f.base } ∷ xs) (same_frames (lefts_below f.step ls) (names_below f.step names) (loans_below f.step bs) fs (lie_below t f.step bs l))
