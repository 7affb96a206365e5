-- What a turn asks of a keeper, by what the innermost frame waits for.
use Rattle.std.proofs.Common.{◌≡◌, ℕ, ◌+◌, List, [], ◌∷◌, length, drop, refl, sym, ap, ◌∙◌, subst}
use Rattle.std.specs.Prelude.{Option, Some, None, slice_get}
use Rattle.model_symbols.specs.Symbols.{Table}
use Rattle.model_terms.specs.Worlds.{World}
use Rattle.model_eval.specs.Keeping as keepings
use Rattle.model_eval.specs.Keeping.{Keeping}
use Rattle.model_slots.specs.Trees as trees
use Rattle.model_slots.specs.Trees.{Tree}
use Rattle.acl_base.specs.declared.FnId.{FnId}
use Rattle.acl_base.specs.declared.SymId.{SymId}
use Rattle.acl_base.specs.declared.TermId.{TermId}
use Rattle.acl_heap.specs.Objects.{Objects}
use Rattle.acl_terms.specs.Forms.{numbers}
use Rattle.acl_terms.specs.Definitions.{seen_generated}
use Rattle.acl_terms.specs.declared.definition.GeneratedFunction.{GeneratedFunction}
use Rattle.acl_terms.specs.declared.definition.Definition.{Definition}
use Rattle.acl_terms.specs.declared.definition.Definition.TheVariants as definition
use Rattle.acl_worlds.specs.Contents.{Content, seen_world}
use Rattle.acl_code.specs.declared.term.Term.{Term}
use Rattle.acl_code.specs.declared.term.Term.TheVariants as term
use Rattle.acl_code.specs.Tables.{IsTable, forest, tree_in, tree_at, tree_over}
use Rattle.acl_code.proofs.TableLemmas.{tree_over_table}
use Rattle.acl_keep.specs.Seen.{all_seen, seen_loans}
use Rattle.acl_keep.specs.Calls.{Called}
use Rattle.acl_machine.specs.declared.frame.Inside.{Inside}
use Rattle.acl_machine.specs.declared.frame.Step.{Step}
use Rattle.acl_machine.specs.declared.frame.Step.TheVariants as step
use Rattle.acl_machine.specs.declared.machine.Machine.{Machine}
use Rattle.acl_machine.specs.Cells.{cells_from, memory_of, top}
use Rattle.acl_machine.specs.Views.{Around, around, world_of, trees_of, children_of}
use Rattle.acl_machine.specs.Keeping.{Goes, MayGo}
use Rattle.acl_call_turns.specs.Calls.{formals_at, actuals_for, IsInCall, MayThen}
use Rattle.acl_object_turns.specs.Children.{loans_in, MayBorrow}
use Rattle.acl_exec_turns.specs.Execs.{MayExec}
use Rattle.acl_turns.specs.Asking.{AsksBeginning, AsksCalling, AsksResuming, AsksUndoing, AsksClosing}

pub in_no_export : (inside : Option Inside) (g : FnId) (n : ℕ) (s : Step) → inside ≡ None → IsInCall inside g n s → IsInCall None g n s
in_no_export inside g n s e c = subst (λ i. IsInCall i g n s) e c

pub in_export : (inside : Option Inside) (x : Inside) (g : FnId) (n : ℕ) (s : Step) → inside ≡ Some x → IsInCall inside g n s → IsInCall (Some x) g n s
in_export inside x g n s e c = subst (λ i. IsInCall i g n s) e c

module _ {O B : Type 0} (keeping : Keeping ℕ O B) (MayUnmake MayAbandon Keeps : O → List B → Type 0) (h : Objects) (w : Content) (ts : List Term) (t : Table) (limit : ℕ) (m : Machine) where
  pub may_undo : (inside : Option Inside) (x : Inside) (g : FnId) (n base : ℕ) → inside ≡ Some x
      → MayGo Keeps (AsksUndoing keeping MayUnmake MayAbandon (around h w ts t limit) m inside g n base) m → MayGo Keeps (MayThen keeping MayAbandon (numbers (formals_at w g)) (all_seen h (actuals_for w g base n m))) m
  unfolding AsksUndoing
  may_undo inside x g n base e may = subst (λ i. MayGo Keeps (AsksUndoing keeping MayUnmake MayAbandon (around h w ts t limit) m i g n base) m) e may

  pub may_close_guard : (s : Step) (inside : Option Inside) (g : FnId) (n base : ℕ) → s ≡ step.Guarding inside g n
      → MayGo Keeps (AsksClosing keeping MayUnmake MayAbandon (around h w ts t limit) m base s) m → MayGo Keeps (AsksUndoing keeping MayUnmake MayAbandon (around h w ts t limit) m inside g n base) m
  unfolding AsksClosing
  may_close_guard s inside g n base e may = subst (λ i. MayGo Keeps (AsksClosing keeping MayUnmake MayAbandon (around h w ts t limit) m base i) m) e may

  pub may_close_body : (s : Step) (inside : Option Inside) (g : FnId) (n base : ℕ) → s ≡ step.Running inside g n
      → MayGo Keeps (AsksClosing keeping MayUnmake MayAbandon (around h w ts t limit) m base s) m → MayGo Keeps (AsksUndoing keeping MayUnmake MayAbandon (around h w ts t limit) m inside g n base) m
  unfolding AsksClosing
  may_close_body s inside g n base e may = subst (λ i. MayGo Keeps (AsksClosing keeping MayUnmake MayAbandon (around h w ts t limit) m base i) m) e may

  pub may_close_local : (s : Step) (at : ℕ) (body : TermId) (base : ℕ) → s ≡ step.Local at body
      → MayGo Keeps (AsksClosing keeping MayUnmake MayAbandon (around h w ts t limit) m base s) m → MayGo Keeps MayUnmake m
  unfolding AsksClosing
  may_close_local s at body base e may = subst (λ i. MayGo Keeps (AsksClosing keeping MayUnmake MayAbandon (around h w ts t limit) m base i) m) e may

  pub may_close_export : (s : Step) (x : Inside) (base : ℕ) → s ≡ step.Last (Some x)
      → MayGo Keeps (AsksClosing keeping MayUnmake MayAbandon (around h w ts t limit) m base s) m → MayGo Keeps MayAbandon m
  unfolding AsksClosing
  may_close_export s x base e may = subst (λ i. MayGo Keeps (AsksClosing keeping MayUnmake MayAbandon (around h w ts t limit) m base i) m) e may

module _ {O B : Type 0} (MayCall : Called → O → List B → Type 0) (Keeps : O → List B → Type 0) (h : Objects) (w : Content) (ts : List Term) (t : Table) (limit : ℕ) (m : Machine) where
  pub may_generated : (what : Option Definition) (f : GeneratedFunction) (base count : ℕ) → what ≡ Some (definition.Generated f)
      → MayGo Keeps (AsksCalling MayCall (around h w ts t limit) m base count what) m
      → MayGo Keeps (MayCall (record { world = seen_world h w; function = seen_generated f; values = all_seen h (cells_from m.values base count) })) m
  unfolding AsksCalling
  may_generated what f base count e may = subst (λ i. MayGo Keeps (AsksCalling MayCall (around h w ts t limit) m base count i) m) e may

module _ {O B : Type 0} (keeping : Keeping ℕ O B) (MayCall : Called → O → List B → Type 0) (MayReach : ℕ → ℕ → O → List B → Type 0) (MayLend : List (keepings.Loan ℕ) → O → List B → Type 0) (MayUnmake Keeps : O → List B → Type 0)
    (h : Objects) (w : Content) (ts : List Term) (t : Table) (limit : ℕ) (m : Machine) where
  pub may_call : (s : Step) (at : ℕ) (g : FnId) (count base : ℕ) → s ≡ step.Calling at g count
      → MayGo Keeps (AsksResuming keeping MayCall MayReach MayLend MayUnmake (around h w ts t limit) m base s) m
      → MayGo Keeps (AsksCalling MayCall (around h w ts t limit) m (base + at) count (slice_get w.definitions g.0)) m
  unfolding AsksResuming
  may_call s at g count base e may = subst (λ i. MayGo Keeps (AsksResuming keeping MayCall MayReach MayLend MayUnmake (around h w ts t limit) m base i) m) e may

  pub may_exec : (s : Step) (g : FnId) (n number base : ℕ) → s ≡ step.Exporting g n number
      → MayGo Keeps (AsksResuming keeping MayCall MayReach MayLend MayUnmake (around h w ts t limit) m base s) m
      → MayGo Keeps (MayExec keeping MayCall h w g base n m) m
  unfolding AsksResuming
  may_exec s g n number base e may = subst (λ i. MayGo Keeps (AsksResuming keeping MayCall MayReach MayLend MayUnmake (around h w ts t limit) m base i) m) e may

  pub may_borrow : (s : Step) (at : ℕ) (u : TermId) (bound base : ℕ) → s ≡ step.Borrowing at u bound
      → MayGo Keeps (AsksResuming keeping MayCall MayReach MayLend MayUnmake (around h w ts t limit) m base s) m
      → MayGo Keeps (MayBorrow MayReach MayLend (seen_world h w) (memory_of h m.values) base (drop bound (children_of (tree_at h ts u))) (seen_loans h (loans_in (top bound m.loans)))) m
  unfolding AsksResuming
  may_borrow s at u bound base e may = subst (λ i. MayGo Keeps (AsksResuming keeping MayCall MayReach MayLend MayUnmake (around h w ts t limit) m base i) m) e may

  pub may_unmake : (s : Step) (at : ℕ) (body : TermId) (base : ℕ) → s ≡ step.Local at body
      → MayGo Keeps (AsksResuming keeping MayCall MayReach MayLend MayUnmake (around h w ts t limit) m base s) m → MayGo Keeps MayUnmake m
  unfolding AsksResuming
  may_unmake s at body base e may = subst (λ i. MayGo Keeps (AsksResuming keeping MayCall MayReach MayLend MayUnmake (around h w ts t limit) m base i) m) e may

module _ {O B : Type 0} (MayMake : World → ℕ → O → List B → Type 0) (Keeps : O → List B → Type 0) (h : Objects) (w : Content) (ts : List Term) (t : Table) (limit : ℕ) (m : Machine) where
  pub may_make : (u : TermId) (at : ℕ) (stobj : SymId) (producer body : TermId) → IsTable ts → slice_get ts u.0 ≡ Some (term.WithLocal at stobj producer body)
      → MayGo Keeps (AsksBeginning MayMake (around h w ts t limit) (tree_at h ts u)) m → MayGo Keeps (MayMake (seen_world h w) stobj.0) m
  unfolding AsksBeginning
  may_make u at stobj producer body i e may =
      subst (λ x. MayGo Keeps (AsksBeginning MayMake (around h w ts t limit) x) m) (tree_over_table h ts (term.WithLocal at stobj producer body) u i e) may
