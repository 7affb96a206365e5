-- What the next turn of a machine asks of a keeper: told by what is done next, and by the innermost frame.
use Rattle.std.specs.Prelude.{ℕ, ◌+◌, List, [], ◌∷◌, length, drop, Option, Some, None, slice_get}
use Rattle.model_terms.specs.Worlds.{World}
use Rattle.model_eval.specs.Keeping as keepings
use Rattle.model_eval.specs.Keeping.{Keeping}
use Rattle.model_slots.specs.Trees as trees
use Rattle.model_slots.specs.Trees.{Tree}
use Rattle.acl_base.specs.declared.FnId.{FnId}
use Rattle.acl_terms.specs.Forms.{numbers}
use Rattle.acl_terms.specs.Definitions.{seen_generated}
use Rattle.acl_terms.specs.declared.definition.Definition.{Definition}
use Rattle.acl_terms.specs.declared.definition.Definition.TheVariants as definition
use Rattle.acl_code.specs.Tables.{tree_in}
use Rattle.acl_keep.specs.Seen.{all_seen, seen_loans}
use Rattle.acl_keep.specs.Calls.{Called}
use Rattle.acl_machine.specs.declared.frame.Inside.{Inside}
use Rattle.acl_machine.specs.declared.frame.Step.{Step}
use Rattle.acl_machine.specs.declared.frame.Step.TheVariants as step
use Rattle.acl_machine.specs.declared.frame.Frame.{Frame}
use Rattle.acl_machine.specs.declared.frame.Control.{Control}
use Rattle.acl_machine.specs.declared.frame.Control.TheVariants as control
use Rattle.acl_machine.specs.declared.machine.Machine.{Machine}
use Rattle.acl_machine.specs.Cells.{cells_from, memory_of, top}
use Rattle.acl_machine.specs.Views.{Around, world_of, trees_of, children_of}
use Rattle.acl_machine.specs.Keeping.{Goes, MayGo}
use Rattle.acl_call_turns.specs.Calls.{formals_at, actuals_for, MayThen}
use Rattle.acl_object_turns.specs.Children.{loans_in, MayBorrow}
use Rattle.acl_exec_turns.specs.Execs.{MayExec}

-- ---- a term begins: a local object is made

module _ {O B : Type 0} (MayMake : World → ℕ → O → List B → Type 0) (a : Around) where
  unfoldable pub AsksBeginning : Tree → O → List B → Type 0
  AsksBeginning (trees.Leaf operand) = λ kept lefts. Unit {0}
  AsksBeginning (trees.If s test held other) = λ kept lefts. Unit {0}
  AsksBeginning (trees.Let s bound body) = λ kept lefts. Unit {0}
  AsksBeginning (trees.Mv s parts) = λ kept lefts. Unit {0}
  AsksBeginning (trees.MvLet s bound body) = λ kept lefts. Unit {0}
  AsksBeginning (trees.StobjLet s children producer consumer) = λ kept lefts. Unit {0}
  AsksBeginning (trees.WithLocal s stobj producer body) = MayMake (world_of a) stobj
  AsksBeginning (trees.MustBeEqual logic) = λ kept lefts. Unit {0}
  AsksBeginning (trees.Call s n actuals) = λ kept lefts. Unit {0}

-- ---- a call, once all actuals have values: a function that an object comes with is called

module _ {O B : Type 0} (MayCall : Called → O → List B → Type 0) (a : Around) (m : Machine) where
  -- of what has this definition, whose actuals lie from this number on, so many
  unfoldable pub AsksCalling : ℕ → ℕ → Option Definition → O → List B → Type 0
  AsksCalling base count None = λ kept lefts. Unit {0}
  AsksCalling base count (Some (definition.Primitive name row arity)) = λ kept lefts. Unit {0}
  AsksCalling base count (Some (definition.Function f)) = λ kept lefts. Unit {0}
  AsksCalling base count (Some (definition.Macro f)) = λ kept lefts. Unit {0}
  AsksCalling base count (Some (definition.Constant name value)) = λ kept lefts. Unit {0}
  AsksCalling base count (Some (definition.Object descriptor layout class)) = λ kept lefts. Unit {0}
  AsksCalling base count (Some (definition.Generated f)) =
      MayCall (record { world = world_of a; function = seen_generated f; values = all_seen a.heap (cells_from m.values base count) })
  AsksCalling base count (Some (definition.Abstract descriptor)) = λ kept lefts. Unit {0}
  AsksCalling base count (Some (definition.OfAbstract f)) = λ kept lefts. Unit {0}
  AsksCalling base count (Some (definition.Named name formals)) = λ kept lefts. Unit {0}
  AsksCalling base count (Some (definition.Signed name formals signature executable)) = λ kept lefts. Unit {0}

-- ---- a form goes on with the values that it waited for

module _ {O B : Type 0} (keeping : Keeping ℕ O B) (MayCall : Called → O → List B → Type 0) (MayReach : ℕ → ℕ → O → List B → Type 0) (MayLend : List (keepings.Loan ℕ) → O → List B → Type 0) (MayUnmake : O → List B → Type 0) (a : Around) (m : Machine) where
  unfoldable pub AsksResuming : ℕ → Step → O → List B → Type 0
  AsksResuming base (step.Test held other) = λ kept lefts. Unit {0}
  AsksResuming base (step.Parts at count next left goal) = λ kept lefts. Unit {0}
  AsksResuming base (step.Several at body) = λ kept lefts. Unit {0}
  AsksResuming base (step.Calling at function count) = AsksCalling MayCall a m (base + at) count (slice_get a.content.definitions function.0)
  AsksResuming base (step.Guarding inside function names) = λ kept lefts. Unit {0}
  AsksResuming base (step.Running inside function names) = λ kept lefts. Unit {0}
  AsksResuming base (step.Allowing function names number) = λ kept lefts. Unit {0}
  AsksResuming base (step.Exporting function names number) = MayExec keeping MayCall a.heap a.content function base names m
  AsksResuming base (step.Borrowing at term bound) =
      MayBorrow MayReach MayLend (world_of a) (memory_of a.heap m.values) base (drop bound (children_of (tree_in (trees_of a) term))) (seen_loans a.heap (loans_in (top bound m.loans)))
  AsksResuming base (step.Producing at loans consumer) = λ kept lefts. Unit {0}
  AsksResuming base (step.Putting at put loans consumer) = λ kept lefts. Unit {0}
  AsksResuming base (step.Local at body) = MayUnmake
  AsksResuming base (step.Last inside) = λ kept lefts. Unit {0}

-- ---- a stop closes a form: the work of an export is undone, a local object taken away

module _ {O B : Type 0} (keeping : Keeping ℕ O B) (MayUnmake MayAbandon : O → List B → Type 0) (a : Around) (m : Machine) where
  -- a call is closed, inside an export or not
  unfoldable pub AsksUndoing : Option Inside → FnId → ℕ → ℕ → O → List B → Type 0
  AsksUndoing None function names base = λ kept lefts. Unit {0}
  AsksUndoing (Some x) function names base = MayThen keeping MayAbandon (numbers (formals_at a.content function)) (all_seen a.heap (actuals_for a.content function base names m))

  unfoldable pub AsksClosing : ℕ → Step → O → List B → Type 0
  AsksClosing base (step.Test held other) = λ kept lefts. Unit {0}
  AsksClosing base (step.Parts at count next left goal) = λ kept lefts. Unit {0}
  AsksClosing base (step.Several at body) = λ kept lefts. Unit {0}
  AsksClosing base (step.Calling at function count) = λ kept lefts. Unit {0}
  AsksClosing base (step.Guarding inside function names) = AsksUndoing inside function names base
  AsksClosing base (step.Running inside function names) = AsksUndoing inside function names base
  AsksClosing base (step.Allowing function names number) = λ kept lefts. Unit {0}
  AsksClosing base (step.Exporting function names number) = λ kept lefts. Unit {0}
  AsksClosing base (step.Borrowing at term bound) = λ kept lefts. Unit {0}
  AsksClosing base (step.Producing at loans consumer) = λ kept lefts. Unit {0}
  AsksClosing base (step.Putting at put loans consumer) = λ kept lefts. Unit {0}
  AsksClosing base (step.Local at body) = MayUnmake
  AsksClosing base (step.Last None) = λ kept lefts. Unit {0}
  AsksClosing base (step.Last (Some x)) = MayAbandon

-- ---- any turn

module _ {O B : Type 0} where
  -- by the innermost frame, where there is one
  abbrev pub AsksFirst : (ℕ → Step → O → List B → Type 0) → List Frame → O → List B → Type 0
  AsksFirst asks [] = λ kept lefts. Unit {0}
  AsksFirst asks (f ∷ fs) = asks f.base f.step

module _ {O B : Type 0} (keeping : Keeping ℕ O B) (MayCall : Called → O → List B → Type 0) (MayReach : ℕ → ℕ → O → List B → Type 0) (MayLend : List (keepings.Loan ℕ) → O → List B → Type 0) (MayMake : World → ℕ → O → List B → Type 0) (MayUnmake MayAbandon : O → List B → Type 0) where
  unfoldable pub AsksBy : Around → Machine → Control → List Frame → O → List B → Type 0
  AsksBy a m (control.Begin t base) frames = AsksBeginning MayMake a (tree_in (trees_of a) t)
  AsksBy a m control.Give frames = AsksFirst (AsksResuming keeping MayCall MayReach MayLend MayUnmake a m) frames
  AsksBy a m (control.Stopped why) frames = AsksFirst (AsksClosing keeping MayUnmake MayAbandon a m) frames

  abbrev pub Asks : Around → Machine → O → List B → Type 0
  Asks a m = AsksBy a m m.control m.frames

  -- the next turn may be taken: what it asks is met by something that is kept with the machine
  pub record MayTurn (Keeps : O → List B → Type 0) (a : Around) (m : Machine) : Type 0 where
    pub may : MayGo Keeps (Asks a m) m

  -- all that any turn may ask is met, whatever is kept
  pub record AsksNothing : Type 0 where
    pub call : (c : Called) (kept : O) (lefts : List B) → MayCall c kept lefts
    pub reach : (parent field : ℕ) (kept : O) (lefts : List B) → MayReach parent field kept lefts
    pub lend : (loans : List (keepings.Loan ℕ)) (kept : O) (lefts : List B) → MayLend loans kept lefts
    pub make : (w : World) (stobj : ℕ) (kept : O) (lefts : List B) → MayMake w stobj kept lefts
    pub unmake : (kept : O) (lefts : List B) → MayUnmake kept lefts
    pub abandon : (kept : O) (lefts : List B) → MayAbandon kept lefts
