-- The children that a `STOBJ-LET` binds: what a machine reads of them, and what it asks of a keeper.
use Rattle.std.specs.Prelude.{◌≡◌, ℕ, ◌+◌, List, [], ◌∷◌, ◌++◌, map, drop, Bool, true, false, Option, Some, None, option_map, unwrap_or, slice_get}
use Rattle.model_prims.specs.Kinds.{by_number}
use Rattle.model_terms.specs.Worlds.{World}
use Rattle.model_eval.specs.Outcomes as outcomes
use Rattle.model_eval.specs.Keeping as keepings
use Rattle.model_eval.specs.Keeping.{Keeping}
use Rattle.model_eval.specs.Lending.{field_number, are_twins}
use Rattle.model_slots.specs.Trees as trees
use Rattle.model_window.specs.Windows.{Memory}
use Rattle.model_window.specs.Frames as windows
use Rattle.model_window.specs.Turns.{put_next}
use Rattle.acl_base.specs.declared.SymId.{SymId}
use Rattle.acl_base.specs.declared.TermId.{TermId}
use Rattle.acl_base.specs.declared.Word.{Word}
use Rattle.acl_base.specs.declared.Word.TheVariants as word
use Rattle.acl_terms.specs.Definitions.{name_in}
use Rattle.acl_terms.specs.declared.definition.Definition.{Definition}
use Rattle.acl_terms.specs.declared.definition.Definition.TheVariants as definition
use Rattle.acl_terms.specs.declared.outcome.Shown.{Shown}
use Rattle.acl_terms.specs.declared.outcome.Shown.TheVariants as shown
use Rattle.acl_code.specs.declared.term.Operand.{Operand}
use Rattle.acl_code.specs.declared.term.Operand.TheVariants as operand
use Rattle.acl_code.specs.declared.term.Child.{Child}
use Rattle.acl_code.specs.Tables.{tree_in}
use Rattle.acl_keep.specs.declared.effect.Loan.{Loan}
use Rattle.acl_machine.specs.declared.frame.Borrowed.{Borrowed}
use Rattle.acl_machine.specs.declared.frame.Frame.{Frame}
use Rattle.acl_machine.specs.declared.frame.Step.{Step}
use Rattle.acl_machine.specs.declared.frame.Step.TheVariants as step
use Rattle.acl_machine.specs.declared.machine.Machine.{Machine}
use Rattle.acl_machine.specs.Cells.{cell, memory_of, top, below, WritesAll}
use Rattle.acl_machine.specs.Views.{Around, world_of, trees_of, code_of, all_borrowed, seen_frames, machine_of}
use Rattle.acl_machine.specs.Turns.{rules_of, IsFirst}
use Rattle.acl_machine.specs.Keeping.{all_lefts}
use Rattle.acl_machine.specs.Steps.{again, beginning}

-- ---- what is read

-- the value of a variable or a constant, in a window
abbrev pub operand_cell : List Shown → ℕ → Operand → Shown
operand_cell values base (operand.Slot s) = cell values (base + s)
operand_cell values base (operand.Const w) = shown.Value w

-- the word of a value; an object counts as NIL
abbrev pub index_word : Shown → Word
index_word (shown.Value w) = w
index_word (shown.Object x) = word.Sym (record { 0 = 1 })

-- the field of which a function is one
abbrev pub field_at : Option Definition → ℕ
field_at None = 0
field_at (Some (definition.Primitive name row arity)) = 0
field_at (Some (definition.Function f)) = 0
field_at (Some (definition.Macro m)) = 0
field_at (Some (definition.Constant name value)) = 0
field_at (Some (definition.Object descriptor layout class)) = 0
field_at (Some (definition.Generated f)) = unwrap_or f.field 0
field_at (Some (definition.Abstract descriptor)) = 0
field_at (Some (definition.OfAbstract f)) = 0
field_at (Some (definition.Named name formals)) = 0
field_at (Some (definition.Signed name formals signature executable)) = 0

-- the name of a function
abbrev pub name_at : Option Definition → ℕ
name_at None = 0
name_at (Some d) = name_in d

-- the loan of a child from this parent
abbrev pub loan_from : List Definition → List Shown → ℕ → SymId → Child → Loan
loan_from ds values base parent c = record {
  child = c.name;
  parent = parent;
  field = field_at (slice_get ds c.accessor.0);
  index = option_map (λ o. index_word (operand_cell values base o)) c.index;
}

abbrev pub loans_in : List Borrowed → List Loan
loans_in bs = map (λ (b : Borrowed). b.loan) bs

-- the children of loans, as values
abbrev pub children_in : List Loan → List Shown
children_in loans = map (λ (l : Loan). shown.Object l.child) loans

-- ---- what a guard refuses

abbrev pub index_cells : Option Word → List Shown
index_cells None = []
index_cells (Some w) = shown.Value w ∷ []

-- what an accessor was called on
abbrev pub loan_cells : Loan → List Shown
loan_cells l = index_cells l.index ++ shown.Object l.parent ∷ []

-- the indices in arrays, in order
abbrev pub all_indices : List Loan → List Shown
all_indices [] = []
all_indices (l ∷ ls) = index_cells l.index ++ all_indices ls

-- ---- what is asked of a keeper

-- the variable of a parent, in a window
abbrev pub parent_shown : Memory ℕ → ℕ → trees.Operand → outcomes.Shown ℕ
parent_shown memory base (trees.Slot s) = memory (base + s)
parent_shown memory base (trees.Const o) = outcomes.Plain o

module _ {O B : Type 0} where
  -- the field of a parent is asked for a child, where there is a parent
  abbrev pub MayReachIn : (ℕ → ℕ → O → List B → Type 0) → outcomes.Shown ℕ → ℕ → O → List B → Type 0
  MayReachIn reach (outcomes.Plain o) field = λ kept lefts. Unit {0}
  MayReachIn reach (outcomes.StobjNamed p) field = reach p field

  -- children are lent that are no twins
  abbrev pub MayLendOf : (List (keepings.Loan ℕ) → O → List B → Type 0) → Bool → List (keepings.Loan ℕ) → O → List B → Type 0
  MayLendOf lend true loans = λ kept lefts. Unit {0}
  MayLendOf lend false loans = lend loans

  -- with these children left to be bound, and these bound
  abbrev pub MayBorrow : (ℕ → ℕ → O → List B → Type 0) → (List (keepings.Loan ℕ) → O → List B → Type 0) → World → Memory ℕ → ℕ → List trees.Child → List (keepings.Loan ℕ) → O → List B → Type 0
  MayBorrow reach lend w memory base [] loans = MayLendOf lend (are_twins by_number loans) loans
  MayBorrow reach lend w memory base (c ∷ cs) loans = MayReachIn reach (parent_shown memory base c.parent) (field_number (slice_get w c.accessor))

-- ---- children that are lent

-- children are lent: they are written from a slot on, and the producer begins
pub record LendsAll (base at bound : ℕ) (loans : List Loan) (producer consumer : TermId) (old new : Machine) : Type 0 where
  pub values : List Shown
  pub writes : WritesAll (base + at) (children_in loans) old.values values
  pub is : new ≡ beginning producer base (again (step.Producing at bound consumer) (record old { values = values }))

-- ---- children that are put back

-- a form that has lent so many
abbrev pub HasLent : ℕ → Step → Type 0
HasLent n (step.Test held other) = ⊥
HasLent n (step.Parts at count next left goal) = ⊥
HasLent n (step.Several at body) = ⊥
HasLent n (step.Calling at function count) = ⊥
HasLent n (step.Guarding inside function names) = ⊥
HasLent n (step.Running inside function names) = ⊥
HasLent n (step.Allowing function names number) = ⊥
HasLent n (step.Exporting function names number) = ⊥
HasLent n (step.Borrowing at term bound) = ⊥
HasLent n (step.Producing at loans consumer) = n ≡ loans
HasLent n (step.Putting at put loans consumer) = n ≡ loans
HasLent n (step.Local at body) = ⊥
HasLent n (step.Last inside) = ⊥

module _ {O B : Type 0} (keeping : Keeping ℕ O B) where
  -- the next child of so many that are lent is put back, behind so many, or the consumer begins: from these things that are kept
  pub record PutTo (After : O → List B → Type 0) (a : Around) (base at put n : ℕ) (consumer : TermId) (rest : List Frame) (old new : Machine) (d : B) (kept : O) (lefts : List B) : Type 0 where
    pub later : O
    pub keeps : After later lefts
    pub is : put_next (rules_of keeping a) (code_of a) old.room base (seen_frames a.heap (world_of a) (trees_of a) (code_of a) d lefts old.names (below n old.loans) rest) (memory_of a.heap old.values) at
        (drop put (all_borrowed a.heap (top n old.loans))) (all_borrowed a.heap (top n old.loans)) (tree_in (trees_of a) consumer) (record { stobjs = kept; symbols = a.table.symbols; calls = old.calls; outer = old.outer })
        ≡ windows.Going (machine_of a d later lefts new)

  -- the same, whatever was kept before
  pub record PutsTo (Before After : O → List B → Type 0) (a : Around) (base at put n : ℕ) (consumer : TermId) (rest : List Frame) (old new : Machine) : Type 0 where
    pub behind : all_lefts new.frames ≡ all_lefts rest
    pub puts : (d : B) (kept : O) (lefts : List B) → Before kept lefts → PutTo After a base at put n consumer rest old new d kept lefts
