-- The stack of values as what it has at each number; what lies behind its end is NIL.
use Rattle.std.specs.Prelude.{◌≡◌, ℕ, zero, suc, ◌+◌, ◌-◌, List, [], ◌∷◌, length, take, drop, get_or, nat_eq, if◌then◌else◌}
use Rattle.acl_base.specs.declared.Word.{Word}
use Rattle.acl_base.specs.declared.Word.TheVariants as word
use Rattle.acl_heap.specs.Objects.{Objects}
use Rattle.acl_terms.specs.declared.outcome.Shown.{Shown}
use Rattle.acl_terms.specs.declared.outcome.Shown.TheVariants as shown
use Rattle.model_window.specs.Windows.{Memory}
use Rattle.model_symbols.specs.Symbols.{Table}
use Rattle.acl_forms.specs.Forms.{IsWhole}
use Rattle.acl_keep.specs.Seen.{seen_shown}

-- what lies behind the end
abbrev pub nil_there : Shown
nil_there = shown.Value (word.Sym (record { 0 = 1 }))

abbrev pub cell : List Shown → ℕ → Shown
cell values i = get_or values i nil_there

abbrev pub memory_of : Objects → List Shown → Memory ℕ
memory_of h values i = seen_shown h (cell values i)

-- one value was written
pub record Writes (at : ℕ) (v : Shown) (old new : List Shown) : Type 0 where
  pub cells : (i : ℕ) → cell new i ≡ (if nat_eq i at then v else cell old i)

-- so many cells from this number on
abbrev pub cells_from : List Shown → ℕ → ℕ → List Shown
cells_from values at zero = []
cells_from values at (suc n) = cell values at ∷ cells_from values (at + 1) n

-- what the last frame has of a stack, and what is below it
abbrev pub top : {X : Type 0} → ℕ → List X → List X
top n xs = drop (length xs - n) xs

abbrev pub below : {X : Type 0} → ℕ → List X → List X
below n xs = take (length xs - n) xs

-- ---- several values, one behind the other

abbrev pub written_cell : ℕ → Shown → (ℕ → Shown) → ℕ → Shown
written_cell at v cells i = if nat_eq i at then v else cells i

abbrev pub all_cells : ℕ → List Shown → (ℕ → Shown) → ℕ → Shown
all_cells at [] cells = cells
all_cells at (v ∷ vs) cells = written_cell at v (all_cells (at + 1) vs cells)

-- these values were written
pub record WritesAll (at : ℕ) (vs : List Shown) (old new : List Shown) : Type 0 where
  pub cells : (i : ℕ) → cell new i ≡ all_cells at vs (cell old) i

-- ---- words

-- a value's word lies in the heap, and its symbols are known
abbrev pub ShownWhole : Table → Objects → Shown → Type 0
ShownWhole t h (shown.Value w) = IsWhole t h w
ShownWhole t h (shown.Object x) = Unit {0}

-- so do those of all values
pub record AreWholeCells (t : Table) (h : Objects) (values : List Shown) : Type 0 where
  pub whole : (i : ℕ) → ShownWhole t h (cell values i)

-- the word of an ordinary value
abbrev pub word_in : Shown → List Word
word_in (shown.Value w) = w ∷ []
word_in (shown.Object x) = []
