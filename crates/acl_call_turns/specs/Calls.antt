-- Calls that are entered and left: what is read in a world, and what becomes of a machine and of what is kept.
use Rattle.std.specs.Prelude.{◌≡◌, ◌⊎◌, ℕ, ◌+◌, List, [], ◌∷◌, length, Option, Some, None, slice_get}
use Rattle.model_eval.specs.Outcomes as outcomes
use Rattle.model_eval.specs.Keeping.{Keeping}
use Rattle.acl_base.specs.declared.SymId.{SymId}
use Rattle.acl_base.specs.declared.FnId.{FnId}
use Rattle.acl_base.specs.declared.TermId.{TermId}
use Rattle.acl_terms.specs.declared.outcome.Shown.{Shown}
use Rattle.acl_terms.specs.declared.definition.Definition.{Definition}
use Rattle.acl_terms.specs.declared.definition.Definition.TheVariants as definition
use Rattle.acl_terms.specs.Definitions.{name_in}
use Rattle.acl_worlds.specs.Contents.{Content}
use Rattle.acl_machine.specs.declared.frame.Inside.{Inside}
use Rattle.acl_machine.specs.declared.frame.Step.{Step}
use Rattle.acl_machine.specs.declared.frame.Step.TheVariants as step
use Rattle.acl_machine.specs.declared.frame.Frame.{Frame}
use Rattle.acl_machine.specs.declared.frame.Halt.TheVariants as halt
use Rattle.acl_machine.specs.declared.machine.Machine.{Machine}
use Rattle.acl_machine.specs.Cells.{below}
use Rattle.acl_machine.specs.Actuals.{names_of, actuals_in, naming}
use Rattle.acl_machine.specs.Steps.{stopped, holding, beginning, replaced}

-- ---- a function, by its number

abbrev pub formals_in : Option Definition → List SymId
formals_in None = []
formals_in (Some (definition.Primitive name row arity)) = []
formals_in (Some (definition.Function f)) = f.formals
formals_in (Some (definition.Macro m)) = []
formals_in (Some (definition.Constant name value)) = []
formals_in (Some (definition.Object descriptor layout class)) = []
formals_in (Some (definition.Generated f)) = []
formals_in (Some (definition.Abstract descriptor)) = []
formals_in (Some (definition.OfAbstract f)) = f.formals
formals_in (Some (definition.Named name formals)) = []
formals_in (Some (definition.Signed name formals signature executable)) = []

-- the term of its body; where it has none, a number behind all terms of a table of this length
abbrev pub body_in : ℕ → Option Definition → ℕ
body_in terms None = terms
body_in terms (Some (definition.Primitive name row arity)) = terms
body_in terms (Some (definition.Function f)) = f.body_term.0
body_in terms (Some (definition.Macro m)) = terms
body_in terms (Some (definition.Constant name value)) = terms
body_in terms (Some (definition.Object descriptor layout class)) = terms
body_in terms (Some (definition.Generated f)) = terms
body_in terms (Some (definition.Abstract descriptor)) = terms
body_in terms (Some (definition.OfAbstract f)) = terms
body_in terms (Some (definition.Named name formals)) = terms
body_in terms (Some (definition.Signed name formals signature executable)) = terms

-- its name
abbrev pub name_in_option : Option Definition → ℕ
name_in_option None = 0
name_in_option (Some d) = name_in d

abbrev pub formals_at : Content → FnId → List SymId
formals_at w f = formals_in (slice_get w.definitions f.0)

-- the actuals of its call, in a window, with so many objects among them
abbrev pub actuals_for : Content → FnId → ℕ → ℕ → Machine → List Shown
actuals_for w f base n m = actuals_in m base (length (formals_at w f)) n

-- ---- machines

-- so many names are taken out
abbrev pub dropping : ℕ → Machine → Machine
dropping n m = record m { names = below n m.names }

-- a call is entered whose actuals lie ready, and are written so: its guard begins
abbrev pub entered : Option Inside → FnId → ℕ → TermId → List Shown → Machine → Machine
entered inside g base guard values m = beginning guard base (replaced (step.Guarding inside g (length (names_of m.actuals))) base (naming values m))

-- its body begins
abbrev pub running : Option Inside → FnId → ℕ → ℕ → TermId → Machine → Machine
running inside g n base body m = beginning body base (replaced (step.Running inside g n) base m)

-- it is left, and these values are given
abbrev pub returned : Option Inside → ℕ → ℕ → List Shown → Machine → Machine
returned inside n base values m = holding values (dropping n (replaced (step.Last inside) base m))

-- it is left, and its guard was not met by these actuals
abbrev pub refused : Option Inside → ℕ → ℕ → SymId → List Shown → Machine → Machine
refused inside n base name actuals m = stopped (halt.Guard name) (returned inside n base actuals m)

-- the frames around the innermost
abbrev pub rest_of : List Frame → List Frame
rest_of [] = []
rest_of (f ∷ fs) = fs

-- the innermost form is closed
abbrev pub closing : Machine → Machine
closing m = record m { room = m.room + 1; frames = rest_of m.frames }

-- what an export did is left
abbrev pub leaving : Inside → Machine → Machine
leaving x m = record (dropping x.names m) { outer = x.outer }

-- and a stop came inside it
abbrev pub stopping : Inside → Machine → Machine
stopping x m = record (leaving x m) { inside = Some x.name; cut = x.number }

-- a step in a call of a function: its guard, or its body
abbrev pub IsInCall : Option Inside → FnId → ℕ → Step → Type 0
IsInCall inside g n s = (s ≡ step.Guarding inside g n) ⊎ (s ≡ step.Running inside g n)

-- ---- what is kept

module _ {O B : Type 0} (keeping : Keeping ℕ O B) where
  -- a call was entered, by these formals and with these actuals
  abbrev pub HandsOver : (O → List B → Type 0) → (O → List B → Type 0) → List ℕ → List (outcomes.Shown ℕ) → Type 0
  HandsOver Before After formals actuals = (kept : O) (lefts : List B) → Before kept lefts → After (keeping.hand_over formals actuals kept) (keeping.behind kept ∷ lefts)

  -- it was left
  abbrev pub HandsBack : (O → List B → Type 0) → (O → List B → Type 0) → List ℕ → List (outcomes.Shown ℕ) → Type 0
  HandsBack Before After formals actuals = (kept : O) (left : B) (lefts : List B) → Before kept (left ∷ lefts) → After (keeping.hand_back formals actuals kept left) lefts

  -- a keeper may be asked for something once a call is left
  abbrev pub MayThen : (O → List B → Type 0) → List ℕ → List (outcomes.Shown ℕ) → O → List B → Type 0
  MayThen May formals actuals kept [] = ⊥
  MayThen May formals actuals kept (left ∷ lefts) = May (keeping.hand_back formals actuals kept left) lefts
