-- What functions make of a machine.
use Rattle.std.specs.Prelude.{◌≡◌, ℕ, ◌+◌, ◌-◌, List, [], ◌∷◌, Option, Some, None, Bool, nat_eq, nat_lt, ◌&&◌, if◌then◌else◌}
use Rattle.acl_base.specs.declared.SymId.{SymId}
use Rattle.acl_base.specs.declared.TermId.{TermId}
use Rattle.acl_base.specs.declared.Word.{Word}
use Rattle.model_symbols.specs.Symbols.{Table}
use Rattle.acl_heap.specs.Objects.{Objects}
use Rattle.acl_forms.specs.Forms.{IsWhole}
use Rattle.acl_machine.specs.declared.frame.Borrowed.{Borrowed}
use Rattle.acl_terms.specs.declared.outcome.Shown.{Shown}
use Rattle.acl_terms.specs.declared.definition.Definition.{Definition}
use Rattle.acl_terms.specs.declared.definition.Definition.TheVariants as definition
use Rattle.acl_code.specs.declared.term.Term.{Term}
use Rattle.acl_code.specs.declared.term.Term.TheVariants as term
use Rattle.acl_machine.specs.declared.frame.Goal.{Goal}
use Rattle.acl_machine.specs.declared.frame.Goal.TheVariants as goal
use Rattle.acl_machine.specs.declared.frame.Step.{Step}
use Rattle.acl_machine.specs.declared.frame.Step.TheVariants as step
use Rattle.acl_machine.specs.declared.frame.Frame.{Frame}
use Rattle.acl_machine.specs.declared.frame.Halt.{Halt}
use Rattle.acl_machine.specs.declared.frame.Halt.TheVariants as halt
use Rattle.acl_machine.specs.declared.frame.Control.TheVariants as control
use Rattle.acl_machine.specs.declared.machine.Machine.{Machine}
use Rattle.acl_machine.specs.Cells.{cells_from, AreWholeCells}
use Rattle.acl_machine.specs.Turns.{with_step, with_frame}

abbrev pub IsNoPart : Term → Type 0
IsNoPart (term.Slot s) = Unit {0}
IsNoPart (term.Const w) = Unit {0}
IsNoPart (term.Part t) = ⊥
IsNoPart (term.If at test held other) = Unit {0}
IsNoPart (term.Let at bound body) = Unit {0}
IsNoPart (term.Mv at parts) = Unit {0}
IsNoPart (term.MvLet at bound body) = Unit {0}
IsNoPart (term.StobjLet at children producer consumer) = Unit {0}
IsNoPart (term.WithLocal at stobj producer body) = Unit {0}
IsNoPart (term.MustBeEqual logic) = Unit {0}
IsNoPart (term.Call at function actuals) = Unit {0}

-- a term that stands for itself, or none
pub record IsOwn (t : Option Term) : Type 0 where
  pub own : (u : TermId) → t ≡ Some (term.Part u) → ⊥

-- a term that stands for itself and makes no local stobj, or none
pub record IsOpenedAlone (t : Option Term) : Type 0 where
  pub own : (u : TermId) → t ≡ Some (term.Part u) → ⊥
  pub alone : (at : ℕ) (stobj : SymId) (producer body : TermId) → t ≡ Some (term.WithLocal at stobj producer body) → ⊥

-- the machine stops, here
abbrev pub stopped : Halt → Machine → Machine
stopped why m = record m { control = control.Stopped why; inside = None; cut = m.outer + 1 }

-- these values are given
abbrev pub giving : List Shown → Machine → Machine
giving values m = record m { control = control.Give; given = values }

abbrev pub pushed : Step → ℕ → Machine → Machine
pushed s base m = record m { room = m.room - 1; frames = record { step = s; base = base } ∷ m.frames }

-- a form is opened, if there is room, and then this is done
abbrev pub opened_to : Step → ℕ → (Machine → Machine) → Machine → Machine
opened_to s base next m = if nat_eq m.room 0 then stopped halt.Depth m else next (pushed s base m)

abbrev pub again : Step → Machine → Machine
again s m = record m { frames = with_step s m.frames }

abbrev pub beginning : TermId → ℕ → Machine → Machine
beginning t base m = record m { control = control.Begin t base }

-- ---- parts: so many have values, and so many are left, the first of them this

-- whether there is a next part
abbrev pub has_next : ℕ → TermId → ℕ → Bool
has_next terms next left = nat_lt 0 left && nat_lt next.0 terms

-- what the form waits for then
abbrev pub goal_step : ℕ → ℕ → Goal → Step
goal_step at count (goal.Body t) = step.Last None
goal_step at count goal.Values = step.Last None
goal_step at count (goal.Call f) = step.Calling at f count

abbrev pub parts_step : ℕ → ℕ → ℕ → TermId → ℕ → Goal → Step
parts_step terms at count next left goal =
    if has_next terms next left then step.Parts at count (record { 0 = next.0 + 1 }) (left - 1) goal else goal_step at count goal

-- and what is done next
abbrev pub goal_done : ℕ → ℕ → ℕ → Goal → Machine → Machine
goal_done base at count (goal.Body t) m = beginning t base m
goal_done base at count goal.Values m = giving (cells_from m.values (base + at) count) m
goal_done base at count (goal.Call f) m = giving [] m

abbrev pub parts_next : ℕ → ℕ → ℕ → ℕ → TermId → ℕ → Goal → Machine → Machine
parts_next terms base at count next left goal m =
    if has_next terms next left then beginning next base m else goal_done base at count goal m

-- the innermost form is closed, and these are around it
abbrev pub closed : List Frame → Machine → Machine
closed rest m = record m { room = m.room + 1; frames = rest }

-- a step that has nothing on the stacks of names and loans
abbrev pub IsPlain : Step → Type 0
IsPlain (step.Test held other) = Unit {0}
IsPlain (step.Parts at count next left goal) = Unit {0}
IsPlain (step.Several at body) = Unit {0}
IsPlain (step.Calling at function count) = Unit {0}
IsPlain (step.Guarding inside function names) = ⊥
IsPlain (step.Running inside function names) = ⊥
IsPlain (step.Allowing function names number) = ⊥
IsPlain (step.Exporting function names number) = ⊥
IsPlain (step.Borrowing at term bound) = ⊥
IsPlain (step.Producing at loans consumer) = ⊥
IsPlain (step.Putting at put loans consumer) = ⊥
IsPlain (step.Local at body) = ⊥
IsPlain (step.Last None) = Unit {0}
IsPlain (step.Last (Some x)) = ⊥

-- the innermost form has its own value
abbrev pub HasLast : List Frame → Type 0
HasLast [] = ⊥
HasLast (f ∷ fs) = f.step ≡ step.Last None

-- ---- calls

abbrev pub replaced : Step → ℕ → Machine → Machine
replaced s base m = record m { frames = with_frame (record { step = s; base = base }) m.frames }

-- a call more is counted
abbrev pub counted : Machine → Machine
counted m = record m { calls = m.calls + 1; outer = m.outer + 1 }

-- these values are what a stop is seen with
abbrev pub holding : List Shown → Machine → Machine
holding values m = record m { given = values }

-- a definition that may not be called
abbrev pub IsRefused : Definition → Type 0
IsRefused (definition.Primitive name row arity) = ⊥
IsRefused (definition.Function f) = ⊥
IsRefused (definition.Macro m) = Unit {0}
IsRefused (definition.Constant name value) = Unit {0}
IsRefused (definition.Object descriptor layout class) = Unit {0}
IsRefused (definition.Generated f) = ⊥
IsRefused (definition.Abstract descriptor) = Unit {0}
IsRefused (definition.OfAbstract f) = ⊥
IsRefused (definition.Named name formals) = Unit {0}
IsRefused (definition.Signed name formals signature executable) = Unit {0}

-- the definition of a number may not be called
abbrev pub MayNotCall : Option Definition → Type 0
MayNotCall None = ⊥
MayNotCall (Some d) = IsRefused d

-- the innermost form has nothing on the stacks of names and loans
abbrev pub HasPlain : List Frame → Type 0
HasPlain [] = ⊥
HasPlain (f ∷ fs) = IsPlain f.step

-- ---- words of loans

-- the word of an index lies in the heap, and its symbols are known
abbrev pub LoanWhole : Table → Objects → Option Word → Type 0
LoanWhole t h None = Unit {0}
LoanWhole t h (Some w) = IsWhole t h w

-- so do those of all loans
abbrev pub LoansWhole : Table → Objects → List Borrowed → Type 0
LoansWhole t h [] = Unit {0}
LoansWhole t h (b ∷ bs) = LoanWhole t h b.loan.index × LoansWhole t h bs

-- what holds of a machine between its turns: the words of its values and loans lie in the heap, and symbols in them are known
pub record IsSound (t : Table) (h : Objects) (m : Machine) : Type 0 where
  pub values : AreWholeCells t h m.values
  pub given : AreWholeCells t h m.given
  pub loans : LoansWhole t h m.loans
