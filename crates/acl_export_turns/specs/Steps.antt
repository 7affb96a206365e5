-- What the turns of an export's call make of a machine.
use Rattle.std.specs.Prelude.{◌≡◌, ℕ, List, [], ◌+◌, drop, Option, Some, None, slice_get}
use Rattle.acl_base.specs.declared.FnId.{FnId}
use Rattle.acl_base.specs.declared.SymId.{SymId}
use Rattle.acl_base.specs.declared.TermId.{TermId}
use Rattle.acl_terms.specs.declared.outcome.Shown.{Shown}
use Rattle.acl_terms.specs.declared.definition.Definition.{Definition}
use Rattle.acl_terms.specs.declared.definition.Definition.TheVariants as definition
use Rattle.acl_machine.specs.declared.frame.Inside.{Inside}
use Rattle.acl_machine.specs.declared.frame.Step.TheVariants as step
use Rattle.acl_machine.specs.declared.frame.Halt.{Halt}
use Rattle.acl_machine.specs.declared.frame.Halt.TheVariants as halt
use Rattle.acl_machine.specs.declared.frame.Control.TheVariants as control
use Rattle.acl_machine.specs.declared.machine.Machine.{Machine}
use Rattle.acl_machine.specs.Cells.{below}
use Rattle.acl_machine.specs.Turns.{with_step}
use Rattle.acl_machine.specs.Steps.{replaced, giving, stopped, holding}

-- the values that a stop is seen with are the actuals that lie ready
abbrev pub holding_actuals : Machine → Machine
holding_actuals m = record m { given = m.actuals; actuals = m.given }

-- the machine stops, seen as before the outer call of this number
abbrev pub stopped_before : ℕ → Halt → Machine → Machine
stopped_before number why m = record m { control = control.Stopped why; inside = None; cut = number }

-- the innermost form has no more than its own value, and so many names are taken away
abbrev pub bared : ℕ → ℕ → Machine → Machine
bared names base m = replaced (step.Last None) base (record m { names = below names m.names })

-- a stop closes the innermost form
abbrev pub shut : ℕ → ℕ → Machine → Machine
shut names number m = record m { room = m.room + 1; frames = drop 1 m.frames; names = below names m.names; cut = number }

-- its guard does not hold
abbrev pub denied : SymId → ℕ → ℕ → ℕ → Machine → Machine
denied name names number base m = stopped_before number (halt.Guard name) (bared names base (holding_actuals m))

-- its guard holds
abbrev pub allowed : FnId → ℕ → ℕ → Machine → Machine
allowed function names number m = giving [] (record m { frames = with_step (step.Exporting function names number) m.frames })

-- its guard begins
abbrev pub guarded : FnId → ℕ → TermId → ℕ → Machine → Machine
guarded function names guard base m =
    record (replaced (step.Allowing function names m.outer) base m) { control = control.Begin guard base }

-- ---- its exec function

-- nothing is left of the calls
abbrev pub too_many : ℕ → ℕ → ℕ → Machine → Machine
too_many names number base m = stopped_before number halt.Steps (bared names base m)

-- the export whose exec function is called
abbrev pub inside_of : SymId → ℕ → ℕ → ℕ → Machine → Inside
inside_of name count names number m = record { name = name; count = count; names = names; number = number; outer = m.outer }

-- it is refused, or stops, inside the export
abbrev pub stopped_inside : Inside → Halt → ℕ → Machine → Machine
stopped_inside inside why base m = stopped why (replaced (step.Last (Some inside)) base (holding_actuals m))

-- its guard begins
abbrev pub entered : Inside → FnId → ℕ → TermId → ℕ → Machine → Machine
entered inside function names guard base m =
    record (replaced (step.Guarding (Some inside) function names) base m) { control = control.Begin guard base }

-- a definition that an export may not run
abbrev pub IsNoExec : Definition → Type 0
IsNoExec (definition.Primitive name row arity) = ⊥
IsNoExec (definition.Function f) = ⊥
IsNoExec (definition.Macro m) = Unit {0}
IsNoExec (definition.Constant name value) = Unit {0}
IsNoExec (definition.Object descriptor layout class) = Unit {0}
IsNoExec (definition.Generated f) = ⊥
IsNoExec (definition.Abstract descriptor) = Unit {0}
IsNoExec (definition.OfAbstract f) = Unit {0}
IsNoExec (definition.Named name formals) = Unit {0}
IsNoExec (definition.Signed name formals signature executable) = Unit {0}

-- the definition of a number may not be run, or there is no such number
abbrev pub MayNotRun : List Definition → Option ℕ → Type 0
MayNotRun ds None = Unit {0}
MayNotRun ds (Some n) = (d : Definition) → slice_get ds n ≡ Some d → IsNoExec d

-- it gives what is given, or stops with that
abbrev pub ended_inside : Inside → Option Halt → ℕ → Machine → Machine
ended_inside inside None base m = giving m.given (replaced (step.Last (Some inside)) base m)
ended_inside inside (Some why) base m = stopped why (replaced (step.Last (Some inside)) base m)
