-- What the turns of exec functions make of a machine.
use Rattle.std.specs.Prelude.{ℕ, List, [], ◌∷◌, Some}
use Rattle.acl_base.specs.declared.SymId.{SymId}
use Rattle.acl_terms.specs.declared.outcome.Shown.{Shown}
use Rattle.acl_numbers.specs.declared.stops.PrimStop.{PrimStop}
use Rattle.acl_numbers.specs.declared.stops.PrimStop.TheVariants as prim_stop
use Rattle.acl_keep.specs.declared.effect.Effect.{Effect}
use Rattle.acl_keep.specs.declared.effect.Effect.TheVariants as effect
use Rattle.acl_machine.specs.declared.frame.Inside.{Inside}
use Rattle.acl_machine.specs.declared.frame.Step.TheVariants as step
use Rattle.acl_machine.specs.declared.frame.Halt.{Halt}
use Rattle.acl_machine.specs.declared.frame.Halt.TheVariants as halt
use Rattle.acl_machine.specs.declared.machine.Machine.{Machine}
use Rattle.acl_machine.specs.Actuals.{taking}
use Rattle.acl_machine.specs.Cells.{nil_there}
use Rattle.acl_machine.specs.Steps.{giving, counted, replaced, holding}
use Rattle.acl_export_turns.specs.Steps.{stopped_inside}

-- the actuals lie ready of a call that is counted
abbrev pub called : ℕ → ℕ → ℕ → Machine → Machine
called base count names m = counted (taking base count names m)

-- these values are given inside an export
abbrev pub given_inside : Inside → List Shown → ℕ → Machine → Machine
given_inside inside values base m = giving values (replaced (step.Last (Some inside)) base m)

-- why a primitive stops; want of memory is no stop
abbrev pub halt_of : PrimStop → SymId → Halt
halt_of prim_stop.Guard name = halt.Guard name
halt_of prim_stop.Range name = halt.Range name
halt_of prim_stop.TooLarge name = halt.Large name
halt_of prim_stop.SymbolLimit name = halt.Symbols name
halt_of prim_stop.Memory name = halt.Steps

-- what a function gives that an object comes with, or it stops with the actuals that lie ready
abbrev pub answered_inside : Effect → SymId → Inside → ℕ → Machine → Machine
answered_inside effect.Refuses name inside base m = stopped_inside inside (halt.Guard name) base m
answered_inside (effect.Gives value) name inside base m = given_inside inside (value ∷ []) base m
answered_inside (effect.GivesBoth value bound) name inside base m = given_inside inside (value ∷ bound ∷ []) base m

-- room for what it gives
abbrev pub with_two : Machine → Machine
with_two m = holding (nil_there ∷ nil_there ∷ []) m
