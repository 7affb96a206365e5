-- What the engine of lists asks of a world, so that it goes on to hold as definitions enter.
use Rattle.std.specs.Prelude.{ℕ, List}
use Rattle.model_symbols.specs.Symbols.{Table}
use Rattle.acl_heap.specs.Objects.{Objects}
use Rattle.acl_worlds.specs.Contents.{Content, seen_world}
use Rattle.acl_code.specs.declared.term.Term.{Term}
use Rattle.acl_code.specs.Constants.{ConstantsAreKnown}
use Rattle.acl_code.specs.Tables.{TermsLie, Grown, forest}
use Rattle.acl_machine.specs.Views.{code_with}
use Rattle.acl_tables.specs.Within.{AllWithin}
use Rattle.acl_origins.specs.Bodies.{MacrosWithin, HadBodies}
use Rattle.acl_origins.specs.Were.{WereRun}
use Rattle.acl_pure.specs.Fitting.{Fits}

-- the terms fit the world; functions and macros were checked in worlds that became it, and have terms of the table
pub record FitsOn (terms : List Term) (h : Objects) (w : Content) (t : Table) : Type 0 where
  pub fits : Fits terms h w t
  pub runs : WereRun (seen_world h w) (code_with (forest h terms) w.definitions)
  pub bodies : HadBodies h (seen_world h w) terms w.definitions
  pub within : AllWithin terms w.definitions
  pub macros : MacrosWithin terms w.definitions

-- the table of terms after an event: more terms, whose words lie in the heap, of symbols below n
pub record TableGrows (h : Objects) (n : ℕ) (before after : List Term) : Type 0 where
  pub grown : Grown before after
  pub lie : TermsLie h after
  pub known : ConstantsAreKnown n h after
