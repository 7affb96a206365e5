-- What all turns ask of what is around a machine.
use Rattle.std.specs.Prelude.{List}
use Rattle.model_symbols.specs.Symbols.{Table}
use Rattle.model_symbols.specs.Growth.{Extends}
use Rattle.model_symbols.specs.Opening.{opening}
use Rattle.acl_heap.specs.Objects.{Objects}
use Rattle.acl_worlds.specs.Contents.{Content, WorldLies}
use Rattle.acl_code.specs.declared.term.Term.{Term}
use Rattle.acl_code.specs.Tables.{TermsLie}
use Rattle.acl_machine.specs.Constants.{ConstantsAreWhole}
use Rattle.acl_exec_turns.specs.Execs.{PrimitivesStand}

-- the words of the world and of the terms lie in the heap, the symbols of constants are known, primitives have rows of their table,
-- and the symbols go on from those that are there at first
pub record Surrounds (t : Table) (h : Objects) (w : Content) (ts : List Term) : Type 0 where
  pub world : WorldLies h w
  pub lie : TermsLie h ts
  pub constants : ConstantsAreWhole t h ts
  pub primitives : PrimitivesStand w
  pub opens : Extends opening t
