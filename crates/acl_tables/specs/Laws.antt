-- What is said of a table of terms as functions enter a world, as laws.
use Rattle.std.specs.Prelude.{List, ◌++◌}
use Rattle.std.specs.List.{AllByRecursion}
use Rattle.acl_heap.specs.Objects.{Objects}
use Rattle.model_window.specs.Stands.{Origins, HoldsTrees}
use Rattle.model_window.specs.Tables.{all_in}
use Rattle.model_events.specs.Functions.{Candidate}
use Rattle.acl_terms.specs.declared.definition.Definition.{Definition}
use Rattle.acl_worlds.specs.Contents.{Content, seen_world}
use Rattle.acl_code.specs.declared.term.Term.{Term}
use Rattle.acl_code.specs.Tables.{forest, Grown}
use Rattle.acl_machine.specs.Views.{code_with}
use Rattle.acl_definitions.specs.Added.{with_definitions}
use Rattle.acl_cliques.specs.Worlds.{signed_world}
use Rattle.acl_cliques.specs.Entered.{Entered}
use Rattle.acl_tables.specs.Plain.{HasNoCode}
use Rattle.acl_tables.specs.Within.{AllWithin, origins_with}

-- where the table held the trees of the functions that may be called, as the machine asks it, it holds them with the functions that
-- entered; these were checked in the world in which they stand by their signatures
pub record FunctionsBringTrees : Type 0 where
  pub hold : (h : Objects) (old new : Content) (before after : List Term) (cs : List Candidate) (origins : Origins) → AllWithin before old.definitions → Grown before after → Entered h old new after cs
      → HoldsTrees (seen_world h old) origins (code_with (forest h before) old.definitions)
      → HoldsTrees (seen_world h new) (origins_with (seen_world h old) origins (signed_world (seen_world h old) cs)) (code_with (forest h after) new.definitions)
  pub within : (h : Objects) (old new : Content) (before after : List Term) (cs : List Candidate) → AllWithin before old.definitions → Grown before after → Entered h old new after cs → AllWithin after new.definitions

-- in a world without such functions every table holds the trees that there are, none
pub record PlainWorldsAreHeld : Type 0 where
  pub hold : (h : Objects) (w : Content) (ts : List Term) → AllByRecursion HasNoCode w.definitions → HoldsTrees (seen_world h w) (all_in (seen_world h w)) (code_with (forest h ts) w.definitions)
  pub within : (ts : List Term) (ds : List Definition) → AllByRecursion HasNoCode ds → AllWithin ts ds

-- definitions to whose calls no terms belong, as those of constants, macros and concrete stobjs with their functions, may enter
pub record PlainDefinitionsKeepTrees : Type 0 where
  pub hold : (h : Objects) (old : Content) (ds : List Definition) (before after : List Term) (origins : Origins) → AllWithin before old.definitions → Grown before after → AllByRecursion HasNoCode ds
      → HoldsTrees (seen_world h old) origins (code_with (forest h before) old.definitions)
      → HoldsTrees (seen_world h (with_definitions old ds)) origins (code_with (forest h after) (old.definitions ++ ds))
  pub within : (ds others : List Definition) (before after : List Term) → AllWithin before ds → Grown before after → AllByRecursion HasNoCode others → AllWithin after (ds ++ others)
