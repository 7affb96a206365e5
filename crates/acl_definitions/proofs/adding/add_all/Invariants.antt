use Rattle.std.specs.Prelude.{◌≡◌, ◌++◌, length, take}
use Rattle.std.specs.List.{All}
use Rattle.std.specs.Vec.Iter.{into_iter_items, into_iter_len}
use Rattle.acl_terms.specs.Definitions.{FitsTable}
use Rattle.acl_definitions.proofs.adding.add_all.Given as goal

abbrev pub invariant-definitions : goal.invariant-definitions
invariant-definitions l =
    (l.world.definitions ++ into_iter_items l.definition-iterator ≡ l.initial.world.definitions ++ l.fn.definitions.items)
    × (l.world.layouts ≡ l.initial.world.layouts)
    × (take (length l.initial.world.definitions) l.world.definitions ≡ l.initial.world.definitions)
    × All FitsTable (into_iter_items l.definition-iterator)
    × (into_iter_len l.definition-iterator ≡ length (into_iter_items l.definition-iterator))
