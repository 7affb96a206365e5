use Rattle.std.specs.Prelude.{◌≡◌, length}
use Rattle.std.specs.Vec.Iter.{into_iter_items, into_iter_len}
use Rattle.acl_enter_stobj.specs.Entered.{IsAdding}
use Rattle.acl_enter_stobj.proofs.adding.add_functions.Given as goal

abbrev pub invariant-functions : goal.invariant-functions
invariant-functions l = IsAdding l.fn.world l.world (into_iter_items l.function-iterator) l.fn.functions.items × (into_iter_len l.function-iterator ≡ length (into_iter_items l.function-iterator))
