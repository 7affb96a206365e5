use Rattle.std.specs.Prelude.{map, take, drop}
use Rattle.std.proofs.Common.{◌≡◌, ◌++◌}
use Rattle.acl_lists.specs.Compacting.{new_number}
use Rattle.acl_lists.proofs.moving.move_roots.Given as goal

abbrev pub invariant-loop-i : goal.invariant-loop-i
invariant-loop-i l = l.roots ≡ map (new_number l.marks.items) (take l.i l.fn.roots) ++ drop l.i l.fn.roots
