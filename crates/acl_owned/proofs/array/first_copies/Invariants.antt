use Rattle.std.specs.Prelude.{◌≡◌, take}
use Rattle.acl_owned.proofs.array.first_copies.Given as goal

abbrev pub invariant-loop-i : goal.invariant-loop-i
invariant-loop-i l = l.copies.items ≡ take l.i l.elements.items
