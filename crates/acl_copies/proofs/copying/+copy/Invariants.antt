use Rattle.std.proofs.Common.{◌≡◌, ◌+◌, ◌++◌, drop}
use Rattle.acl_copies.proofs.copying.+copy.Given as goal

abbrev pub decreases-copied : goal.decreases-copied
decreases-copied l = l.left + l.left

abbrev pub decreases-boxed : goal.decreases-boxed
decreases-boxed l = l.left + l.left + 1

abbrev pub decreases-parts_copied : goal.decreases-parts_copied
decreases-parts_copied l = l.left + l.left + 1

abbrev pub decreases-bound_copied : goal.decreases-bound_copied
decreases-bound_copied l = l.left + l.left + 1

abbrev pub invariant-parts_copied-parts : goal.invariant-parts_copied-parts
invariant-parts_copied-parts l = l.done ++ drop l.part-index l.parts ≡ l.parts

abbrev pub invariant-bound_copied-bindings : goal.invariant-bound_copied-bindings
invariant-bound_copied-bindings l = l.done ++ drop l.binding-index l.bindings ≡ l.bindings
