use Rattle.std.proofs.Common.{◌≡◌, ◌++◌, drop, []}
use Rattle.acl_worlds.specs.Contents.{primitives_from}
use Rattle.acl_worlds.proofs.World.new.Given as goal

-- the primitives so far, and those that are left
abbrev pub invariant-loop-row : goal.invariant-loop-row
invariant-loop-row l = (l.world.definitions ++ primitives_from l.row (drop l.row l.prims) ≡ primitives_from 0 l.fn.prims) × (l.world.layouts ≡ [])
