use Rattle.std.proofs.Common.{arith, ◌<◌}
use Rattle.acl_worlds.proofs.PrimitiveLemmas.{row_within, next_fresh, next_fits}
use Rattle.acl_worlds.proofs.World.new.Goals as goal

pub overflow_cast-row : goal.overflow_cast-row
overflow_cast-row c = let low : c.loop-row.row < 59 = row_within c.args.prims.now c.loop-row.row c.requires c.loop-row-test.true in grind (arith, low)

pub add-requires-clause-fresh : goal.add-requires-clause-fresh
add-requires-clause-fresh c = next_fresh c.args.prims.now c.loop-row.row (record { 0 = 0 }, 0) c.loop-row.world.definitions c.requires c.loop-row-test.true c.loop-row.invariant.0

pub add-requires-clause-fits : goal.add-requires-clause-fits
add-requires-clause-fits c = next_fits c.args.prims.now c.loop-row.row (record { 0 = 0 }, 0) c.requires c.loop-row-test.true
