use Rattle.std.specs.Prelude.{◌≡◌, ◌-◌, ◌*◌, ◌+◌, ◌/◌, drop, length}
use Rattle.acl_pool.specs.Trees.{numbers, chain}
use Rattle.acl_pool.specs.Building.{Gives}
use Rattle.acl_pool.proofs.region.Region.copy_bytes.Given as goal

abbrev pub invariant-loop-done : goal.invariant-loop-done
invariant-loop-done l = (l.count ≡ (length l.bytes + 7) / 8) × Gives l.fn.self l.self l.rest (chain (numbers l.done (drop (8 * (l.count - l.done)) l.bytes))) l.done
