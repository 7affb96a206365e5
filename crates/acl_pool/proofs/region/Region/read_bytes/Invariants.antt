use Rattle.std.specs.Prelude.{◌+◌, ◌/◌}
use Rattle.acl_pool.proofs.UnpackLemmas.{Reading}
use Rattle.acl_pool.proofs.region.Region.read_bytes.Given as goal

abbrev pub invariant-loop-done : goal.invariant-loop-done
invariant-loop-done l = Reading l.self l.fn.rest l.rest l._done ((l.fn.len + 7) / 8) l.bytes.items
