-- What a use that was counted makes is known.
use Rattle.std.proofs.Common.{length}
use Rattle.acl_heap.specs.Objects.{object_of}
use Rattle.acl_layers.specs.Rows.{seen_row}
use Rattle.acl_expand.specs.Looks.{setting_at}
use Rattle.acl_expand.proofs.KnownLemmas.{built_known}
use Rattle.acl_expand.proofs.stepping.counted_row.Goals as goal

pub returns-in-Ok-clause-known : goal.returns-in-Ok-clause-known
returns-in-Ok-clause-known c =
    built_known (length c.args.syms.now.symbols) (setting_at c.args.heap.now c.args.world.now c.args.syms.now c.args.limits.steps c.args.limits.depth) c.args.head.0 (seen_row c.args.row) (object_of c.args.heap.now c.args.d) _ _ _
    c.requires.enough c.requires.row c.requires.known c.in-Ok.ensures.ends.0
