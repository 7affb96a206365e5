-- What is left of a known row makes what is known.
use Rattle.std.proofs.Common.{length}
use Rattle.acl_layers.specs.Rows.{seen_row}
use Rattle.acl_layers.specs.Lists.{seen_left}
use Rattle.acl_worlds.specs.Contents.{seen_world}
use Rattle.acl_expand.proofs.KnownLemmas.{made_again_known, made_stays_known}
use Rattle.acl_expand.proofs.stepping.rest_found.Goals as goal

pub settle-requires-clause-known : goal.settle-requires-clause-known
settle-requires-clause-known g c =
    let made = rw c.in-Again.is at (rw c.in-Some.is at c.in_ok-made_of.ensures) in
    made_again_known (length c.args.syms.now.symbols) (seen_world c.args.heap.now c.args.world.now) c.args.syms.now.symbols (seen_row c.args.row) (seen_left c.args.heap.now c.args.left) _
    c.requires.supplies c.requires.row_known c.requires.known made.0

pub returns-in-Stays-clause-known : goal.returns-in-Stays-clause-known
returns-in-Stays-clause-known g c =
    let made = rw c.in-Stays.is at (rw c.in-Some.is at c.in_ok-made_of.ensures) in
    made_stays_known (length c.args.syms.now.symbols) (seen_world c.args.heap.now c.args.world.now) c.args.syms.now.symbols (seen_row c.args.row) (seen_left c.args.heap.now c.args.left) _
    c.requires.supplies c.requires.row_known c.requires.known made.0
