use Rattle.std.proofs.Common.{arith}
use Rattle.acl_worlds.specs.Contents.{seen_world}
use Rattle.acl_stobj_read.proofs.NestingLemmas.{one_more_known}
use Rattle.acl_stobj_read.proofs.nesting.note_followed.Goals as goal

pub returns-in_ok-note : goal.returns-in_ok-note
returns-in_ok-note c =
    one_more_known (seen_world c.args._heap.now c.args._world.now) c.args.known.now c.note.new.known c.args.stobj.0 c.args.depth c.args.left c.requires.known c.requires.is (omega (arith, c.if-depth-left.true)) c.in_ok-note.ensures
