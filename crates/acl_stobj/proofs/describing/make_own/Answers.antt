use Rattle.acl_stobj_read.specs.Written.{seen_renaming}
use Rattle.acl_stobj.proofs.RenameLemmas.{later}
use Rattle.acl_stobj.proofs.OwnLemmas.{own_made, own_second}
use Rattle.acl_stobj.proofs.describing.make_own.Goals as goal

pub make_name-requires-in-Ok-clause-renames : goal.make_name-requires-in-Ok-clause-renames
make_name-requires-in-Ok-clause-renames c = later _ _ _ _ c.requires.renames c.in-Ok.ensures.grows.longer

pub returns-in-Err-make_name-clause-err : goal.returns-in-Err-make_name-clause-err
returns-in-Err-make_name-clause-err c =
    own_second (seen_renaming c.args.renaming.now) c.args.syms.now c.make_name.new.syms c.args.name.0 c.in-Ok.ensures.grows c.requires.known c.in-Ok.ensures.packages c.make_name-in-Ok.new.syms c.in-Ok.recognizer.0 c.in-Err-make_name.unmade c.in-Ok.ensures.ok c.in-Err-make_name.ensures.err

pub returns-in-Ok-make_name-clause-ok : goal.returns-in-Ok-make_name-clause-ok
returns-in-Ok-make_name-clause-ok c =
    own_made (seen_renaming c.args.renaming.now) c.args.syms.now c.make_name.new.syms c.args.name.0 c.in-Ok.ensures.grows c.requires.known c.in-Ok.ensures.packages c.make_name-in-Ok.new.syms c.in-Ok.recognizer.0 c.in-Ok-make_name.creator.0 c.in-Ok.ensures.ok c.in-Ok-make_name.ensures.ok
