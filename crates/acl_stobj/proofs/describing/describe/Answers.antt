use Rattle.std.specs.Prelude.{refl}
use Rattle.acl_stobj_read.specs.Written.{seen_renaming}
use Rattle.acl_stobj.proofs.RenameLemmas.{later}
use Rattle.acl_stobj.proofs.OwnLemmas.{all_second, all_made_of}
use Rattle.acl_stobj.proofs.describing.describe.Goals as goal

pub make_fields-requires-clause-renames : goal.make_fields-requires-clause-renames
make_fields-requires-clause-renames c = later _ _ _ _ c.in_ok-first.ensures c.in_ok-own.ensures.grows.longer

pub returns-in-Err-clause-err : goal.returns-in-Err-clause-err
returns-in-Err-clause-err c =
    all_second (seen_renaming c.args.renaming.now) c.args.syms.now c.args.heap.now c.args.name.0 c.args.fields.now c.make_own.new.syms c.make_fields.new.syms c.in_ok-own.own.0 c.in_ok-own.own.1 c.in_ok-own.ensures.grows c.in_ok-own.ensures.packages c.requires.named c.in_ok-own.ensures.ok c.in-Err.unmade c.in-Err.ensures.err

pub returns-clause-ok : goal.returns-clause-ok
returns-clause-ok c =
    all_made_of (seen_renaming c.args.renaming.now) c.args.syms.now c.args.heap.now c.args.name.0 c.args.fields.now c.make_own.new.syms c.make_fields.new.syms c.in_ok-own.own.0 c.in_ok-own.own.1 c.in_ok-own.ensures.grows c.in_ok-own.ensures.packages c.requires.named c.in_ok-own.ensures.ok
    _ c.args.name c.args.congruent_to c.in-Ok.fields c.in-Ok.ensures.ok c.in-Ok.ensures.fields c.in-Ok.ensures.counted refl refl
