use Rattle.acl_stobj_read.specs.Written.{seen_renaming}
use Rattle.acl_stobj.proofs.RenameLemmas.{unknown_name}
use Rattle.acl_stobj.proofs.renames.new_name.Goals as goal

pub returns-in-None : goal.returns-in-None
returns-in-None c =
    unknown_name c.args.syms.now c.args.home.0 c.args.text.now (seen_renaming c.args._renaming.now) c.args.first.now c.is_table.ensures c.requires.renames c.in-None.ensures.found
