use Rattle.acl_admit_macro.specs.Entered.{macro_of}
use Rattle.acl_admit_macro.proofs.EnterLemmas.{new_name}
use Rattle.acl_admit_macro.proofs.entering.put.Goals as goal

pub add-requires-clause-fresh : goal.add-requires-clause-fresh
add-requires-clause-fresh c = new_name c.args._heap.now c.args.world.now (macro_of c.args.expanded c.args.body_term) c.is_world.ensures c.requires.fresh
