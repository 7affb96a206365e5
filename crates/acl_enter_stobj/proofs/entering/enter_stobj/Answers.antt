-- The stobj has entered.
use Rattle.acl_worlds.specs.Fields.{fields_of}
use Rattle.acl_enter_stobj.proofs.EnterLemmas.{stobj_seen, stobj_lies}
use Rattle.acl_enter_stobj.proofs.entering.enter_stobj.Goals as goal

pub returns-in-Ok-clause-ok : goal.returns-in-Ok-clause-ok
returns-in-Ok-clause-ok c =
    stobj_seen c.args.heap.now c.args.world.now c.args.descriptor c.in_ok-functions.functions.items c.in_ok-functions.ensures c.class_for-class.result (fields_of c.in_ok-layout.layout)
    c.add_stobj.new.world c.class_for-class.ensures c.in-Ok.ensures.ok

pub returns-in-Ok-clause-lies : goal.returns-in-Ok-clause-lies
returns-in-Ok-clause-lies c =
    stobj_lies c.args.heap.now c.args.world.now c.args.descriptor c.in_ok-functions.functions.items c.class_for-class.result (fields_of c.in_ok-layout.layout)
    c.add_stobj.new.world c.requires.world c.requires.descriptor c.in-Ok.ensures.ok
