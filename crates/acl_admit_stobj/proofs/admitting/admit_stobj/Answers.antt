-- The event, from what reading its form and entering the world give.
use Rattle.acl_heap.specs.Objects.{object_of}
use Rattle.acl_admit_stobj.proofs.AdmitLemmas.{refused, fresh, admits}
use Rattle.acl_admit_stobj.proofs.admitting.admit_stobj.Goals as goal

pub enter_stobj-requires-clause-fresh : goal.enter_stobj-requires-clause-fresh
enter_stobj-requires-clause-fresh c =
    fresh c.args.heap.now c.args.world.now c.args.syms.now (object_of c.args.heap.now c.args.form) c.read_descriptor.new.syms.symbols c.in-Ok.descriptor c.in-Ok.ensures.ok c.is_world.ensures

pub returns-in-Err-clause-err : goal.returns-in-Err-clause-err
returns-in-Err-clause-err c = refused c.args.heap.now c.args.world.now c.args.syms.now (object_of c.args.heap.now c.args.form) c.read_descriptor.new.syms.symbols c.in-Err.fault c.in-Err.ensures.err

pub returns-in_ok-enter_stobj-in-Ok-clause-ok : goal.returns-in_ok-enter_stobj-in-Ok-clause-ok
returns-in_ok-enter_stobj-in-Ok-clause-ok c =
    admits c.args.heap.now c.args.world.now c.args.syms.now (object_of c.args.heap.now c.args.form) c.read_descriptor.new.syms.symbols c.in-Ok.descriptor c.in-Ok.ensures.ok
    c.enter_stobj.new.world c.in_ok-enter_stobj-in-Ok.ensures.ok
