use Rattle.acl_layers.proofs.ScopingLemmas.{stobj_no_bindings, stobj_no_vars}
use Rattle.acl_layers.proofs.scoping.stobj_let.Goals as goal

pub returns-in-None : goal.returns-in-None
returns-in-None c = stobj_no_bindings c.args.syms.now.symbols _ _ _ _ _ c.in-Some.ensures.0 (rw c.in-None.is at c.in_ok-bindings.ensures)

pub returns-in-None-2 : goal.returns-in-None-2
returns-in-None-2 c =
    stobj_no_vars c.args.syms.now.symbols _ _ _ _ _ _ c.in-Some.ensures.0 (rw c.in-Some-2.is at c.in_ok-bindings.ensures).0
    (rw c.in-None-2.is at c.in_ok-variables-in-Some-2.ensures)
