use Rattle.acl_heap.specs.Objects.{object_of}
use Rattle.acl_forms.specs.Growth.{Grown-both}
use Rattle.acl_prims.proofs.Arguments.{whole_answer}
use Rattle.acl_prims.proofs.Opened.{truth_known}
use Rattle.acl_prims.proofs.apply.Goals as goal

pub returns-clause-whole : goal.returns-clause-whole
returns-clause-whole c =
    let h = c.args.heap.now in
    whole_answer c.args.syms.now c.apply_to.new.syms c.apply_to.new.heap c.prim_at.result (object_of h c.argument-x.result) (object_of h c.argument-y.result) (object_of h c.argument-z.result) c.apply_to.result (truth_known c.args.syms.now c.requires.opening)
    c.argument-x.ensures.known c.argument-y.ensures.known c.argument-z.ensures.known c.apply_to.ensures.answer

pub returns-clause-grows : goal.returns-clause-grows
returns-clause-grows c = Grown-both c.apply_to.ensures.grows c.apply_to.ensures.symbols
