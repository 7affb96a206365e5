use Rattle.std.proofs.Common.{sym, ◌∙◌}
use Rattle.acl_heap.specs.Objects.{object_of}
use Rattle.acl_types.specs.Shapes.{seen_test}
use Rattle.acl_declare.proofs.DepthLemmas.{plain_some}
use Rattle.acl_declare.proofs.plain.plain_test.Goals as goal

pub returns-in-Ok-clause-ok : goal.returns-in-Ok-clause-ok
returns-in-Ok-clause-ok c = (
  plain_some c.args.left c.args.name.0 (object_of c.args.heap.now c.args.written) (seen_test c.type_test.new.heap c.in-Ok.test)
      (sym c.plain_fits.ensures ∙ c.if-not-plain_fits.false) c.requires.left c.in-Ok.ensures.ok.0,
  c.in-Ok.ensures.ok.1,
)
