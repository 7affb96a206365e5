use Rattle.std.proofs.Common.{sym, ap, ◌∙◌}
use Rattle.acl_heap.specs.Objects.{object_of}
use Rattle.acl_terms.specs.Forms.{seen_core}
use Rattle.acl_types.specs.Shapes.{seen_test}
use Rattle.acl_declare.specs.Said.{seen_declared}
use Rattle.acl_declare.proofs.SaidLemmas.{said_later}
use Rattle.acl_declare.proofs.TypedLemmas.{typed_nothing}
use Rattle.acl_declare.proofs.typed.add_type.Goals as goal

pub returns-then-asks_nothing-clause-is : goal.returns-then-asks_nothing-clause-is
returns-then-asks_nothing-clause-is c =
    typed_nothing c.args._syms.now.symbols (object_of c.args.heap.now c.args.spec) (seen_declared c.args.heap.now c.args.said.now) (seen_declared c.declared_test.new.heap c.args.said.now)
    c.args.name.0 (seen_core c.declared_test.new.heap c.in-Some.test) (sym (ap (seen_test c.declared_test.new.heap) c.in-Some.is) ∙ c.in-Ok.ensures.ok.0)
    (sym c.is_symbol-asks_nothing.ensures ∙ c.if-asks_nothing.true) (said_later c.in-Ok.ensures.grows c.args.said.now c.requires.said)
