use Rattle.acl_declare.proofs.TypedLemmas.{typed_is}
use Rattle.acl_declare.proofs.typed.typed_for.Goals as goal

pub returns-in-Ok-add_listed-clause-is : goal.returns-in-Ok-add_listed-clause-is
returns-in-Ok-add_listed-clause-is c =
    typed_is c.args.syms.now.symbols c.args.table.now c.in-Ok.ensures.grows c.args.said.now c.args.spec c.args.list c.in-Ok.is_type _ c.requires.said c.requires.spec c.requires.list
    c.in-Ok.ensures.is c.if-not-is_type.false c.in-Ok-add_listed.ensures.is
