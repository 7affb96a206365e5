use Rattle.acl_layers.proofs.ScopingLemmas.{let_no_bindings}
use Rattle.acl_layers.proofs.scoping.let_row.Goals as goal

pub returns-in-None : goal.returns-in-None
returns-in-None c = let_no_bindings c.args.syms.now.symbols _ _ _ c.in-Some.ensures.0 (rw c.in-None.is at c.in_ok-bindings.ensures)
