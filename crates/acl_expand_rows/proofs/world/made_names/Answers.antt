use Rattle.model_symbols.proofs.TableLemmas.{Extends-then}
use Rattle.acl_expand_rows.proofs.world.made_names.Goals as goal

pub returns : goal.returns
returns c =
    Extends-then c.intern.ensures.grows
    (Extends-then c.intern-2.ensures.grows (Extends-then c.intern-3.ensures.grows (Extends-then c.intern-4.ensures.grows c.intern-5.ensures.grows)))
