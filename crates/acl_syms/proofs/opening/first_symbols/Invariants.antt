use Rattle.acl_syms.specs.Opening.{AreFirst}
use Rattle.acl_syms.proofs.opening.first_symbols.Given as goal

abbrev pub invariant-loop-number : goal.invariant-loop-number
invariant-loop-number l = AreFirst l.number l.ids.items
