use Rattle.acl_machine.proofs.WordLemmas.{Collects}
use Rattle.acl_machine.proofs.words.words.Given as goal

-- the words so far
abbrev pub invariant-loop-k : goal.invariant-loop-k
invariant-loop-k l = Collects l._syms l._heap l.values l.first l.k l.count l.words.items
