use Rattle.acl_maps.proofs.HeldLemmas.{IsCounting}
use Rattle.acl_maps.proofs.counting.count_entries.Given as goal

abbrev pub invariant-loop-key : goal.invariant-loop-key
invariant-loop-key l =
    (goal.iterator-loop-key).can_next l._key-iterator ×
    (goal.iterator-loop-key).is_finite l._key-iterator ×
    IsCounting l.places.entries l._key-iterator l.start l.total
