use Rattle.acl_maps.proofs.ListLemmas.{IsCopying}
use Rattle.acl_maps.proofs.listing.copy_entries.Given as goal

abbrev pub invariant-loop-key : goal.invariant-loop-key
invariant-loop-key l =
    (goal.iterator-loop-key).can_next l._key-iterator ×
    (goal.iterator-loop-key).is_finite l._key-iterator ×
    IsCopying l.places.entries l._key-iterator l.initial.heap l.heap l.copied.items
