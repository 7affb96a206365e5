use Rattle.acl_hash.proofs.FieldLemmas.{IsCleared}
use Rattle.acl_hash.proofs.field.give_all_back.Given as goal

abbrev pub invariant-loop-key : goal.invariant-loop-key
invariant-loop-key l =
    (goal.iterator-loop-key).can_next l._key-iterator ×
    (goal.iterator-loop-key).is_finite l._key-iterator ×
    IsCleared l.initial.pool l.pool l.places.entries l._key-iterator
