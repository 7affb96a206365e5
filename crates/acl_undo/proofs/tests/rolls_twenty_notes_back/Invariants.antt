use Rattle.std.proofs.Common.{◌≡◌, ◌<◌, true, slice_set, reverse}
use Rattle.acl_undo.specs.Parts.{AllFit}
use Rattle.acl_undo.specs.declared.tests.Counters.{Counters}
use Rattle.acl_undo.proofs.tests.rolls_twenty_notes_back.Given as goal

abbrev pub invariant-loop-turn : goal.invariant-loop-turn
invariant-loop-turn g l =
    (l.journal.is_open ≡ true) × ((s : Counters) → AllFit (λ slot s. slot.place < 4) (λ slot s. record { numbers = slice_set s.numbers slot.place slot.number }) (reverse l.journal.parts) s)
