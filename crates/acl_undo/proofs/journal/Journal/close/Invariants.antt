use Rattle.std.proofs.Common.{◌≡◌, true, reverse, length}
use Rattle.acl_undo.specs.Parts.{after_all, AllFit}
use Rattle.acl_undo.proofs.journal.Journal.close.Given as goal

abbrev pub invariant-loop-part : goal.invariant-loop-part
invariant-loop-part g l =
    (l.self.is_open ≡ true) ×
    AllFit g.T.Undo.fits g.T.Undo.forgotten (reverse l.self.parts) l.state
    × (after_all g.T.Undo.forgotten (reverse l.self.parts) l.state ≡ after_all g.T.Undo.forgotten (reverse l.fn.self.parts) l.fn.state)
    × g.T.Undo.stands_for_same l.fn.state l.state

abbrev pub decreases-loop-part : goal.decreases-loop-part
decreases-loop-part g l = length l.self.parts
