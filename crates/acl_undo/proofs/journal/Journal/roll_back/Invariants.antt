use Rattle.std.proofs.Common.{◌≡◌, true, reverse, length}
use Rattle.acl_undo.specs.Parts.{after_all, AllFit}
use Rattle.acl_undo.proofs.journal.Journal.roll_back.Given as goal

abbrev pub invariant-loop-old : goal.invariant-loop-old
invariant-loop-old g l =
    (l.self.is_open ≡ true) ×
    AllFit g.T.Undo.fits g.T.Undo.undone (reverse l.self.parts) l.state
    × (after_all g.T.Undo.undone (reverse l.self.parts) l.state ≡ after_all g.T.Undo.undone (reverse l.fn.self.parts) l.fn.state)

abbrev pub decreases-loop-old : goal.decreases-loop-old
decreases-loop-old g l = length l.self.parts
