use Rattle.std.specs.Prelude.{◌≡◌, length}
use Rattle.acl_read_lexemes.specs.Frames.{inmost_first, delivered}
use Rattle.acl_read_lexemes.proofs.frames.deliver.Given as goal

abbrev pub invariant-loop-frame : goal.invariant-loop-frame
invariant-loop-frame l = delivered (inmost_first l.frames.items) ≡ delivered (inmost_first l.fn.frames.items)

abbrev pub decreases-loop-frame : goal.decreases-loop-frame
decreases-loop-frame l = length l.frames.items
