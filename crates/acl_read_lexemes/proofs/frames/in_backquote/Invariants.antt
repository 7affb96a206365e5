use Rattle.std.specs.Prelude.{◌≡◌, ◌≤◌, length, take}
use Rattle.acl_read_lexemes.specs.Frames.{inmost_first, in_backquote}
use Rattle.acl_read_lexemes.proofs.frames.in_backquote.Given as goal

abbrev pub invariant-loop-count : goal.invariant-loop-count
invariant-loop-count l = record {
  within : l.count ≤ length l.frames;
  same : in_backquote (inmost_first (take l.count l.frames)) ≡ in_backquote (inmost_first l.frames);
}

abbrev pub decreases-loop-count : goal.decreases-loop-count
decreases-loop-count l = l.count
