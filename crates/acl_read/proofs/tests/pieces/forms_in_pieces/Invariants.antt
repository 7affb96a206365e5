use Rattle.std.proofs.Common.{length, ◌-◌, ◌<◌, ◌≡◌, false}
use Rattle.model_symbols.specs.Growth.{Extends}
use Rattle.model_symbols.specs.Opening.{opening}
use Rattle.acl_read.specs.Reading.{IsReady, has_ended}
use Rattle.acl_read.proofs.tests.pieces.forms_in_pieces.Given as goal

abbrev pub invariant-loop-at : goal.invariant-loop-at
invariant-loop-at l = record {
  cut : IsReady l.syms l.current l.cut;
  whole : IsReady l.syms l.current l.whole;
  known : l.current.0 < length l.syms.packages;
  opens : Extends opening l.syms;
  unended : has_ended l.cut ≡ false;
}

abbrev pub decreases-loop-at : goal.decreases-loop-at
decreases-loop-at l = length l.book - l.at
