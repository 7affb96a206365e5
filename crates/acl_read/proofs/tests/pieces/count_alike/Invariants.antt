use Rattle.std.proofs.Common.{length, ◌<◌, ◌≡◌}
use Rattle.model_symbols.specs.Growth.{Extends}
use Rattle.model_symbols.specs.Opening.{opening}
use Rattle.acl_read.specs.Reading.{IsReady, has_ended}
use Rattle.acl_read.proofs.tests.pieces.count_alike.Given as goal

abbrev pub invariant-loop-count : goal.invariant-loop-count
invariant-loop-count l = record {
  cut : IsReady l.syms l.current l.cut;
  whole : IsReady l.syms l.current l.whole;
  known : l.current.0 < length l.syms.packages;
  opens : Extends opening l.syms;
  ended : has_ended l.cut ≡ has_ended l.fn.cut;
}
