use Rattle.std.specs.Prelude.{◌≡◌}
use Rattle.model_symbols.specs.Growth.{Extends}
use Rattle.acl_client.proofs.intern_others.Given as goal

abbrev pub invariant-loop-other : goal.invariant-loop-other
invariant-loop-other l = record {
  grows : Extends l.fn.symbols l.symbols;
  packages : l.symbols.packages ≡ l.fn.symbols.packages;
}
