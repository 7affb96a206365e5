use Rattle.std.specs.Prelude.{◌≡◌, length}
use Rattle.model_expansion.specs.Layers.{are_case_clauses}
use Rattle.acl_layers.specs.Lists.{seen_left, LeftLies}
use Rattle.acl_layers.proofs.clauses.are_case_clauses.Given as goal

abbrev pub invariant-clauses : goal.invariant-clauses
invariant-clauses l = record {
  lies : LeftLies l.heap l.at;
  same : are_case_clauses l._syms.symbols (seen_left l.heap l.fn.left) ≡ are_case_clauses l._syms.symbols (seen_left l.heap l.at);
}

abbrev pub decreases-clauses : goal.decreases-clauses
decreases-clauses l = length (seen_left l.heap l.at)
