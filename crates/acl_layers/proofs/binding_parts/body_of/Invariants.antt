use Rattle.std.specs.Prelude.{◌≡◌, length}
use Rattle.model_expansion.specs.Layers.{body_of}
use Rattle.acl_layers.specs.Lists.{seen_left, LeftLies}
use Rattle.acl_layers.proofs.binding_parts.body_of.Given as goal

abbrev pub invariant-forms : goal.invariant-forms
invariant-forms l = record {
  lies : LeftLies l.heap l.at;
  same : body_of l._syms.symbols (seen_left l.heap l.fn.left) ≡ body_of l._syms.symbols (seen_left l.heap l.at);
}

abbrev pub decreases-forms : goal.decreases-forms
decreases-forms l = length (seen_left l.heap l.at)
