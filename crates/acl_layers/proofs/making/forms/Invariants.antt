use Rattle.std.specs.Prelude.{◌≡◌, ◌≤◌, ◌++◌, length, map}
use Rattle.model_expansion.specs.Layers as layers
use Rattle.acl_layers.specs.Lists.{seen_left, LeftLies}
use Rattle.acl_layers.specs.Layers.{seen_parts, parts_reach, PartsFit}
use Rattle.acl_layers.proofs.making.forms.Given as goal

abbrev pub invariant-forms : goal.invariant-forms
invariant-forms l = record {
  at_lies : LeftLies l.heap l.at;
  same : map layers.Form (seen_left l.heap l.fn.left) ≡ seen_parts l.heap l.all ++ map layers.Form (seen_left l.heap l.at);
  lies : parts_reach l.all ≤ length l.heap;
  fits : PartsFit l.heap l.all;
}

abbrev pub decreases-forms : goal.decreases-forms
decreases-forms l = length (seen_left l.heap l.at)
