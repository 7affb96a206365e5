use Rattle.std.proofs.Common.{◌≡◌, ◌≤◌, [], ◌++◌, drop, length}
use Rattle.model_expansion.specs.Layers.{bound_forms}
use Rattle.acl_layers.specs.Lists.{seen_bindings}
use Rattle.acl_layers.specs.Layers.{seen_parts, parts_reach, PartsFit}
use Rattle.acl_layers.proofs.binding_parts.bound_forms.Given as goal

abbrev pub invariant-loop-binding : goal.invariant-loop-binding
invariant-loop-binding l = record {
  same : bound_forms [] (seen_bindings l.heap l.bindings) ≡ seen_parts l.heap l.parts ++ bound_forms [] (seen_bindings l.heap (drop l.binding-index l.bindings));
  lies : parts_reach l.parts ≤ length l.heap;
  fits : PartsFit l.heap l.parts;
}
