use Rattle.std.proofs.Common.{◌≡◌, [], ◌++◌, drop}
use Rattle.model_expansion.specs.Layers.{bound_names}
use Rattle.acl_terms.specs.Forms.{numbers}
use Rattle.acl_layers.specs.Lists.{seen_bindings}
use Rattle.acl_layers.proofs.binding_parts.bound_names.Given as goal

abbrev pub invariant-loop-binding : goal.invariant-loop-binding
invariant-loop-binding l = bound_names [] (seen_bindings l._heap l.bindings) ≡ numbers l.names ++ bound_names [] (seen_bindings l._heap (drop l.binding-index l.bindings))
