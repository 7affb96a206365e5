use Rattle.std.proofs.Common.{◌≡◌}
use Rattle.model_objects.specs.Object.{weight}
use Rattle.model_output_so_far.specs.Commands.{elements}
use Rattle.acl_heap.specs.Objects.{object_of}
use Rattle.acl_forms.specs.Forms.{form_at, forms_at, IsWhole, AreWhole}
use Rattle.acl_commands.proofs.PartLemmas.{behind}
use Rattle.acl_commands.proofs.parts.elements.Given as goal

abbrev pub invariant-loop-first : goal.invariant-loop-first
invariant-loop-first l = record {
  rest : IsWhole l.syms l.heap l.rest;
  words : AreWhole l.syms l.heap l.words.items;
  same : behind (forms_at l.syms l.heap l.words.items) (elements (form_at l.syms l.heap l.rest)) ≡ elements (form_at l.syms l.heap l.fn.list);
}

abbrev pub decreases-loop-first : goal.decreases-loop-first
decreases-loop-first l = weight (object_of l.heap l.rest)
