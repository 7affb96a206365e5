use Rattle.std.specs.Prelude.{◌≡◌, ◌≤◌, length}
use Rattle.model_objects.specs.Object.{weight}
use Rattle.model_expansion.specs.Forms.{each, is_keyword_object}
use Rattle.model_stobjs.specs.Descriptors.{written_field, before_first, from_first}
use Rattle.acl_heap.specs.Objects.{object_of, Lies}
use Rattle.acl_layers.specs.Lists.{items_along}
use Rattle.acl_layers.proofs.EachLemmas.{after}
use Rattle.acl_stobj_read.specs.Written.{seen_fields, fields_reach}
use Rattle.acl_stobj_written.proofs.fields.fields_of.Given as goal

abbrev pub invariant-fields : goal.invariant-fields
invariant-fields l = record {
  lies : Lies l.heap l.rest;
  reach : fields_reach l.found ≤ length l.heap;
  same : each (written_field l.syms.symbols) (before_first (is_keyword_object l.syms.symbols) (items_along (object_of l.heap l.fn.list))) ≡ after (seen_fields l.heap l.found) (each (written_field l.syms.symbols) (before_first (is_keyword_object l.syms.symbols) (items_along (object_of l.heap l.rest))));
  behind : from_first (is_keyword_object l.syms.symbols) (items_along (object_of l.heap l.fn.list)) ≡ from_first (is_keyword_object l.syms.symbols) (items_along (object_of l.heap l.rest));
}

abbrev pub decreases-fields : goal.decreases-fields
decreases-fields l = weight (object_of l.heap l.rest)
