use Rattle.std.specs.Prelude.{◌≡◌, ◌++◌, ◌∷◌, [], false, Some}
use Rattle.std.proofs.Common.{rules, sym, ap, ◌∙◌, arith}
use Rattle.model_objects.specs.Object.{Pair}
use Rattle.model_expansion.specs.Forms.{each, is_keyword_object}
use Rattle.model_stobjs.specs.Descriptors.{written_field, before_first}
use Rattle.acl_heap.specs.Objects.{object_of}
use Rattle.acl_layers.specs.Lists.{items_along}
use Rattle.acl_layers.proofs.EachLemmas.{after}
use Rattle.acl_stobj_read.specs.Written.{seen_written, seen_fields}
use Rattle.acl_stobj_written.proofs.FieldLemmas.{fields_more, behind_more}
use Rattle.acl_stobj_written.proofs.fields.fields_of.Goals as goal

pub fields-preserved : goal.fields-preserved
fields-preserved c =
    let h = c.args.heap.now in
    let sy = c.args.syms.now.symbols in
    let pair : object_of c.args.heap.now c.fields.rest ≡ Pair (object_of c.args.heap.now c.in-Pair.first) (object_of c.args.heap.now c.in-Pair.next) = search rules in
    let key : is_keyword_object c.args.syms.now.symbols (object_of c.args.heap.now c.in-Pair.first) ≡ false = search rules in
    let field : written_field c.args.syms.now.symbols (object_of c.args.heap.now c.in-Pair.first) ≡ Some (seen_written c.args.heap.now c.in-Some.field) = c.in-Some.ensures.0 in
    record {
      lies = search rules;
      reach = omega (arith, c.in_ok-push_field-in-Some.ensures.reach, c.fields.invariant.reach, c.in-Some.ensures.1);
      same =
          c.fields.invariant.same
          ∙ (fields_more sy (seen_fields h c.fields.found) (object_of h c.fields.rest) (object_of h c.in-Pair.first) (object_of h c.in-Pair.next) (seen_written h c.in-Some.field) pair key field
          ∙ ap (λ fs. after fs (each (written_field sy) (before_first (is_keyword_object sy) (items_along (object_of h c.in-Pair.next))))) (sym c.in_ok-push_field-in-Some.ensures.at));
      behind = c.fields.invariant.behind ∙ behind_more sy (object_of h c.fields.rest) (object_of h c.in-Pair.first) (object_of h c.in-Pair.next) pair key;
    }
