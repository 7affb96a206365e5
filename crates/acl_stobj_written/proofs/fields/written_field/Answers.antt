use Rattle.std.specs.Prelude.{◌≡◌, true, false, Some, option_and_then, refl}
use Rattle.std.proofs.Common.{rules, sym, subst}
use Rattle.model_objects.specs.Object.{Pair}
use Rattle.model_prims.specs.Kinds.{by_number}
use Rattle.model_prims.specs.Lists.{is_true_list}
use Rattle.model_expansion.specs.Forms.{symbol}
use Rattle.model_stobjs.specs.Keys.{keys_in}
use Rattle.model_stobjs.specs.Descriptors.{field_keys, written_field_of}
use Rattle.acl_heap.specs.Objects.{object_of}
use Rattle.acl_layers.specs.Lists.{items_along}
use Rattle.acl_stobj_written.specs.Fields.{SeenField}
use Rattle.acl_stobj_written.proofs.FieldLemmas.{not_listed, listed}
use Rattle.acl_stobj_written.proofs.fields.written_field.Goals as goal

pub returns-then-not-is_true_list : goal.returns-then-not-is_true_list
returns-then-not-is_true_list c =
    let h = c.args.heap.now in
    let pair : object_of c.args.heap.now c.args.x ≡ Pair (object_of c.args.heap.now c.in-Pair.head) (object_of c.args.heap.now c.in-Pair.keys) = search rules in
    let list : is_true_list by_number (object_of c.args.heap.now c.in-Pair.keys) ≡ false = search rules in
    not_listed c.args.syms.now.symbols (object_of h c.args.x) (object_of h c.in-Pair.head) (object_of h c.in-Pair.keys) pair list

pub returns-in-Some : goal.returns-in-Some
returns-in-Some c =
    let h = c.args.heap.now in
    let sy = c.args.syms.now.symbols in
    let pair : object_of c.args.heap.now c.args.x ≡ Pair (object_of c.args.heap.now c.in-Pair.head) (object_of c.args.heap.now c.in-Pair.keys) = search rules in
    let list : is_true_list by_number (object_of c.args.heap.now c.in-Pair.keys) ≡ true = search rules in
    let name : symbol (object_of c.args.heap.now c.in-Pair.head) ≡ Some c.in-Some.name.0 = c.in-Some.ensures in
    let read = option_and_then (written_field_of c.in-Some.name.0) (keys_in sy field_keys (items_along (object_of h c.in-Pair.keys))) in
    subst (λ o. SeenField h c.field_with.result o) (sym (listed sy (object_of h c.args.x) (object_of h c.in-Pair.head) (object_of h c.in-Pair.keys) c.in-Some.name.0 read pair list name refl)) c.field_with.ensures
