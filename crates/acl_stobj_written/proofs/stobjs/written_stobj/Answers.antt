use Rattle.std.specs.Prelude.{◌≡◌, true, None, Some, refl}
use Rattle.std.proofs.Common.{rules, sym, subst}
use Rattle.model_objects.specs.Object.{Pair}
use Rattle.model_prims.specs.Kinds.{by_number}
use Rattle.model_prims.specs.Lists.{is_true_list}
use Rattle.model_expansion.specs.Forms.{each, is_keyword_object}
use Rattle.model_stobjs.specs.Descriptors.{written_field, before_first, from_first}
use Rattle.acl_heap.specs.Objects.{object_of}
use Rattle.acl_worlds.specs.Contents.{seen_world}
use Rattle.acl_layers.specs.Lists.{items_along}
use Rattle.acl_stobj_read.specs.Written.{seen_fields}
use Rattle.acl_stobj_written.specs.Fields.{SeenFields}
use Rattle.acl_stobj_written.specs.Read.{SeenStobj}
use Rattle.acl_stobj_written.proofs.StobjLemmas.{bad_fields, whole}
use Rattle.acl_stobj_written.proofs.stobjs.written_stobj.Goals as goal

pub returns-in-None : goal.returns-in-None
returns-in-None c =
    let h = c.args.heap.now in
    let list : is_true_list by_number (object_of c.args.heap.now c.args.form) ≡ true = search rules in
    let pair : object_of c.args.heap.now c.args.form ≡ Pair (object_of c.args.heap.now c.in-Pair.name) (object_of c.args.heap.now c.in-Pair.rest) = search rules in
    bad_fields (seen_world h c.args.world.now) c.args.syms.now.symbols (object_of h c.args.form) (object_of h c.in-Pair.name) (object_of h c.in-Pair.rest) list pair (rw c.in-None.is at c.in_ok-fields_of.ensures)

pub returns-in_ok-stobj-in-Some : goal.returns-in_ok-stobj-in-Some
returns-in_ok-stobj-in-Some c =
    let h = c.args.heap.now in
    let sy = c.args.syms.now.symbols in
    let list : is_true_list by_number (object_of c.args.heap.now c.args.form) ≡ true = search rules in
    let pair : object_of c.args.heap.now c.args.form ≡ Pair (object_of c.args.heap.now c.in-Pair.name) (object_of c.args.heap.now c.in-Pair.rest) = search rules in
    let found : SeenFields c.args.heap.now (Some (c.in-Some.fields, c.in-Some.keys)) (each (written_field c.args.syms.now.symbols) (before_first (is_keyword_object c.args.syms.now.symbols) (items_along (object_of c.args.heap.now c.in-Pair.rest)))) (from_first (is_keyword_object c.args.syms.now.symbols) (items_along (object_of c.args.heap.now c.in-Pair.rest))) =
    rw c.in-Some.is at c.in_ok-fields_of.ensures in
    subst (λ o. SeenStobj h c.in_ok-stobj-in-Some.stobj o)
    (sym (whole (seen_world h c.args.world.now) sy (object_of h c.args.form) (object_of h c.in-Pair.name) (object_of h c.in-Pair.rest) (seen_fields h c.in-Some.fields) (items_along (object_of h c.in-Some.keys)) list pair found.0 (sym found.3)))
    c.in_ok-stobj-in-Some.ensures
