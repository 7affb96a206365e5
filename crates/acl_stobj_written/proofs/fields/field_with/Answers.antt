use Rattle.std.specs.Prelude.{◌≡◌, true, false, is_some, option_map, codes, refl}
use Rattle.std.proofs.Common.{rules, arith}
use Rattle.model_stobjs.specs.Keys.{keys_in}
use Rattle.model_stobjs.specs.Descriptors.{field_keys}
use Rattle.acl_heap.specs.Objects.{object_of}
use Rattle.acl_layers.specs.Lists.{items_along}
use Rattle.acl_stobj_read.specs.Keys.{value_along}
use Rattle.acl_stobj_written.proofs.FieldLemmas.{no_keys, no_flag, field_is}
use Rattle.acl_stobj_written.proofs.fields.field_with.Goals as goal

pub returns-then-not-are_field_keys : goal.returns-then-not-are_field_keys
returns-then-not-are_field_keys c =
    let keys : is_some (keys_in c.args.syms.now.symbols field_keys (items_along (object_of c.args.heap.now c.args.keys))) ≡ false = search rules in
    no_keys c.args.syms.now.symbols c.args.name.0 (items_along (object_of c.args.heap.now c.args.keys)) keys

pub returns-in-None : goal.returns-in-None
returns-in-None c =
    let sy = c.args.syms.now.symbols in
    let os = items_along (object_of c.args.heap.now c.args.keys) in
    let keys : is_some (keys_in c.args.syms.now.symbols field_keys (items_along (object_of c.args.heap.now c.args.keys))) ≡ true = search rules in
    no_flag sy c.args.name.0 os (value_along sy (codes "RESIZABLE") os) keys refl c.in-None.ensures

pub returns-in-Some : goal.returns-in-Some
returns-in-Some c =
    let sy = c.args.syms.now.symbols in
    let h = c.args.heap.now in
    let os = items_along (object_of c.args.heap.now c.args.keys) in
    let keys : is_some (keys_in c.args.syms.now.symbols field_keys (items_along (object_of c.args.heap.now c.args.keys))) ≡ true = search rules in (
      field_is sy c.args.name.0 os (object_of h c.type_of.result) (value_along sy (codes "TYPE") os) (option_map (object_of h) c.initial_of.result) (value_along sy (codes "RESIZABLE") os) c.in-Some.resizable keys refl c.type_of.ensures.is c.initial_of.ensures.is refl c.in-Some.ensures,
      omega (arith, c.type_of.ensures.lies, c.initial_of.ensures.lies),
    )
