use Rattle.std.specs.Prelude.{◌≡◌, List, map, Some, None, false, is_some}
use Rattle.std.proofs.Common.{sym, ◌∙◌, rules}
use Rattle.model_objects.specs.Object.{Object, Pair}
use Rattle.model_stobjs.specs.Keys.{known_key, keys_in}
use Rattle.acl_heap.specs.Objects.{object_of}
use Rattle.acl_layers.specs.Lists.{items_along}
use Rattle.acl_stobj_read.specs.Keys.{key_name, value_along}
use Rattle.acl_stobj_read.proofs.KeyLemmas.{keys_more, keys_twice, keys_unknown}
use Rattle.acl_stobj_read.proofs.keys.are_keys.Goals as goal

pub returns-in_default-known_key : goal.returns-in_default-known_key
returns-in_default-known_key c =
    let h = c.args.heap.now in
    let sy = c.args.syms.now.symbols in
    let names = map key_name c.args.known.now in
    let outer : object_of c.args.heap.now c.pairs.at ≡ Pair (object_of c.args.heap.now c.in-Pair.name) (object_of c.args.heap.now c.in-Pair.rest) = search rules in
    let inner : object_of c.args.heap.now c.in-Pair.rest ≡ Pair (object_of c.args.heap.now c.in-Pair-look.field-0) (object_of c.args.heap.now c.in-Pair-look.next) = search rules in
    let none : known_key c.args.syms.now.symbols (map key_name c.args.known.now) (object_of c.args.heap.now c.in-Pair.name) ≡ None = search rules in
    sym (c.pairs.invariant.same ∙ keys_unknown sy names (object_of h c.pairs.at) (object_of h c.in-Pair.name) (object_of h c.in-Pair.rest) (object_of h c.in-Pair-look.field-0) (object_of h c.in-Pair-look.next) outer inner none)

pub returns-in-Some-key_value : goal.returns-in-Some-key_value
returns-in-Some-key_value c =
    let h = c.args.heap.now in
    let sy = c.args.syms.now.symbols in
    let names = map key_name c.args.known.now in
    let outer : object_of c.args.heap.now c.pairs.at ≡ Pair (object_of c.args.heap.now c.in-Pair.name) (object_of c.args.heap.now c.in-Pair.rest) = search rules in
    let inner : object_of c.args.heap.now c.in-Pair.rest ≡ Pair (object_of c.args.heap.now c.in-Pair-look.field-0) (object_of c.args.heap.now c.in-Pair-look.next) = search rules in
    sym (c.pairs.invariant.same ∙ keys_twice sy names (key_name c.in-Some.key) (object_of h c.pairs.at) (object_of h c.in-Pair.name) (object_of h c.in-Pair.rest) (object_of h c.in-Pair-look.field-0) (object_of h c.in-Pair-look.next) (object_of h c.in-Some-key_value.field-0) outer inner c.in-Some.ensures c.in-Some-key_value.ensures.is)

pub pairs-preserved : goal.pairs-preserved
pairs-preserved c =
    let h = c.args.heap.now in
    let sy = c.args.syms.now.symbols in
    let names = map key_name c.args.known.now in
    let outer : object_of c.args.heap.now c.pairs.at ≡ Pair (object_of c.args.heap.now c.in-Pair.name) (object_of c.args.heap.now c.in-Pair.rest) = search rules in
    let inner : object_of c.args.heap.now c.in-Pair.rest ≡ Pair (object_of c.args.heap.now c.in-Pair-look.field-0) (object_of c.args.heap.now c.in-Pair-look.next) = search rules in
    record {
      lies = search rules;
      same = c.pairs.invariant.same ∙ keys_more sy names (key_name c.in-Some.key) (object_of h c.pairs.at) (object_of h c.in-Pair.name) (object_of h c.in-Pair.rest) (object_of h c.in-Pair-look.field-0) (object_of h c.in-Pair-look.next) outer inner c.in-Some.ensures c.in-None.ensures.is;
    }
