use Rattle.std.specs.Prelude.{◌≡◌, true, false, None, Some, is_some, codes, refl}
use Rattle.std.proofs.Common.{rules, arith}
use Rattle.model_stobjs.specs.Keys.{keys_in}
use Rattle.model_stobjs.specs.Descriptors.{stobj_keys, is_executable_flag, renaming_of, old_stobj}
use Rattle.acl_heap.specs.Objects.{object_of}
use Rattle.acl_terms.specs.Signatures.{seen_name}
use Rattle.acl_worlds.specs.Contents.{seen_world}
use Rattle.acl_layers.specs.Lists.{items_along}
use Rattle.acl_stobj_read.specs.Keys.{value_along}
use Rattle.acl_stobj_read.specs.Written.{seen_fields, seen_renaming}
use Rattle.acl_stobj_written.proofs.StobjLemmas.{no_keys, not_executable, no_renaming, no_old, stobj_is}
use Rattle.acl_stobj_written.proofs.stobjs.stobj_with.Goals as goal

pub returns-then-not-are_stobj_keys : goal.returns-then-not-are_stobj_keys
returns-then-not-are_stobj_keys c =
    let h = c.args.heap.now in
    let keys : is_some (keys_in c.args.syms.now.symbols stobj_keys (items_along (object_of c.args.heap.now c.args.keys))) ≡ false = search rules in
    no_keys (seen_world h c.args.world.now) c.args.syms.now.symbols (object_of h c.args.name) (seen_fields h c.args.fields) (items_along (object_of h c.args.keys)) keys

pub returns-then-not-executable_in : goal.returns-then-not-executable_in
returns-then-not-executable_in c =
    let h = c.args.heap.now in
    let sy = c.args.syms.now.symbols in
    let os = items_along (object_of c.args.heap.now c.args.keys) in
    let keys : is_some (keys_in c.args.syms.now.symbols stobj_keys (items_along (object_of c.args.heap.now c.args.keys))) ≡ true = search rules in
    let executable : is_executable_flag (value_along c.args.syms.now.symbols (codes "NON-EXECUTABLE") (items_along (object_of c.args.heap.now c.args.keys))) ≡ false = search rules in
    not_executable (seen_world h c.args.world.now) sy (object_of h c.args.name) (seen_fields h c.args.fields) os (value_along sy (codes "NON-EXECUTABLE") os) keys refl executable

pub returns-in-None : goal.returns-in-None
returns-in-None c =
    let h = c.args.heap.now in
    let sy = c.args.syms.now.symbols in
    let os = items_along (object_of c.args.heap.now c.args.keys) in
    let keys : is_some (keys_in c.args.syms.now.symbols stobj_keys (items_along (object_of c.args.heap.now c.args.keys))) ≡ true = search rules in
    let executable : is_executable_flag (value_along c.args.syms.now.symbols (codes "NON-EXECUTABLE") (items_along (object_of c.args.heap.now c.args.keys))) ≡ true = search rules in
    let renaming : renaming_of (value_along c.args.syms.now.symbols (codes "RENAMING") (items_along (object_of c.args.heap.now c.args.keys))) ≡ None = rw c.in-None.is at c.in_ok-renaming_in.ensures in
    no_renaming (seen_world h c.args.world.now) sy (object_of h c.args.name) (seen_fields h c.args.fields) os (value_along sy (codes "NON-EXECUTABLE") os) (value_along sy (codes "RENAMING") os) keys refl executable refl renaming

pub returns-in-None-old_in : goal.returns-in-None-old_in
returns-in-None-old_in c =
    let h = c.args.heap.now in
    let sy = c.args.syms.now.symbols in
    let os = items_along (object_of c.args.heap.now c.args.keys) in
    let keys : is_some (keys_in c.args.syms.now.symbols stobj_keys (items_along (object_of c.args.heap.now c.args.keys))) ≡ true = search rules in
    let executable : is_executable_flag (value_along c.args.syms.now.symbols (codes "NON-EXECUTABLE") (items_along (object_of c.args.heap.now c.args.keys))) ≡ true = search rules in
    let renaming : renaming_of (value_along c.args.syms.now.symbols (codes "RENAMING") (items_along (object_of c.args.heap.now c.args.keys))) ≡ Some (seen_renaming c.in-Some.renaming) = rw c.in-Some.is at c.in_ok-renaming_in.ensures in
    no_old (seen_world h c.args.world.now) sy (object_of h c.args.name) (seen_fields h c.args.fields) os (value_along sy (codes "NON-EXECUTABLE") os) (value_along sy (codes "RENAMING") os) (value_along sy (codes "CONGRUENT-TO") os) (seen_renaming c.in-Some.renaming)
    keys refl executable refl renaming refl c.in-None-old_in.ensures

pub returns-in-Some-old_in : goal.returns-in-Some-old_in
returns-in-Some-old_in c =
    let h = c.args.heap.now in
    let sy = c.args.syms.now.symbols in
    let os = items_along (object_of c.args.heap.now c.args.keys) in
    let keys : is_some (keys_in c.args.syms.now.symbols stobj_keys (items_along (object_of c.args.heap.now c.args.keys))) ≡ true = search rules in
    let executable : is_executable_flag (value_along c.args.syms.now.symbols (codes "NON-EXECUTABLE") (items_along (object_of c.args.heap.now c.args.keys))) ≡ true = search rules in
    let renaming : renaming_of (value_along c.args.syms.now.symbols (codes "RENAMING") (items_along (object_of c.args.heap.now c.args.keys))) ≡ Some (seen_renaming c.in-Some.renaming) = rw c.in-Some.is at c.in_ok-renaming_in.ensures in (
      stobj_is (seen_world h c.args.world.now) sy (object_of h c.args.name) (seen_fields h c.args.fields) os (value_along sy (codes "NON-EXECUTABLE") os) (value_along sy (codes "RENAMING") os) (value_along sy (codes "CONGRUENT-TO") os) (seen_renaming c.in-Some.renaming)
          (seen_name c.in-Some-old_in.congruent_to) keys refl executable refl renaming refl c.in-Some-old_in.ensures,
      omega (arith, c.requires.name, c.requires.fields),
    )
