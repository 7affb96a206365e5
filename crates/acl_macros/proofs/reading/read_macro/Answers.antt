use Rattle.std.proofs.Common.{rules, ◌≡◌, ◌≤◌, length}
use Rattle.acl_heap.specs.Objects.{object_of}
use Rattle.acl_worlds.specs.Contents.{seen_world}
use Rattle.acl_macros.specs.Written.{macro_reach}
use Rattle.acl_macros.proofs.ReadingLemmas.{no_shape, a_shape, refused_shape, refused_behind}
use Rattle.acl_macros.proofs.reading.read_macro.Goals as goal

pub returns-in-None-clause-err : goal.returns-in-None-clause-err
returns-in-None-clause-err c =
    let w = seen_world c.args.heap.now c.args.world.now in
    let sy = c.args.syms.now.symbols in
    let o = object_of c.args.heap.now c.args.form in
    refused_shape w sy o (no_shape w sy o c.args.heap.now c.in-Ok.read c.in-None.is c.in-Ok.ensures)

pub draft_from-requires : goal.draft_from-requires
draft_from-requires c =
    let w = seen_world c.args.heap.now c.args.world.now in
    let sy = c.args.syms.now.symbols in
    let shape = a_shape w sy (object_of c.args.heap.now c.args.form) c.args.heap.now c.in-Ok.read c.in-Some.written c.in-Some.is c.in-Ok.ensures in
    let there : macro_reach c.in-Some.written ≤ length c.args.heap.now = shape.1 in
    search (rules, there)

pub returns-in-Err-draft_from-clause-err : goal.returns-in-Err-draft_from-clause-err
returns-in-Err-draft_from-clause-err c =
    let w = seen_world c.args.heap.now c.args.world.now in
    let sy = c.args.syms.now.symbols in
    let o = object_of c.args.heap.now c.args.form in
    let shape = a_shape w sy o c.args.heap.now c.in-Ok.read c.in-Some.written c.in-Some.is c.in-Ok.ensures in
    refused_behind w sy o c.args.heap.now c.draft_from.new.heap c.in-Some.written c.in-Err-draft_from.fault shape.0 c.in-Err-draft_from.ensures.err
