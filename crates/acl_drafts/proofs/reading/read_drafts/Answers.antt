use Rattle.std.proofs.Common.{rules, ◌≡◌, ◌≤◌, length}
use Rattle.model_events.specs.Functions.{written_functions}
use Rattle.acl_heap.specs.Objects.{object_of}
use Rattle.acl_worlds.specs.Contents.{seen_world}
use Rattle.acl_drafts.specs.Functions.{functions_reach}
use Rattle.acl_drafts.proofs.ReadingLemmas.{no_shape, a_shape, refused_shape, refused_behind}
use Rattle.acl_drafts.proofs.reading.read_drafts.Goals as goal

pub returns-in-None-clause-err : goal.returns-in-None-clause-err
returns-in-None-clause-err c =
    let o = object_of c.args.heap.now c.args.form in
    refused_shape (seen_world c.args.heap.now c.args.world.now) c.args.syms.now.symbols c.args.head.0 o
    (no_shape c.args.heap.now (written_functions c.args.head.0 o) c.in-Ok.read c.in-None.is c.in-Ok.ensures)

pub drafts_from-requires : goal.drafts_from-requires
drafts_from-requires c =
    let shape = a_shape c.args.heap.now (written_functions c.args.head.0 (object_of c.args.heap.now c.args.form)) c.in-Ok.read c.in-Some.functions c.in-Some.is c.in-Ok.ensures in
    let there : functions_reach c.in-Some.functions ≤ length c.args.heap.now = shape.1 in
    search (rules, there)

pub returns-in-Err-drafts_from-clause-err : goal.returns-in-Err-drafts_from-clause-err
returns-in-Err-drafts_from-clause-err c =
    let o = object_of c.args.heap.now c.args.form in
    let shape = a_shape c.args.heap.now (written_functions c.args.head.0 o) c.in-Ok.read c.in-Some.functions c.in-Some.is c.in-Ok.ensures in
    refused_behind (seen_world c.args.heap.now c.args.world.now) c.args.syms.now.symbols c.args.head.0 o c.args.heap.now c.drafts_from.new.heap c.in-Some.functions c.as_slice.result.now
    c.in-Err-drafts_from.fault shape.0 c.as_slice.ensures c.in-Err-drafts_from.ensures.err
