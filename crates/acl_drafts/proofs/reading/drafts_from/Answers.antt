use Rattle.std.proofs.Common.{length}
use Rattle.acl_worlds.specs.Contents.{seen_world}
use Rattle.acl_drafts.specs.Functions.{seen_functions}
use Rattle.acl_drafts.specs.Refusals.{early_refusal}
use Rattle.acl_drafts.proofs.RefusalLemmas.{refused_later, refused_early}
use Rattle.acl_drafts.proofs.ReadingLemmas.{no_refusal, a_refusal, refusal_lies, unrefused}
use Rattle.acl_drafts.proofs.reading.drafts_from.Goals as goal

pub returns-in-Some-clause-err : goal.returns-in-Some-clause-err
returns-in-Some-clause-err c =
    let w = seen_world c.args.heap.now c.args.world.now in
    let fs = seen_functions c.args.heap.now c.args.functions.now in
    refused_early w c.args.syms.now.symbols fs c.args.heap.now c.args.head.0 c.in-Some.fault
    (a_refusal c.args.heap.now c.args.head.0 (early_refusal w c.args.syms.now.symbols fs) c.in-Ok.refusal c.in-Some.fault c.in-Some.is c.in-Ok.ensures.is)

pub returns-in-Some-clause-lies : goal.returns-in-Some-clause-lies
returns-in-Some-clause-lies c = refusal_lies (length c.args.heap.now) c.in-Ok.refusal c.in-Some.fault c.in-Some.is c.in-Ok.ensures.lies

pub returns-in-Err-drafts_of-clause-err : goal.returns-in-Err-drafts_of-clause-err
returns-in-Err-drafts_of-clause-err c =
    let w = seen_world c.args.heap.now c.args.world.now in
    let fs = seen_functions c.args.heap.now c.args.functions.now in
    let none = no_refusal c.args.heap.now c.args.head.0 (early_refusal w c.args.syms.now.symbols fs) c.in-Ok.refusal c.in-None.is c.in-Ok.ensures.is in
    refused_later w c.args.syms.now.symbols fs c.drafts_of.new.heap c.args.head.0 c.in-Err-drafts_of.fault none c.in-Err-drafts_of.ensures.err

pub returns-in-Ok-drafts_of-clause-ok : goal.returns-in-Ok-drafts_of-clause-ok
returns-in-Ok-drafts_of-clause-ok c =
    let w = seen_world c.args.heap.now c.args.world.now in
    let fs = seen_functions c.args.heap.now c.args.functions.now in
    let none = no_refusal c.args.heap.now c.args.head.0 (early_refusal w c.args.syms.now.symbols fs) c.in-Ok.refusal c.in-None.is c.in-Ok.ensures.is in
    unrefused w c.args.syms.now.symbols fs c.drafts_of.new.heap c.in-Ok-drafts_of.drafts none c.in-Ok-drafts_of.ensures.ok
