use Rattle.std.proofs.Common.{length}
use Rattle.model_expansion.specs.Words.{defmacro_word}
use Rattle.acl_heap.specs.Objects.{object_of}
use Rattle.acl_worlds.specs.Contents.{seen_world}
use Rattle.acl_declare.specs.Said.{words_at}
use Rattle.acl_drafts.proofs.ReadingLemmas.{no_refusal, a_refusal, refusal_lies}
use Rattle.acl_macros.specs.Written.{seen_macro}
use Rattle.acl_macros.specs.Drafts.{early_refusal}
use Rattle.acl_macros.proofs.RefusalLemmas.{refused_later, refused_early}
use Rattle.acl_macros.proofs.ReadingLemmas.{unrefused}
use Rattle.acl_macros.proofs.reading.draft_with.Goals as goal

pub returns-in-Some-clause-err : goal.returns-in-Some-clause-err
returns-in-Some-clause-err c =
    let h = c.args.heap.now in
    let w = seen_world h c.args.world.now in
    let sy = c.args.syms.now.symbols in
    let os = words_at h c.args.formals.now in
    refused_early w sy (seen_macro h c.args.written.now) os c.requires.are h c.in-Some.fault
    (a_refusal h defmacro_word (early_refusal w sy (object_of h c.args.written.now.name) os) c.in-Ok.refusal c.in-Some.fault c.in-Some.is c.in-Ok.ensures.is)

pub returns-in-Some-clause-lies : goal.returns-in-Some-clause-lies
returns-in-Some-clause-lies c = refusal_lies (length c.args.heap.now) c.in-Ok.refusal c.in-Some.fault c.in-Some.is c.in-Ok.ensures.lies

pub returns-in-Err-declared-clause-err : goal.returns-in-Err-declared-clause-err
returns-in-Err-declared-clause-err c =
    let h = c.args.heap.now in
    let w = seen_world h c.args.world.now in
    let sy = c.args.syms.now.symbols in
    let os = words_at h c.args.formals.now in
    let none = no_refusal h defmacro_word (early_refusal w sy (object_of h c.args.written.now.name) os) c.in-Ok.refusal c.in-None.is c.in-Ok.ensures.is in
    refused_later w sy (seen_macro h c.args.written.now) os c.requires.are c.declared.new.heap c.in-Err-declared.fault none c.in-Err-declared.ensures.err

pub returns-in-Ok-declared-clause-ok : goal.returns-in-Ok-declared-clause-ok
returns-in-Ok-declared-clause-ok c =
    let h = c.args.heap.now in
    let w = seen_world h c.args.world.now in
    let sy = c.args.syms.now.symbols in
    let os = words_at h c.args.formals.now in
    let none = no_refusal h defmacro_word (early_refusal w sy (object_of h c.args.written.now.name) os) c.in-Ok.refusal c.in-None.is c.in-Ok.ensures.is in
    unrefused w sy (seen_macro h c.args.written.now) os c.declared.new.heap c.in-Ok-declared.draft c.requires.are none c.in-Ok-declared.ensures.ok
