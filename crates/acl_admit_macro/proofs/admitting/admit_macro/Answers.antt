-- A macro whose body is expanded enters, or is refused by a rule.
use Rattle.std.proofs.Common.{◌<◌, length, arith}
use Rattle.acl_heap.specs.Objects.{object_of}
use Rattle.acl_fits.proofs.KnownLemmas.{knowledge_agrees}
use Rattle.acl_terms.specs.Forms.{seen_core}
use Rattle.acl_expand.specs.Progresses.{seen_progress}
use Rattle.acl_expand.proofs.KnownLemmas.{supplies_there}
use Rattle.acl_admit_macro.proofs.AdmitLemmas.{name_free, body_stands, rule_told, admits, world_lies, rows_stay, supplies_more, rows_still, constants_still}
use Rattle.acl_admit_macro.proofs.admitting.admit_macro.Goals as goal

pub enter_macro-requires-clause-fresh : goal.enter_macro-requires-clause-fresh
enter_macro-requires-clause-fresh g c =
    name_free c.expand_macro.ensures.grows c.args.world.now c.requires.world c.args.limits.steps c.args.limits.depth (object_of c.args.heap.now c.args.form) (seen_progress c.args.syms.now.symbols c.args.progress.now)
    (seen_progress c.expand_macro.new.syms.symbols c.expand_macro.new.progress) c.in-Ok.expanded c.in-Ok.ensures.ok

pub enter_macro-requires-clause-stand : goal.enter_macro-requires-clause-stand
enter_macro-requires-clause-stand g c =
    body_stands c.expand_macro.ensures.grows c.args.world.now c.requires.world c.args.limits.steps c.args.limits.depth (object_of c.args.heap.now c.args.form) (seen_progress c.args.syms.now.symbols c.args.progress.now)
    (seen_progress c.expand_macro.new.syms.symbols c.expand_macro.new.progress) c.in-Ok.expanded c.in-Ok.ensures.ok c.requires.rows

pub returns-in-Err-clause-supplies : goal.returns-in-Err-clause-supplies
returns-in-Err-clause-supplies g c =
    supplies_there c.expand_macro.ensures.grows c.args.world.now c.requires.world c.requires.supplies

pub returns-in-Err-clause-rows : goal.returns-in-Err-clause-rows
returns-in-Err-clause-rows g c =
    rows_still c.expand_macro.ensures.grows c.args.world.now c.requires.world c.args.limits.steps c.args.limits.depth (object_of c.args.heap.now c.args.form) (seen_progress c.args.syms.now.symbols c.args.progress.now)
    (seen_progress c.expand_macro.new.syms.symbols c.expand_macro.new.progress) c.requires.rows

pub returns-in-Err-clause-constants : goal.returns-in-Err-clause-constants
returns-in-Err-clause-constants g c =
    constants_still c.expand_macro.ensures.grows c.args.terms.now c.requires.words

pub returns-in-Err-enter_macro-clause-err : goal.returns-in-Err-enter_macro-clause-err
returns-in-Err-enter_macro-clause-err g c =
    rw c.of_thread.ensures (rule_told c.expand_macro.ensures.grows c.args.world.now c.requires.world c.args.limits.steps c.args.limits.depth (object_of c.args.heap.now c.args.form) (seen_progress c.args.syms.now.symbols c.args.progress.now)
    (seen_progress c.expand_macro.new.syms.symbols c.expand_macro.new.progress) c.in-Ok.expanded c.in-Ok.ensures.ok c.in-Err-enter_macro.fault c.in-Err-enter_macro.ensures.err)

pub returns-in-Err-enter_macro-clause-supplies : goal.returns-in-Err-enter_macro-clause-supplies
returns-in-Err-enter_macro-clause-supplies g c =
    rw c.in-Err-enter_macro.ensures.unchanged (supplies_there c.expand_macro.ensures.grows c.args.world.now c.requires.world c.requires.supplies)

pub returns-in-Err-enter_macro-clause-rows : goal.returns-in-Err-enter_macro-clause-rows
returns-in-Err-enter_macro-clause-rows g c =
    rw c.in-Err-enter_macro.ensures.unchanged (rows_still c.expand_macro.ensures.grows c.args.world.now c.requires.world c.args.limits.steps c.args.limits.depth (object_of c.args.heap.now c.args.form) (seen_progress c.args.syms.now.symbols c.args.progress.now)
    (seen_progress c.expand_macro.new.syms.symbols c.expand_macro.new.progress) c.requires.rows)

pub returns-in-Err-enter_macro-clause-constants : goal.returns-in-Err-enter_macro-clause-constants
returns-in-Err-enter_macro-clause-constants g c =
    rw c.in-Err-enter_macro.ensures.table (constants_still c.expand_macro.ensures.grows c.args.terms.now c.requires.words)

pub returns-in-Ok-enter_macro-clause-ok : goal.returns-in-Ok-enter_macro-clause-ok
returns-in-Ok-enter_macro-clause-ok g c =
    admits c.expand_macro.ensures.grows c.args.world.now c.requires.world c.args.limits.steps c.args.limits.depth (object_of c.args.heap.now c.args.form) (seen_progress c.args.syms.now.symbols c.args.progress.now)
    (seen_progress c.expand_macro.new.syms.symbols c.expand_macro.new.progress) c.in-Ok.expanded c.in-Ok.ensures.ok c.enter_macro.new.world c.enter_macro.new.terms c.in-Ok-enter_macro._term c.in-Ok-enter_macro.ensures.ok

pub returns-in-Ok-enter_macro-clause-world : goal.returns-in-Ok-enter_macro-clause-world
returns-in-Ok-enter_macro-clause-world g c =
    world_lies c.expand_macro.ensures.grows c.args.world.now c.requires.world c.args.limits.steps c.args.limits.depth (object_of c.args.heap.now c.args.form) (seen_progress c.args.syms.now.symbols c.args.progress.now)
    (seen_progress c.expand_macro.new.syms.symbols c.expand_macro.new.progress) c.in-Ok.expanded c.in-Ok.ensures.ok c.enter_macro.new.world c.enter_macro.new.terms c.in-Ok-enter_macro._term c.in-Ok-enter_macro.ensures.ok

pub returns-in-Ok-enter_macro-clause-supplies : goal.returns-in-Ok-enter_macro-clause-supplies
returns-in-Ok-enter_macro-clause-supplies g c =
    supplies_more c.expand_macro.ensures.grows c.args.world.now c.requires.world c.args.limits.steps c.args.limits.depth (object_of c.args.heap.now c.args.form) (seen_progress c.args.syms.now.symbols c.args.progress.now)
    (seen_progress c.expand_macro.new.syms.symbols c.expand_macro.new.progress) c.in-Ok.expanded c.in-Ok.ensures.ok c.enter_macro.new.world c.enter_macro.new.terms c.in-Ok-enter_macro._term c.in-Ok-enter_macro.ensures.ok c.requires.known c.requires.supplies

pub returns-in-Ok-enter_macro-clause-rows : goal.returns-in-Ok-enter_macro-clause-rows
returns-in-Ok-enter_macro-clause-rows g c =
    rows_stay c.expand_macro.ensures.grows c.args.world.now c.requires.world c.args.limits.steps c.args.limits.depth (object_of c.args.heap.now c.args.form) (seen_progress c.args.syms.now.symbols c.args.progress.now)
    (seen_progress c.expand_macro.new.syms.symbols c.expand_macro.new.progress) c.in-Ok.expanded c.in-Ok.ensures.ok c.enter_macro.new.world c.enter_macro.new.terms c.in-Ok-enter_macro._term c.in-Ok-enter_macro.ensures.ok c.requires.rows

pub returns-in-Ok-enter_macro-clause-constants : goal.returns-in-Ok-enter_macro-clause-constants
returns-in-Ok-enter_macro-clause-constants g c =
    λ known.
    let n = length c.expand_macro.new.syms.symbols in
    let some : 1 < n = omega (arith, c.requires.supplies.enough, c.expand_macro.ensures.grows.table.longer) in
    c.in-Ok-enter_macro.ensures.known n some (knowledge_agrees.form n (seen_core c.expand_macro.new.heap c.in-Ok.expanded.body) c.in-Ok.ensures.known) (constants_still c.expand_macro.ensures.grows c.args.terms.now c.requires.words known)
