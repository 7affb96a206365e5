-- A macro that is read, and its body expanded.
use Rattle.std.proofs.Common.{length}
use Rattle.acl_heap.specs.Objects.{object_of}
use Rattle.model_symbols.proofs.TableLemmas.{Extends-self}
use Rattle.acl_forms.specs.Growth.{Grown-both, Grown-then}
use Rattle.acl_expand.specs.Progresses.{seen_progress}
use Rattle.acl_expand.proofs.KnownLemmas.{supplies_there}
use Rattle.acl_admit_macro.proofs.AdmitLemmas.{body_known, refused_told, expands}
use Rattle.acl_admit_macro.proofs.expanding.expand_macro.Goals as goal

pub expand-requires-clause-supplies : goal.expand-requires-clause-supplies
expand-requires-clause-supplies g c = supplies_there (Grown-both c.read_macro.ensures.grows (Extends-self c.args.syms.now)) c.args.world.now c.requires.world c.requires.supplies

pub expand-requires-clause-known : goal.expand-requires-clause-known
expand-requires-clause-known g c =
    body_known c.read_macro.ensures.grows c.args.world.now c.requires.world c.args.syms.now c.args.limits.steps c.args.limits.depth (object_of c.args.heap.now c.args.form) c.args.progress.now c.in-Ok.draft c.in-Ok.ensures.ok
    (length c.args.syms.now.symbols) c.requires.supplies.enough c.requires.known

pub returns-in-Err-expand-clause-grows : goal.returns-in-Err-expand-clause-grows
returns-in-Err-expand-clause-grows g c = Grown-then (Grown-both c.read_macro.ensures.grows (Extends-self c.args.syms.now)) c.expand.ensures.grows

pub returns-in-Err-expand-clause-err : goal.returns-in-Err-expand-clause-err
returns-in-Err-expand-clause-err g c =
    rw c.of_refused.ensures
    (refused_told c.read_macro.ensures.grows c.args.world.now c.requires.world c.args.syms.now c.args.limits.steps c.args.limits.depth (object_of c.args.heap.now c.args.form) c.args.progress.now c.in-Ok.draft c.in-Ok.ensures.ok
    c.expand.new.heap (seen_progress c.expand.new.syms.symbols c.expand.new.progress) c.in-Err-expand.refused c.in-Err-expand.ensures.told c.in-Err-expand.ensures.ends)

pub returns-in-Ok-expand-clause-grows : goal.returns-in-Ok-expand-clause-grows
returns-in-Ok-expand-clause-grows g c = Grown-then (Grown-both c.read_macro.ensures.grows (Extends-self c.args.syms.now)) c.expand.ensures.grows

pub returns-in-Ok-expand-clause-ok : goal.returns-in-Ok-expand-clause-ok
returns-in-Ok-expand-clause-ok g c =
    expands c.read_macro.ensures.grows c.args.world.now c.requires.world c.args.syms.now c.args.limits.steps c.args.limits.depth (object_of c.args.heap.now c.args.form) c.args.progress.now c.in-Ok.draft c.in-Ok.ensures.ok
    c.expand.new.heap (seen_progress c.expand.new.syms.symbols c.expand.new.progress) c.in-Ok-expand.body c.expand.ensures.grows.heap c.in-Ok-expand.ensures.ends.0
