use Rattle.std.specs.Prelude.{List, []}
use Rattle.std.proofs.Common.{ap, sym, subst, ◌∙◌}
use Rattle.model_symbols.specs.Symbols.{Table}
use Rattle.model_symbols.specs.Opening.{acl2, hidden}
use Rattle.model_symbols.specs.Tables.{with_package}
use Rattle.acl_base.specs.declared.SymId.{SymId}
use Rattle.acl_syms.specs.Answers.{AreKnown, CanTake, package_with}
use Rattle.acl_syms.specs.Opening.{AreFirst}
use Rattle.acl_syms.proofs.Stages.{first_known, can_acl2, can_hidden, packages_stage}
use Rattle.acl_syms.proofs.Symbols.put_packages.Goals as goal

pub begin-requires-clause-known : goal.begin-requires-clause-known
begin-requires-clause-known c =
    let first = subst (λ (ids : List SymId). AreFirst 119 ids) (sym c.deref.ensures.value) c.in_ok-imports.ensures in
    subst (λ (t : Table). AreKnown t.symbols c.deref.result.now) (sym c.requires) (first_known c.deref.result.now first)

pub begin-requires-clause-can : goal.begin-requires-clause-can
begin-requires-clause-can c =
    let first = subst (λ (ids : List SymId). AreFirst 119 ids) (sym c.deref.ensures.value) c.in_ok-imports.ensures in
    subst (λ (t : Table). CanTake t acl2 c.deref.result.now) (sym c.requires) (can_acl2 c.deref.result.now first)

pub begin-requires-2-clause-can : goal.begin-requires-2-clause-can
begin-requires-2-clause-can c =
    let begun = c.in_ok-begin.ensures ∙ ap (λ (t : Table). with_package t (package_with t.symbols acl2 c.deref.result.now)) c.requires in
    subst (λ (t : Table). CanTake t hidden []) (sym begun) (can_hidden c.deref.result.now)

pub returns : goal.returns
returns c =
    let first = subst (λ (ids : List SymId). AreFirst 119 ids) (sym c.deref.ensures.value) c.in_ok-imports.ensures in
    let begun = c.in_ok-begin.ensures ∙ ap (λ (t : Table). with_package t (package_with t.symbols acl2 c.deref.result.now)) c.requires in
    c.in_ok-begin-2.ensures ∙ (ap (λ (t : Table). with_package t (package_with t.symbols hidden [])) begun ∙ packages_stage c.deref.result.now first)
