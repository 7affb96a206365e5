use Rattle.std.specs.Prelude.{map, refl, []}
use Rattle.std.proofs.Common.{ap, ◌∙◌}
use Rattle.model_symbols.specs.Symbols.{Table}
use Rattle.model_symbols.specs.Opening.{common_lisp_text, common_lisp, keyword}
use Rattle.model_symbols.specs.Tables.{with_package}
use Rattle.acl_syms.specs.Answers.{package_with}
use Rattle.acl_syms.specs.Opening.{with_all, names_in}
use Rattle.acl_syms.specs.declared.opening.TheConstants.{COMMON_LISP_NAMES}
use Rattle.acl_syms.proofs.Stages.{lisp_stage}
use Rattle.acl_syms.proofs.Symbols.put_common_lisp.Goals as goal

pub returns : goal.returns
unfolding common_lisp_text
returns c =
    let names = map (λ n. n.now) COMMON_LISP_NAMES in
    let begun = c.in_ok-begin-2.ensures ∙ (ap (λ (t : Table). with_package t (package_with t.symbols keyword [])) (c.in_ok-begin.ensures ∙ ap (λ (t : Table). with_package t (package_with t.symbols common_lisp [])) c.requires)) in
    c.in_ok-put_all.ensures ∙ (ap (λ (t : Table). with_all t (names_in t 0 names)) begun ∙ lisp_stage names refl)
