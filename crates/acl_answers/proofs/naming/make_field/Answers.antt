use Rattle.std.specs.Prelude.{ℕ, List, ◌++◌, codes}
use Rattle.std.proofs.Common.{◌∙◌, ap, rules}
use Rattle.std.proofs.lemmas.List.{append-nil}
use Rattle.acl_answers.specs.Views.{name_of}
use Rattle.acl_answers.proofs.MakingLemmas.{field_all, updater_full}
use Rattle.acl_answers.proofs.naming.make_field.Goals as goal

pub returns-in_err-updater-clause-full : goal.returns-in_err-updater-clause-full
returns-in_err-updater-clause-full c = λ h.
    updater_full c.args.syms.now c.intern_beside.new.syms c.intern_beside-2.new.syms c.args.f c.in_ok-recognizer.recognizer _ _ c.requires.known c.is_table.ensures
    (c.as_slice.ensures.value ∙ c.in_ok-recognizer_name.ensures) (c.as_slice-2.ensures.value ∙ (c.in_ok-updater_name.ensures ∙ ap (λ (l : List ℕ). codes "UPDATE-" ++ l) (append-nil (name_of c.args.syms.now c.args.f).name))) c.in_ok-recognizer.ensures.ok (c.in_err-updater.ensures.full (search rules))

pub returns-clause-ok : goal.returns-clause-ok
returns-clause-ok c =
    field_all c.args.syms.now c.intern_beside.new.syms c.intern_beside-2.new.syms c.args.f c.in_ok-recognizer.recognizer c.in_ok-updater.updater _ _ c.requires.known c.is_table.ensures
    (c.as_slice.ensures.value ∙ c.in_ok-recognizer_name.ensures) (c.as_slice-2.ensures.value ∙ (c.in_ok-updater_name.ensures ∙ ap (λ (l : List ℕ). codes "UPDATE-" ++ l) (append-nil (name_of c.args.syms.now c.args.f).name))) c.in_ok-recognizer.ensures.ok c.in_ok-updater.ensures.ok
