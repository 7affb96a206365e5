use Rattle.std.specs.Prelude.{ℕ, List, ◌++◌, codes}
use Rattle.std.proofs.Common.{◌∙◌, ap, rules}
use Rattle.std.proofs.lemmas.List.{append-nil}
use Rattle.acl_answers.specs.Views.{name_of}
use Rattle.acl_answers.proofs.MakingLemmas.{object_all, object_full, creator_full}
use Rattle.acl_answers.proofs.naming.make_object.Goals as goal

pub returns-in_err-recognizer-clause-full : goal.returns-in_err-recognizer-clause-full
returns-in_err-recognizer-clause-full c = λ h.
    object_full c.args.syms.now c.intern_beside.new.syms c.args.s _ c.requires.known c.is_table.ensures
    (c.as_slice.ensures.value ∙ c.in_ok-recognizer_name.ensures) (c.in_err-recognizer.ensures.full (search rules))

pub returns-in_err-creator-clause-full : goal.returns-in_err-creator-clause-full
returns-in_err-creator-clause-full c = λ h.
    creator_full c.args.syms.now c.intern_beside.new.syms c.intern_beside-2.new.syms c.args.s c.in_ok-recognizer.recognizer _ _ c.requires.known c.is_table.ensures
    (c.as_slice.ensures.value ∙ c.in_ok-recognizer_name.ensures) (c.as_slice-2.ensures.value ∙ (c.in_ok-creator_name.ensures ∙ ap (λ (l : List ℕ). codes "CREATE-" ++ l) (append-nil (name_of c.args.syms.now c.args.s).name))) c.in_ok-recognizer.ensures.ok (c.in_err-creator.ensures.full (search rules))

pub returns-clause-ok : goal.returns-clause-ok
returns-clause-ok c =
    object_all c.args.syms.now c.intern_beside.new.syms c.intern_beside-2.new.syms c.args.s c.in_ok-recognizer.recognizer c.in_ok-creator.creator _ _ c.requires.known c.is_table.ensures
    (c.as_slice.ensures.value ∙ c.in_ok-recognizer_name.ensures) (c.as_slice-2.ensures.value ∙ (c.in_ok-creator_name.ensures ∙ ap (λ (l : List ℕ). codes "CREATE-" ++ l) (append-nil (name_of c.args.syms.now c.args.s).name))) c.in_ok-recognizer.ensures.ok c.in_ok-creator.ensures.ok
