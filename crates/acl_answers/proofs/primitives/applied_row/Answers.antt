use Rattle.std.specs.Prelude.{◌≡◌, refl, map, true}
use Rattle.acl_answers.specs.declared.Answer.{Answer}
use Rattle.std.proofs.Common.{sym, ap, ◌∙◌, subst}
use Rattle.model_symbols.specs.Symbols.{Table}
use Rattle.model_prims.specs.Applied.{applied}
use Rattle.model_prims.specs.Rows.{prim_of}
use Rattle.model_output_so_far.specs.Calls.{numbered, given}
use Rattle.acl_heap.specs.Objects.{object_of}
use Rattle.acl_forms.specs.Forms.{forms_at}
use Rattle.acl_answers.specs.Views.{name_of, session_in}
use Rattle.acl_answers.specs.Answers.{Answers}
use Rattle.acl_answers.specs.Stops.{stop_line}
use Rattle.acl_numbers.specs.Answers.{IsStop}
use Rattle.acl_answers.proofs.PrimitiveLemmas.{numbered_back, given_value, given_stop}
use Rattle.acl_answers.proofs.primitives.applied_row.Goals as goal

pub returns-in_ok-line-in-Ok-clause-answers : goal.returns-in_ok-line-in-Ok-clause-answers
returns-in_ok-line-in-Ok-clause-answers c =
    let old = c.args.syms.now in
    let args = forms_at old c.args.heap.now c.args.args.now in
    let e = ap (applied old (prim_of c.args.row)) (numbered_back old c.is_table.ensures c.args.heap.now c.args.args.now c.requires.whole) ∙ c.in-Ok.ensures.answer.gives in
    given_value old c.apply.new.syms c.args.current.0 (name_of old c.args.f) args (applied old (prim_of c.args.row) (map (numbered old.symbols) args)) (object_of c.apply.new.heap c.in-Ok.w) _ e
    c.in-Ok.ensures.packages c.in_ok-line-in-Ok.ensures refl refl

pub returns-in_ok-line-in-Err-clause-answers : goal.returns-in_ok-line-in-Err-clause-answers
returns-in_ok-line-in-Err-clause-answers c =
    let old = c.args.syms.now in
    let new = c.apply.new.syms in
    let args = forms_at old c.args.heap.now c.args.args.now in
    let current = c.args.current.0 in
    let same : new ≡ old = c.in-Err.ensures.err in
    let answer : Answer = record { line = c.in_ok-line-in-Err.line; calls = 1; is_error = true } in
    let e = ap (applied old (prim_of c.args.row)) (numbered_back old c.is_table.ensures c.args.heap.now c.args.args.now c.requires.whole) in
    let stop = subst (λ a. IsStop a c.in-Err.stop) (sym e) c.in-Err.ensures.answer in
    let line = c.in_ok-line-in-Err.ensures.line
    ∙ (ap (λ fs. stop_line (session_in new current) (name_of new c.args.f) fs c.in-Err.stop) (c.in-Err.ensures.grows.forms c.args.args.now c.requires.whole)
    ∙ ap (λ (t : Table). stop_line (session_in t current) (name_of t c.args.f) args c.in-Err.stop) same) in
    subst (λ (t : Table). Answers (given (session_in old current) (name_of old c.args.f) args (applied old (prim_of c.args.row) (map (numbered old.symbols) args))) (session_in t current) answer) (sym same)
    (given_stop old current (name_of old c.args.f) args (applied old (prim_of c.args.row) (map (numbered old.symbols) args)) c.in-Err.stop answer stop c.in_ok-line-in-Err.ensures.memory line refl refl)
