use Rattle.std.specs.Prelude.{◌≡◌, ◌+◌, List, ◌∷◌, drop, map}
use Rattle.std.proofs.Common.{sym, ap, ◌∙◌}
use Rattle.std.proofs.lemmas.List.{at_drop_more}
use Rattle.model_text.specs.Parts.{Whole, put, put_all}
use Rattle.acl_read_lexemes.specs.declared.Placed.{Placed}
use Rattle.acl_read_lexemes.specs.Lexemes.{lexeme_at, placed_at, form_of}
use Rattle.acl_read_build.specs.Slots.{parts_at}
use Rattle.acl_read_build.proofs.WeightLemmas.{heavy_form}
use Rattle.acl_read_build.proofs.building.build_all.Goals as goal

pub returns-in-Err-clause-fault : goal.returns-in-Err-clause-fault
returns-in-Err-clause-fault c =
    let t = c.args.syms.now in
    let ps = parts_at t c.loop-placed.heap c.loop-placed.slots.items in
    let ls = c.args.lexemes.now in
    let i = c.loop-placed.placed-index in
    let x = c.placed-item.result in
    let all = λ (xs : List Placed). put_all ps (map (placed_at t.symbols) xs) in
    let e : all (x ∷ drop (i + 1) ls) ≡ Whole (form_of t.symbols ls) = ap (λ (p : Placed). all (p ∷ drop (i + 1) ls)) c.placed-item.is ∙ (sym (at_drop_more all ls i x c.loop-placed-test.true) ∙ c.loop-placed.invariant.same) in
    heavy_form (put (lexeme_at t.symbols x.lexeme) x.at ps) (map (placed_at t.symbols) (drop (i + 1) ls)) (form_of t.symbols ls) c.in-Err.refusal e c.in-Err.ensures.builds
