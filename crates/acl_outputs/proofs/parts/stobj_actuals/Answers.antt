use Rattle.std.specs.Prelude.{◌<◌, ◌≤◌, length, Some, None, if◌then◌else◌}
use Rattle.std.proofs.Common.{rules, sym, ap, ◌∙◌}
use Rattle.acl_terms.specs.declared.signature.Out.TheVariants as out
use Rattle.acl_terms.specs.Forms.{numbers}
use Rattle.acl_outputs.proofs.PartLemmas.{actuals_step, actuals_none, actuals_past}
use Rattle.acl_outputs.proofs.parts.stobj_actuals.Goals as goal

pub loop-i-preserved : goal.loop-i-preserved
loop-i-preserved c =
    let m : c.loop-i.i < length c.args.parts.now = search rules in
    actuals_step c.args.heap.now c.args.ins.now c.args.parts.now _ c.loop-i.i (numbers c.loop-i.found) c.loop-i.invariant out.Ordinary c.index-parts-i.result (numbers c.put_actual.new.found)
    c.loop-i-test.true m c.index-parts-i.is (sym (ap (λ b. if b then Some (numbers c.put_actual.new.found) else None) c.if-not-there.false) ∙ c.in_ok-there.ensures)

pub returns-then-i-parts : goal.returns-then-i-parts
returns-then-i-parts c =
    let m : length c.args.parts.now ≤ c.loop-i.i = search rules in
    sym (actuals_past c.args.heap.now c.args.ins.now c.args.parts.now _ c.loop-i.i (numbers c.loop-i.found) c.loop-i.invariant m)

pub returns-then-not-there : goal.returns-then-not-there
returns-then-not-there c =
    let m : c.loop-i.i < length c.args.parts.now = search rules in
    sym (actuals_none c.args.heap.now c.args.ins.now c.args.parts.now _ c.loop-i.i (numbers c.loop-i.found) c.loop-i.invariant out.Ordinary c.index-parts-i.result
    c.loop-i-test.true m c.index-parts-i.is (sym (ap (λ b. if b then Some (numbers c.put_actual.new.found) else None) c.if-not-there.true) ∙ c.in_ok-there.ensures))
