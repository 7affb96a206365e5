use Rattle.std.specs.Prelude.{◌≡◌, ◌<◌, length, nat_eq, false, slice_index_or}
use Rattle.std.proofs.Common.{rules, ◌∙◌}
use Rattle.acl_outputs.proofs.ListLemmas.{actual_step}
use Rattle.acl_outputs.proofs.instances.actual_of.Goals as goal

pub loop-i-preserved : goal.loop-i-preserved
loop-i-preserved c =
    let m : c.loop-i.i < length c.args.actuals.now = search rules in
    let h : nat_eq c.args.x.0 (slice_index_or c.args.formals.now c.loop-i.i (record { 0 = 0 })).0 ≡ false = search rules in
    c.loop-i.invariant ∙ actual_step c.args.formals.now c.args.actuals.now c.loop-i.i c.args.x.0 (record { 0 = 0 }) (record { 0 = 0 }) c.loop-i-test.true m h
