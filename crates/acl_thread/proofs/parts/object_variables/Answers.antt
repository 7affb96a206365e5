use Rattle.std.specs.Prelude.{◌≤◌, length, drop}
use Rattle.std.proofs.Common.{rules, sym, arith}
use Rattle.acl_terms.specs.Forms.{numbers}
use Rattle.acl_terms.specs.Signatures.{seen_out, seen_outs}
use Rattle.acl_thread.proofs.PartLemmas.{variables_next, variables_last}
use Rattle.acl_thread.proofs.parts.object_variables.Goals as goal

pub loop-i-preserved : goal.loop-i-preserved
loop-i-preserved c =
    variables_next c.args.heap.now c.args.ins.now c.args.actuals.now c.loop-i.i c.index-actuals-i.result (seen_out c.kind_at-kind.result) _ (numbers c.loop-i.found) _ c.loop-i.invariant c.loop-i-test.true c.index-actuals-i.is c.kind_at-kind.ensures
    c.in_ok-put_variable.ensures

pub returns : goal.returns
returns c =
    let past : length c.args.actuals.now ≤ c.loop-i.i = search rules in
    sym (variables_last c.args.heap.now (seen_outs (drop c.loop-i.i c.args.ins.now)) c.args.actuals.now c.loop-i.i _ (numbers c.loop-i.found) c.loop-i.invariant past)
