use Rattle.std.proofs.Common.{rules}
use Rattle.acl_layers.proofs.RowLemmas.{minus_two}
use Rattle.acl_layers.proofs.counted.minus.Goals as goal

pub returns-in_ok-call_two-in-Some-one : goal.returns-in_ok-call_two-in-Some-one
returns-in_ok-call_two-in-Some-one c =
    let e = minus_two c.args._syms.now.symbols _ _ _ _ c.in-Some.ensures.0 c.in-Some-one.ensures.0 in
    search (rules, e)
