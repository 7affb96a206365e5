use Rattle.std.proofs.Common.{rules}
use Rattle.acl_layers.specs.Rows.{seen_unit}
use Rattle.acl_layers.proofs.RowLemmas.{chain_last, chain_more}
use Rattle.acl_layers.proofs.chained.chain.Goals as goal

pub returns-then-is_end : goal.returns-then-is_end
returns-then-is_end c =
    let e = chain_last c.args._syms.now.symbols c.args.f.0 (seen_unit c.args.unit) _ _ _ c.in-Some.ensures.0 (search rules) in
    search (rules, e)

pub returns-in_ok-call_two-in-Some : goal.returns-in_ok-call_two-in-Some
returns-in_ok-call_two-in-Some c =
    let e = chain_more c.args._syms.now.symbols c.args.f.0 (seen_unit c.args.unit) _ _ _ c.in-Some.ensures.0 (search rules) in
    search (rules, e)
