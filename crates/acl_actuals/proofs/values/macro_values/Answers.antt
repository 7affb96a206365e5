use Rattle.std.specs.Prelude.{◌≡◌, true}
use Rattle.std.proofs.Common.{rules}
use Rattle.acl_terms.specs.Definitions.{seen_formals}
use Rattle.acl_actuals.specs.Values.{items_at}
use Rattle.acl_actuals.proofs.LastLemmas.{macro_all}
use Rattle.acl_actuals.proofs.CountLemmas.{count}
use Rattle.acl_actuals.proofs.values.macro_values.Goals as goal

pub returns-else-not-branch : goal.returns-else-not-branch
returns-else-not-branch c =
    let fits : c.in_ok-take_last-in-Some.field-0 ≡ true = search rules in
    let taken = rw c.as_slice.ensures at (rw c.in-Some.is at c.in_ok-take_required.ensures.taken) in
    let more = rw c.as_slice-in-Some.ensures at c.in_ok-left-in-Some.ensures.values in
    let left = rw c.as_slice-in-Some.ensures at c.in_ok-left-in-Some.ensures.left in
    let last = rw fits at c.in_ok-take_last-in-Some.ensures.puts in
    let values = macro_all c.args.syms.now.symbols c.args.heap.now c.args.formals.now (items_at c.args.heap.now c.args.list) _ _ _ _ _ taken.0 more left last in
    record {
      values = (values, c.in_ok-take_last-in-Some.ensures.reach);
      count = count c.args.syms.now.symbols c.args.heap.now (seen_formals c.args.heap.now c.args.formals.now) (items_at c.args.heap.now c.args.list) _ values;
    }
