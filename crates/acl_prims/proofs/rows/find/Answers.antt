use Rattle.std.proofs.Common.{arith, sym, ◌∙◌}
use Rattle.acl_prims.proofs.Rowed.{row_place, found_row}
use Rattle.acl_prims.proofs.rows.find.Goals as goal

pub overflow_cast-result : goal.overflow_cast-result
overflow_cast-result c = omega (arith, found_row c.table.result.now c.args.name.now c.args.home.now c.in-Some.row c.table.ensures.rows (sym c.in-Some.ensures))

pub returns-in-Some-clause-found : goal.returns-in-Some-clause-found
returns-in-Some-clause-found c = c.in-Some.ensures ∙ row_place c.table.result.now c.args.name.now c.args.home.now c.table.ensures.rows

pub returns-in-None-clause-found : goal.returns-in-None-clause-found
returns-in-None-clause-found c = c.in-None.ensures ∙ row_place c.table.result.now c.args.name.now c.args.home.now c.table.ensures.rows
