use Rattle.model_prims.specs.Rows.{table}
use Rattle.acl_prims.proofs.Rowed.{row_arity}
use Rattle.acl_prims.proofs.rows.arity.Goals as goal

pub returns : goal.returns
returns c = row_arity c.table.result.now table c.args.row _ c.table.ensures.rows c.requires
