use Rattle.model_prims.specs.Rows.{table}
use Rattle.acl_prims.proofs.Rowed.{row_prim, few}
use Rattle.acl_prims.proofs.rows.prim_at.Goals as goal

pub bounds-row-row : goal.bounds-row-row
bounds-row-row c = few c.args.row c.requires

pub returns : goal.returns
unfolding table
returns c = row_prim table c.args.row _ c.requires
