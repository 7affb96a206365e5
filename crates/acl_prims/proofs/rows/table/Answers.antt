use Rattle.std.specs.Prelude.{refl}
use Rattle.model_prims.specs.Rows.{table}
use Rattle.acl_prims.proofs.rows.table.Goals as goal

pub returns : goal.returns
unfolding table
returns c = record { rows = refl; count = refl }
