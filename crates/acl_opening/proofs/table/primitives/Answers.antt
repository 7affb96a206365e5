use Rattle.std.specs.Prelude.{refl}
use Rattle.model_prims.specs.Rows.{table}
use Rattle.acl_opening.proofs.TableLemmas.{are_opening}
use Rattle.acl_opening.proofs.table.primitives.Goals as goal

pub returns : goal.returns
unfolding table
returns c = are_opening _ refl refl refl (λ h. refl) refl refl
