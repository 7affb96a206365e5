use Rattle.std.proofs.Common.{arith}
use Rattle.acl_check_rows.proofs.SmallLemmas.{small_fits}
use Rattle.acl_check_rows.proofs.rows.answer.Goals as goal

pub check_form-requires : goal.check_form-requires
check_form-requires c = small_fits _ 10 _ (omega arith) (c.fits.ensures c.if-fits.true)
