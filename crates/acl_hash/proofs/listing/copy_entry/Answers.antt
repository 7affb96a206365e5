use Rattle.std.proofs.Common.{true, false, refl}
use Rattle.acl_hash.proofs.listing.copy_entry.Goals as goal

pub copy_out-requires : goal.copy_out-requires
copy_out-requires c = c.requires.live true c.args.e.key refl

pub copy_out-requires-2 : goal.copy_out-requires-2
copy_out-requires-2 c = c.requires.live false c.args.e.value refl
