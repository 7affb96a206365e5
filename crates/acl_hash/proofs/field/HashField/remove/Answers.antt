use Rattle.std.proofs.Common.{subst, sym}
use Rattle.acl_hash.specs.Pools.{EntryFits, GivesEntry}
use Rattle.acl_hash.proofs.FieldLemmas.{entry_fits, removes}
use Rattle.acl_hash.proofs.field.HashField.remove.Goals as goal

pub give_back-requires : goal.give_back-requires
give_back-requires c = subst (EntryFits c.args.pool.now) (sym c.take_at-taken.ensures.was) (entry_fits c.requires c.args.k.now)

pub returns : goal.returns
returns c = removes c.requires c.take_at-taken.ensures.changes (subst (GivesEntry c.args.pool.now c.give_back.new.pool) c.take_at-taken.ensures.was c.give_back.ensures)
