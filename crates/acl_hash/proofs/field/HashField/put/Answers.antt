use Rattle.std.proofs.Common.{subst, sym, ◌∙◌}
use Rattle.acl_heap.specs.Objects.{object_of}
use Rattle.acl_hash.specs.Pools.{EntryFits, GivesEntry, PutsEntry}
use Rattle.acl_hash.proofs.FieldLemmas.{old_fits, puts, changes_from_same, entry_same}
use Rattle.acl_hash.proofs.field.HashField.put.Goals as goal

pub give_back-requires : goal.give_back-requires
give_back-requires c =
    let old = c.put_at-replaced.ensures.was ∙ entry_same c.make_room.ensures.same c.args.k in
    subst (EntryFits c.put_entry.new.pool) (sym old) (old_fits c.requires.fits c.in_ok-entry.ensures.ok c.args.k)

pub returns-clause-ok : goal.returns-clause-ok
returns-clause-ok c =
    let old = c.put_at-replaced.ensures.was ∙ entry_same c.make_room.ensures.same c.args.k in
    let put = subst (λ o. PutsEntry c.args.pool.now c.put_entry.new.pool c.in_ok-entry.entry o (object_of c.args.heap.now c.args.value)) (sym c.requires.of) c.in_ok-entry.ensures.ok in
    puts c.requires.fits put (changes_from_same c.make_room.ensures.same c.put_at-replaced.ensures.changes) (subst (GivesEntry c.put_entry.new.pool c.give_back.new.pool) old c.give_back.ensures)
