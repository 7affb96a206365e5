use Rattle.acl_candidates.proofs.NameLemmas.{entries_distinct, entered_seen}
use Rattle.acl_candidates.proofs.naming.enter_names.Goals as goal

pub add_all-requires-clause-distinct : goal.add_all-requires-clause-distinct
add_all-requires-clause-distinct c =
    entries_distinct c.args._heap.now c.args.world.now c.args.drafts.now c.in_ok-entries.entries.items c.is_world.ensures c.requires.fresh c.in_ok-entries.ensures

pub returns-clause-seen : goal.returns-clause-seen
returns-clause-seen c =
    entered_seen c.args._heap.now c.args.world.now c.add_all.new.world c.args.drafts.now c.in_ok-entries.entries.items c.in_ok-add_all.ensures.ok c.in_ok-entries.ensures
