use Rattle.std.specs.Prelude.{◌^◌}
use Rattle.std.proofs.Common.{rules, set, ◌∙◌, ◌<◌}
use Rattle.acl_fields.specs.Notes.{SuitsPart, back}
use Rattle.acl_fields.specs.Views.{view}
use Rattle.acl_store.proofs.JournalLemmas.{newest_fits, newest_back}
use Rattle.acl_store.proofs.StoreLemmas.{some_within, asked, puts_it}
use Rattle.acl_fields.specs.Held.{noted_cells, part_cells}
use Rattle.acl_store.proofs.CountLemmas.{few_at, moved_memory, back_counted}
use Rattle.acl_store.proofs.store.Store.put_back_newest.Goals as goal

pub index_mut-requires : goal.index_mut-requires
index_mut-requires c = let h = some_within _ c.args.self.now.nodes.items c.in-Some.old.node c.in-Some.old.field (newest_fits (view c.args.self.now.nodes.items) c.args.self.now.notes.items c.pop.new.self.items c.in-Some.old c.in-Some.ensures.items c.requires.fit) in search (rules, h)

pub back-gone-requires-clause-suits : goal.back-gone-requires-clause-suits
back-gone-requires-clause-suits c = asked c.args.self.now.nodes.items c.in-Some.old.node c.in-Some.old.field c.index_mut.result.now (some_within _ c.args.self.now.nodes.items c.in-Some.old.node c.in-Some.old.field (newest_fits (view c.args.self.now.nodes.items) c.args.self.now.notes.items c.pop.new.self.items c.in-Some.old c.in-Some.ensures.items c.requires.fit)) c.index_mut.ensures.value (SuitsPart c.in-Some.old.part) (newest_fits (view c.args.self.now.nodes.items) c.args.self.now.notes.items c.pop.new.self.items c.in-Some.old c.in-Some.ensures.items c.requires.fit)

pub returns-in-Some-clause-steps : goal.returns-in-Some-clause-steps
returns-in-Some-clause-steps c = newest_back (view c.args.self.now.nodes.items) (view (set c.args.self.now.nodes.items c.in-Some.old.node c.back-gone.new.self)) c.args.self.now.notes.items c.pop.new.self.items c.in-Some.old c.in-Some.ensures.items c.requires.fit
    (puts_it c.args.self.now.nodes.items c.in-Some.old.node c.in-Some.old.field c.index_mut.result.now (some_within _ c.args.self.now.nodes.items c.in-Some.old.node c.in-Some.old.field (newest_fits (view c.args.self.now.nodes.items) c.args.self.now.notes.items c.pop.new.self.items c.in-Some.old c.in-Some.ensures.items c.requires.fit)) c.index_mut.ensures.value (SuitsPart c.in-Some.old.part) (back c.in-Some.old.part) c.back-gone.new.self (newest_fits (view c.args.self.now.nodes.items) c.args.self.now.notes.items c.pop.new.self.items c.in-Some.old c.in-Some.ensures.items c.requires.fit) c.back-gone.ensures.layout c.back-gone.ensures.parts)

pub back-gone-requires-clause-few : goal.back-gone-requires-clause-few
back-gone-requires-clause-few c =
    let w = c.is_word.ensures in
    asked c.args.self.now.nodes.items c.in-Some.old.node c.in-Some.old.field c.index_mut.result.now (some_within _ c.args.self.now.nodes.items c.in-Some.old.node c.in-Some.old.field (newest_fits (view c.args.self.now.nodes.items) c.args.self.now.notes.items c.pop.new.self.items c.in-Some.old c.in-Some.ensures.items c.requires.fit)) c.index_mut.ensures.value (λ p. part_cells p < 2 ^ 64) (few_at (view c.args.self.now.nodes.items) c.args.self.now.notes.items c.in-Some.old.node c.in-Some.old.field c.args.self.now.held (SuitsPart c.in-Some.old.part) w c.requires.counted (newest_fits (view c.args.self.now.nodes.items) c.args.self.now.notes.items c.pop.new.self.items c.in-Some.old c.in-Some.ensures.items c.requires.fit))

pub less-self-requires : goal.less-self-requires
less-self-requires c = (back_counted (view c.args.self.now.nodes.items) (view (set c.args.self.now.nodes.items c.in-Some.old.node c.back-gone.new.self)) c.args.self.now.notes.items c.pop.new.self.items c.in-Some.old c.args.self.now.held c.back-gone.result c.in-Some.ensures.items (moved_memory c.args.self.now.nodes.items c.in-Some.old.node c.in-Some.old.field c.index_mut.result.now c.back-gone.new.self (some_within _ c.args.self.now.nodes.items c.in-Some.old.node c.in-Some.old.field (newest_fits (view c.args.self.now.nodes.items) c.args.self.now.notes.items c.pop.new.self.items c.in-Some.old c.in-Some.ensures.items c.requires.fit)) c.index_mut.ensures.value c.back-gone.result (noted_cells c.in-Some.old.part) (SuitsPart c.in-Some.old.part) (back c.in-Some.old.part) (newest_fits (view c.args.self.now.nodes.items) c.args.self.now.notes.items c.pop.new.self.items c.in-Some.old c.in-Some.ensures.items c.requires.fit) c.back-gone.ensures.layout c.back-gone.ensures.parts c.back-gone.ensures.gone) c.requires.counted).1

pub returns-in-Some-clause-counted : goal.returns-in-Some-clause-counted
returns-in-Some-clause-counted c = c.less-self.ensures ∙ (back_counted (view c.args.self.now.nodes.items) (view (set c.args.self.now.nodes.items c.in-Some.old.node c.back-gone.new.self)) c.args.self.now.notes.items c.pop.new.self.items c.in-Some.old c.args.self.now.held c.back-gone.result c.in-Some.ensures.items (moved_memory c.args.self.now.nodes.items c.in-Some.old.node c.in-Some.old.field c.index_mut.result.now c.back-gone.new.self (some_within _ c.args.self.now.nodes.items c.in-Some.old.node c.in-Some.old.field (newest_fits (view c.args.self.now.nodes.items) c.args.self.now.notes.items c.pop.new.self.items c.in-Some.old c.in-Some.ensures.items c.requires.fit)) c.index_mut.ensures.value c.back-gone.result (noted_cells c.in-Some.old.part) (SuitsPart c.in-Some.old.part) (back c.in-Some.old.part) (newest_fits (view c.args.self.now.nodes.items) c.args.self.now.notes.items c.pop.new.self.items c.in-Some.old c.in-Some.ensures.items c.requires.fit) c.back-gone.ensures.layout c.back-gone.ensures.parts c.back-gone.ensures.gone) c.requires.counted).0
