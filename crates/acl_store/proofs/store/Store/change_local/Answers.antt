use Rattle.std.proofs.Common.{ℕ, rules, arith, ◌≡◌, ◌∙◌, ◌<◌, ◌-◌, ap, set, subst, sym}
use Rattle.std.specs.Prelude.{IsSome, ◌^◌}
use Rattle.acl_fields.specs.Fields.{table_in}
use Rattle.acl_fields.specs.Changes.{changed, tabled}
use Rattle.acl_store.proofs.StoreLemmas.{some_within, asked, puts_it, same_it}
use Rattle.acl_fields.specs.Held.{noted_cells, change_cells}
use Rattle.acl_fields.specs.Views.{view}
use Rattle.acl_store.proofs.CountLemmas.{moved_memory, local_counted}
use Rattle.acl_store.specs.Counts.{IsCounted}
use Rattle.acl_store.specs.Calls.{Nodes}
use Rattle.acl_store.proofs.store.Store.change_local.Goals as goal

pub index_mut-requires : goal.index_mut-requires
index_mut-requires c = let h = some_within _ c.args.self.now.nodes.items c.args.n.0 c.args.field c.requires.hash in search (rules, h)

pub change-requires-clause-table : goal.change-requires-clause-table
change-requires-clause-table c = asked c.args.self.now.nodes.items c.args.n.0 c.args.field c.index_mut.result.now (some_within _ c.args.self.now.nodes.items c.args.n.0 c.args.field c.requires.hash) c.index_mut.ensures.value (λ p. IsSome (table_in p)) c.requires.hash

pub returns-in-Ok-clause-put : goal.returns-in-Ok-clause-put
returns-in-Ok-clause-put c = puts_it c.args.self.now.nodes.items c.args.n.0 c.args.field c.index_mut.result.now (some_within _ c.args.self.now.nodes.items c.args.n.0 c.args.field c.requires.hash) c.index_mut.ensures.value (λ p. IsSome (table_in p)) (λ p. tabled (changed c.args.change) p) c.change.new.self c.requires.hash c.in-Ok.ensures.layout c.in-Ok.ensures.parts

pub returns-in-Err-clause-refused : goal.returns-in-Err-clause-refused
returns-in-Err-clause-refused c = same_it c.args.self.now.nodes.items c.args.n.0 c.args.field c.index_mut.result.now (some_within _ c.args.self.now.nodes.items c.args.n.0 c.args.field c.requires.hash) c.index_mut.ensures.value c.change.new.self c.in-Err.ensures.layout c.in-Err.ensures.refused

pub cells-requires : goal.cells-requires
cells-requires c =
    let l = (local_counted (view c.args.self.now.nodes.items) (view (set c.args.self.now.nodes.items c.args.n.0 c.change.new.self)) c.args.self.now.notes.items c.args.self.now.held c.args.most (change_cells c.args.change) (noted_cells c.in-Ok.ended) (moved_memory c.args.self.now.nodes.items c.args.n.0 c.args.field c.index_mut.result.now c.change.new.self (some_within _ c.args.self.now.nodes.items c.args.n.0 c.args.field c.requires.hash) c.index_mut.ensures.value (noted_cells c.in-Ok.ended) (change_cells c.args.change) (λ p. IsSome (table_in p)) (λ p. tabled (changed c.args.change) p) c.requires.hash c.in-Ok.ensures.layout c.in-Ok.ensures.parts c.in-Ok.ensures.counted) c.requires.counted c.requires.most).1 in
    let w : c.args.most < 2 ^ 64 = search rules in omega (arith, l, w)

pub less-self-requires : goal.less-self-requires
less-self-requires c =
    let l = (local_counted (view c.args.self.now.nodes.items) (view (set c.args.self.now.nodes.items c.args.n.0 c.change.new.self)) c.args.self.now.notes.items c.args.self.now.held c.args.most (change_cells c.args.change) (noted_cells c.in-Ok.ended) (moved_memory c.args.self.now.nodes.items c.args.n.0 c.args.field c.index_mut.result.now c.change.new.self (some_within _ c.args.self.now.nodes.items c.args.n.0 c.args.field c.requires.hash) c.index_mut.ensures.value (noted_cells c.in-Ok.ended) (change_cells c.args.change) (λ p. IsSome (table_in p)) (λ p. tabled (changed c.args.change) p) c.requires.hash c.in-Ok.ensures.layout c.in-Ok.ensures.parts c.in-Ok.ensures.counted) c.requires.counted c.requires.most).1 in
    let e = c.cells.ensures in omega (arith, l, e)

pub returns-in-Ok-clause-counted : goal.returns-in-Ok-clause-counted
returns-in-Ok-clause-counted c = c.less-self.ensures ∙ (ap (λ (r : ℕ). c.args.most - r) c.cells.ensures ∙ (local_counted (view c.args.self.now.nodes.items) (view (set c.args.self.now.nodes.items c.args.n.0 c.change.new.self)) c.args.self.now.notes.items c.args.self.now.held c.args.most (change_cells c.args.change) (noted_cells c.in-Ok.ended) (moved_memory c.args.self.now.nodes.items c.args.n.0 c.args.field c.index_mut.result.now c.change.new.self (some_within _ c.args.self.now.nodes.items c.args.n.0 c.args.field c.requires.hash) c.index_mut.ensures.value (noted_cells c.in-Ok.ended) (change_cells c.args.change) (λ p. IsSome (table_in p)) (λ p. tabled (changed c.args.change) p) c.requires.hash c.in-Ok.ensures.layout c.in-Ok.ensures.parts c.in-Ok.ensures.counted) c.requires.counted c.requires.most).0)

pub returns-in-Err-clause-counted : goal.returns-in-Err-clause-counted
returns-in-Err-clause-counted c = subst (λ (ns : Nodes). IsCounted c.args.self.now.held ns c.args.self.now.notes.items) (sym (returns-in-Err-clause-refused c)) c.requires.counted
