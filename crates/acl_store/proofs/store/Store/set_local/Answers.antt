use Rattle.std.specs.Prelude.{◌^◌}
use Rattle.std.proofs.Common.{ℕ, rules, arith, ◌≡◌, ◌∙◌, ◌<◌, ◌-◌, ap, set}
use Rattle.acl_fields.specs.Fields.{IsHeld, with_held}
use Rattle.acl_fields.specs.Notes.{IsNote}
use Rattle.acl_store.proofs.StoreLemmas.{some_within, asked, by_part, puts_it}
use Rattle.model_objects.specs.Object.{cells}
use Rattle.acl_fields.specs.Held.{noted_cells}
use Rattle.acl_fields.specs.Views.{view}
use Rattle.acl_store.proofs.CountLemmas.{ended_memory, local_counted}
use Rattle.acl_store.proofs.store.Store.set_local.Goals as goal

pub index_mut-requires : goal.index_mut-requires
index_mut-requires c = let h = some_within _ c.args.self.now.nodes.items c.args.n.0 c.args.field c.requires.general in search (rules, h)

pub exchange-ended-requires : goal.exchange-ended-requires
exchange-ended-requires c = asked c.args.self.now.nodes.items c.args.n.0 c.args.field c.index_mut.result.now (some_within _ c.args.self.now.nodes.items c.args.n.0 c.args.field c.requires.general) c.index_mut.ensures.value (λ p. IsHeld p c.args.index) c.requires.general

pub returns-clause-put : goal.returns-clause-put
returns-clause-put c = puts_it c.args.self.now.nodes.items c.args.n.0 c.args.field c.index_mut.result.now (some_within _ c.args.self.now.nodes.items c.args.n.0 c.args.field c.requires.general) c.index_mut.ensures.value (λ p. IsHeld p c.args.index) (λ p. with_held p c.args.index c.args.o) c.exchange-ended.new.self c.requires.general c.exchange-ended.ensures.layout c.exchange-ended.ensures.parts

pub cells-requires : goal.cells-requires
cells-requires c =
    let l = (local_counted (view c.args.self.now.nodes.items) (view (set c.args.self.now.nodes.items c.args.n.0 c.exchange-ended.new.self)) c.args.self.now.notes.items c.args.self.now.held c.args.most (cells c.args.o) (noted_cells c.exchange-ended.result) (ended_memory c.args.self.now.nodes.items c.args.n.0 c.args.field c.args.index c.args.o c.exchange-ended.result c.index_mut.result.now c.exchange-ended.new.self (some_within _ c.args.self.now.nodes.items c.args.n.0 c.args.field c.requires.general) c.index_mut.ensures.value c.requires.general c.exchange-ended.ensures.layout c.exchange-ended.ensures.parts c.exchange-ended.ensures.noted) c.requires.counted c.requires.most).1 in
    let w : c.args.most < 2 ^ 64 = search rules in omega (arith, l, w)

pub less-self-requires : goal.less-self-requires
less-self-requires c =
    let l = (local_counted (view c.args.self.now.nodes.items) (view (set c.args.self.now.nodes.items c.args.n.0 c.exchange-ended.new.self)) c.args.self.now.notes.items c.args.self.now.held c.args.most (cells c.args.o) (noted_cells c.exchange-ended.result) (ended_memory c.args.self.now.nodes.items c.args.n.0 c.args.field c.args.index c.args.o c.exchange-ended.result c.index_mut.result.now c.exchange-ended.new.self (some_within _ c.args.self.now.nodes.items c.args.n.0 c.args.field c.requires.general) c.index_mut.ensures.value c.requires.general c.exchange-ended.ensures.layout c.exchange-ended.ensures.parts c.exchange-ended.ensures.noted) c.requires.counted c.requires.most).1 in
    let e = c.cells.ensures in omega (arith, l, e)

pub returns-clause-counted : goal.returns-clause-counted
returns-clause-counted c = c.less-self.ensures ∙ (ap (λ (r : ℕ). c.args.most - r) c.cells.ensures ∙ (local_counted (view c.args.self.now.nodes.items) (view (set c.args.self.now.nodes.items c.args.n.0 c.exchange-ended.new.self)) c.args.self.now.notes.items c.args.self.now.held c.args.most (cells c.args.o) (noted_cells c.exchange-ended.result) (ended_memory c.args.self.now.nodes.items c.args.n.0 c.args.field c.args.index c.args.o c.exchange-ended.result c.index_mut.result.now c.exchange-ended.new.self (some_within _ c.args.self.now.nodes.items c.args.n.0 c.args.field c.requires.general) c.index_mut.ensures.value c.requires.general c.exchange-ended.ensures.layout c.exchange-ended.ensures.parts c.exchange-ended.ensures.noted) c.requires.counted c.requires.most).0)
