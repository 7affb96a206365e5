use Rattle.std.specs.Prelude.{◌^◌}
use Rattle.std.proofs.Common.{rules, arith, ◌≡◌, ◌∙◌, ◌<◌, set, subst, sym}
use Rattle.acl_fields.specs.Fields.{IsSized, IsFilled, sized}
use Rattle.acl_store.proofs.StoreLemmas.{some_within, asked, puts_it, same_it}
use Rattle.acl_fields.specs.Views.{view}
use Rattle.acl_store.proofs.CountLemmas.{few_at, cut_counted}
use Rattle.acl_store.specs.Counts.{IsCounted}
use Rattle.acl_store.specs.Calls.{Nodes}
use Rattle.acl_store.proofs.store.Store.resize_local.Goals as goal

pub index_mut-requires : goal.index_mut-requires
index_mut-requires c = let h = some_within _ c.args.self.now.nodes.items c.args.n.0 c.args.field c.requires.array in search (rules, h)

pub stretch-requires : goal.stretch-requires
stretch-requires c = asked c.args.self.now.nodes.items c.args.n.0 c.args.field c.index_mut.result.now (some_within _ c.args.self.now.nodes.items c.args.n.0 c.args.field c.requires.array) c.index_mut.ensures.value (λ p. IsSized p × IsFilled c.args.heap.now p) c.requires.array

pub returns-in-Ok-clause-sized : goal.returns-in-Ok-clause-sized
returns-in-Ok-clause-sized c = puts_it c.args.self.now.nodes.items c.args.n.0 c.args.field c.index_mut.result.now (some_within _ c.args.self.now.nodes.items c.args.n.0 c.args.field c.requires.array) c.index_mut.ensures.value (λ p. IsSized p × IsFilled c.args.heap.now p) (λ p. sized c.args.heap.now p c.args.len) c.stretch.new.self c.requires.array c.in-Ok.ensures.layout c.in-Ok.ensures.parts

pub returns-in-Err-clause-refused : goal.returns-in-Err-clause-refused
returns-in-Err-clause-refused c = same_it c.args.self.now.nodes.items c.args.n.0 c.args.field c.index_mut.result.now (some_within _ c.args.self.now.nodes.items c.args.n.0 c.args.field c.requires.array) c.index_mut.ensures.value c.stretch.new.self c.in-Err.ensures.layout c.in-Err.ensures.refused

pub cells_at-ended-requires : goal.cells_at-ended-requires
cells_at-ended-requires c = let w : c.args.self.now.held < 2 ^ 64 = search rules in few_at (view c.args.self.now.nodes.items) c.args.self.now.notes.items c.args.n.0 c.args.field c.args.self.now.held (λ p. IsSized p × IsFilled c.args.heap.now p) w c.requires.counted c.requires.array

pub less-self-requires : goal.less-self-requires
less-self-requires c = (cut_counted c.args.heap.now (view c.args.self.now.nodes.items) (view (set c.args.self.now.nodes.items c.args.n.0 c.stretch.new.self)) c.args.self.now.notes.items c.args.n.0 c.args.field c.args.len c.args.self.now.held c.args.most c.cells_at-ended.result c.requires.array (puts_it c.args.self.now.nodes.items c.args.n.0 c.args.field c.index_mut.result.now (some_within _ c.args.self.now.nodes.items c.args.n.0 c.args.field c.requires.array) c.index_mut.ensures.value (λ p. IsSized p × IsFilled c.args.heap.now p) (λ p. sized c.args.heap.now p c.args.len) c.stretch.new.self c.requires.array c.in-Ok.ensures.layout c.in-Ok.ensures.parts) c.requires.most c.cells_at-ended.ensures c.requires.counted).1

pub returns-in-Ok-clause-counted : goal.returns-in-Ok-clause-counted
returns-in-Ok-clause-counted c = c.less-self.ensures ∙ (cut_counted c.args.heap.now (view c.args.self.now.nodes.items) (view (set c.args.self.now.nodes.items c.args.n.0 c.stretch.new.self)) c.args.self.now.notes.items c.args.n.0 c.args.field c.args.len c.args.self.now.held c.args.most c.cells_at-ended.result c.requires.array (puts_it c.args.self.now.nodes.items c.args.n.0 c.args.field c.index_mut.result.now (some_within _ c.args.self.now.nodes.items c.args.n.0 c.args.field c.requires.array) c.index_mut.ensures.value (λ p. IsSized p × IsFilled c.args.heap.now p) (λ p. sized c.args.heap.now p c.args.len) c.stretch.new.self c.requires.array c.in-Ok.ensures.layout c.in-Ok.ensures.parts) c.requires.most c.cells_at-ended.ensures c.requires.counted).0

pub returns-in-Err-clause-counted : goal.returns-in-Err-clause-counted
returns-in-Err-clause-counted c = subst (λ (ns : Nodes). IsCounted c.args.self.now.held ns c.args.self.now.notes.items) (sym (returns-in-Err-clause-refused c)) c.requires.counted
