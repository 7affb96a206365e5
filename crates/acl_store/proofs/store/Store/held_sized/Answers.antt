use Rattle.std.proofs.Common.{rules, ◌≡◌, ◌+◌}
use Rattle.acl_owned.specs.Owned.{IsSum}
use Rattle.acl_fields.specs.Fields.{IsSized, IsFilled, sized}
use Rattle.acl_fields.specs.Held.{part_cells}
use Rattle.acl_store.proofs.StoreLemmas.{some_within, asked, by_part}
use Rattle.acl_store.proofs.CountLemmas.{sum_at}
use Rattle.acl_store.proofs.store.Store.held_sized.Goals as goal

pub index-requires : goal.index-requires
index-requires c = let h = some_within _ c.args.self.now.nodes.items c.args.n.0 c.args.field c.requires in search (rules, h)

pub counted_sized-requires : goal.counted_sized-requires
counted_sized-requires c = asked c.args.self.now.nodes.items c.args.n.0 c.args.field c.index.result.now (some_within _ c.args.self.now.nodes.items c.args.n.0 c.args.field c.requires) c.index.ensures (λ p. IsSized p × IsFilled c.args.heap.now p) c.requires

pub returns-in-Some : goal.returns-in-Some
returns-in-Some c = by_part c.args.self.now.nodes.items c.args.n.0 c.args.field c.index.result.now (some_within _ c.args.self.now.nodes.items c.args.n.0 c.args.field c.requires) c.index.ensures
    (λ p. IsSized p × IsFilled c.args.heap.now p) (λ p. IsSum c.counted_sized.result (c.args.self.now.held + part_cells (sized c.args.heap.now p c.args.len))) (λ p. c.in-Some.held ≡ c.args.self.now.held + part_cells (sized c.args.heap.now p c.args.len))
    (λ p at a b. sum_at c.counted_sized.result c.in-Some.held _ c.in-Some.is b) c.requires c.counted_sized.ensures
