use Rattle.std.proofs.Common.{rules, ◌≡◌, ◌<◌}
use Rattle.std.specs.Prelude.{◌^◌}
use Rattle.acl_fields.specs.Held.{part_cells}
use Rattle.acl_store.proofs.StoreLemmas.{some_within, asked, by_part}
use Rattle.acl_store.proofs.store.Store.cells_at.Goals as goal

pub index-requires : goal.index-requires
index-requires c = let h = some_within _ c.args.self.now.nodes.items c.args.n.0 c.args.field c.requires in search (rules, h)

pub cells-requires : goal.cells-requires
cells-requires c = asked c.args.self.now.nodes.items c.args.n.0 c.args.field c.index.result.now (some_within _ c.args.self.now.nodes.items c.args.n.0 c.args.field c.requires) c.index.ensures (λ p. part_cells p < 2 ^ 64) c.requires

pub returns : goal.returns
returns c = by_part c.args.self.now.nodes.items c.args.n.0 c.args.field c.index.result.now (some_within _ c.args.self.now.nodes.items c.args.n.0 c.args.field c.requires) c.index.ensures
    (λ p. part_cells p < 2 ^ 64) (λ p. c.cells.result ≡ part_cells p) (λ p. c.cells.result ≡ part_cells p) (λ p at a b. b) c.requires c.cells.ensures
