use Rattle.std.proofs.Common.{rules}
use Rattle.acl_fields.specs.Parts.{HasChild}
use Rattle.acl_store.proofs.StoreLemmas.{some_within, asked, lends_it}
use Rattle.acl_store.proofs.store.Store.child.Goals as goal

pub index-requires : goal.index-requires
index-requires c = let h = some_within _ c.args.self.now.nodes.items c.args.n.0 c.args.field c.requires in search (rules, h)

pub child-requires : goal.child-requires
child-requires c = asked c.args.self.now.nodes.items c.args.n.0 c.args.field c.index.result.now (some_within _ c.args.self.now.nodes.items c.args.n.0 c.args.field c.requires) c.index.ensures (λ p. HasChild p c.args.index) c.requires

pub returns : goal.returns
returns c = lends_it c.args.self.now.nodes.items c.args.n.0 c.args.field c.index.result.now (some_within _ c.args.self.now.nodes.items c.args.n.0 c.args.field c.requires) c.index.ensures c.args.index c.child.result c.requires c.child.ensures
