use Rattle.std.proofs.Common.{rules}
use Rattle.acl_fields.specs.Fields.{HasLength}
use Rattle.acl_store.proofs.StoreLemmas.{some_within, asked, measures_it}
use Rattle.acl_store.proofs.store.Store.length.Goals as goal

pub index-requires : goal.index-requires
index-requires c = let h = some_within _ c.args.self.now.nodes.items c.args.n.0 c.args.field c.requires in search (rules, h)

pub length-requires : goal.length-requires
length-requires c = asked c.args.self.now.nodes.items c.args.n.0 c.args.field c.index.result.now (some_within _ c.args.self.now.nodes.items c.args.n.0 c.args.field c.requires) c.index.ensures HasLength c.requires

pub returns : goal.returns
returns c = measures_it c.args.self.now.nodes.items c.args.n.0 c.args.field c.index.result.now (some_within _ c.args.self.now.nodes.items c.args.n.0 c.args.field c.requires) c.index.ensures c.length.result c.requires c.length.ensures
