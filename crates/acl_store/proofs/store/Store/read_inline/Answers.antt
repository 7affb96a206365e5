use Rattle.std.proofs.Common.{rules, ◌≡◌, to_z, of_z, w64, ℤ, subst}
use Rattle.acl_base.specs.declared.Word.TheVariants.{Small}
use Rattle.acl_fields.specs.Fields.{IsElement}
use Rattle.acl_store.specs.Calls.{Reads}
use Rattle.acl_fields.specs.Views.{view}
use Rattle.acl_store.proofs.StoreLemmas.{some_within, asked, reads_it}
use Rattle.acl_store.proofs.store.Store.read_inline.Goals as goal

pub index-requires : goal.index-requires
index-requires c = let h = some_within _ c.args.self.now.nodes.items c.args.n.0 c.args.field c.requires in search (rules, h)

pub get-requires : goal.get-requires
get-requires c = asked c.args.self.now.nodes.items c.args.n.0 c.args.field c.index.result.now (some_within _ c.args.self.now.nodes.items c.args.n.0 c.args.field c.requires) c.index.ensures (λ p. IsElement p c.args.index) c.requires

pub returns : goal.returns
returns c = let d : c.get.result ≡ to_z w64 (of_z w64 c.get.result) = search rules in
    subst (λ (v : ℤ). Reads (view c.args.self.now.nodes.items) c.args.n.0 c.args.field c.args.index (Small v)) d (reads_it c.args.self.now.nodes.items c.args.n.0 c.args.field c.index.result.now (some_within _ c.args.self.now.nodes.items c.args.n.0 c.args.field c.requires) c.index.ensures c.args.index c.get.result c.requires c.get.ensures)
