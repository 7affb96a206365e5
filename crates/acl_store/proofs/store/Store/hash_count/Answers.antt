use Rattle.std.proofs.Common.{rules}
use Rattle.std.specs.Prelude.{IsSome}
use Rattle.acl_fields.specs.Fields.{table_in}
use Rattle.acl_fields.specs.Changes.{Counts}
use Rattle.acl_store.proofs.StoreLemmas.{some_within, asked, by_part}
use Rattle.acl_store.proofs.TableLemmas.{counts_at}
use Rattle.acl_store.proofs.store.Store.hash_count.Goals as goal

pub index-requires : goal.index-requires
index-requires c = let h = some_within _ c.args.self.now.nodes.items c.args.n.0 c.args.field c.requires in search (rules, h)

pub count-requires : goal.count-requires
count-requires c = asked c.args.self.now.nodes.items c.args.n.0 c.args.field c.index.result.now (some_within _ c.args.self.now.nodes.items c.args.n.0 c.args.field c.requires) c.index.ensures (λ p. IsSome (table_in p)) c.requires

pub returns : goal.returns
returns c = counts_at _ c.args.n.0 c.args.field c.count.result c.requires
    (by_part c.args.self.now.nodes.items c.args.n.0 c.args.field c.index.result.now (some_within _ c.args.self.now.nodes.items c.args.n.0 c.args.field c.requires) c.index.ensures (λ p. IsSome (table_in p)) (λ p. Counts p c.count.result) (λ p. Counts p c.count.result) (λ p at a b. b) c.requires c.count.ensures)
