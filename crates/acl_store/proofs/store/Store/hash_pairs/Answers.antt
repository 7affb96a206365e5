use Rattle.std.proofs.Common.{rules}
use Rattle.acl_fields.specs.Changes.{IsKnownTable, Lists}
use Rattle.acl_store.proofs.StoreLemmas.{some_within, asked, by_part}
use Rattle.acl_store.proofs.TableLemmas.{lists_at}
use Rattle.acl_store.proofs.store.Store.hash_pairs.Goals as goal

pub index-requires : goal.index-requires
index-requires c = let h = some_within _ c.args.self.now.nodes.items c.args.n.0 c.args.field c.requires in search (rules, h)

pub pairs-requires : goal.pairs-requires
pairs-requires c = asked c.args.self.now.nodes.items c.args.n.0 c.args.field c.index.result.now (some_within _ c.args.self.now.nodes.items c.args.n.0 c.args.field c.requires) c.index.ensures (λ p. IsKnownTable c.args.syms.now.symbols p) c.requires

pub returns-in-Ok-clause-ok : goal.returns-in-Ok-clause-ok
returns-in-Ok-clause-ok c = lists_at c.args.syms.now.symbols _ c.args.n.0 c.args.field c.pairs.new.heap c.in-Ok.pairs.items c.requires
    (by_part c.args.self.now.nodes.items c.args.n.0 c.args.field c.index.result.now (some_within _ c.args.self.now.nodes.items c.args.n.0 c.args.field c.requires) c.index.ensures (λ p. IsKnownTable c.args.syms.now.symbols p) (λ p. Lists c.args.syms.now.symbols p c.pairs.new.heap c.in-Ok.pairs.items)
    (λ p. Lists c.args.syms.now.symbols p c.pairs.new.heap c.in-Ok.pairs.items) (λ p at a b. b) c.requires c.in-Ok.ensures.ok)
