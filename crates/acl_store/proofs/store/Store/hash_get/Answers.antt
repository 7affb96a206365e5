use Rattle.std.proofs.Common.{rules}
use Rattle.std.specs.Prelude.{IsSome}
use Rattle.acl_fields.specs.Fields.{table_in}
use Rattle.acl_fields.specs.Changes.{FindsIn}
use Rattle.acl_store.proofs.StoreLemmas.{some_within, asked, by_part}
use Rattle.acl_store.proofs.TableLemmas.{finds_at}
use Rattle.acl_heap.specs.Growth.{reset_grown}
use Rattle.acl_store.proofs.store.Store.hash_get.Goals as goal

pub index-requires : goal.index-requires
index-requires c = let h = some_within _ c.args.self.now.nodes.items c.args.n.0 c.args.field c.requires in search (rules, h)

pub find-requires : goal.find-requires
find-requires c = asked c.args.self.now.nodes.items c.args.n.0 c.args.field c.index.result.now (some_within _ c.args.self.now.nodes.items c.args.n.0 c.args.field c.requires) c.index.ensures (λ p. IsSome (table_in p)) c.requires

pub returns-in-Ok-clause-ok : goal.returns-in-Ok-clause-ok
returns-in-Ok-clause-ok c = finds_at _ c.args.n.0 c.args.field c.args.k.now c.find.new.heap c.in-Ok.found c.requires
    (by_part c.args.self.now.nodes.items c.args.n.0 c.args.field c.index.result.now (some_within _ c.args.self.now.nodes.items c.args.n.0 c.args.field c.requires) c.index.ensures (λ p. IsSome (table_in p)) (λ p. FindsIn p c.args.k.now c.find.new.heap c.in-Ok.found)
    (λ p. FindsIn p c.args.k.now c.find.new.heap c.in-Ok.found) (λ p at a b. b) c.requires c.in-Ok.ensures.ok)

pub returns-in-Err-clause-refused : goal.returns-in-Err-clause-refused
returns-in-Err-clause-refused c = reset_grown c.in-Err.ensures.grows c.mark-mark.ensures c.reset.ensures
