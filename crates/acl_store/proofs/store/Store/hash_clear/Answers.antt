use Rattle.std.proofs.Common.{rules, [], ◌<◌, ◌∙◌, set}
use Rattle.std.specs.Prelude.{IsSome, ◌^◌}
use Rattle.acl_fields.specs.Fields.{table_in}
use Rattle.acl_fields.specs.Changes.{tabled}
use Rattle.acl_store.proofs.StoreLemmas.{some_within, asked, puts_it}
use Rattle.acl_store.proofs.TableLemmas.{writes_cleared, pairs_typed, local_cleared}
use Rattle.acl_fields.specs.Views.{view}
use Rattle.acl_store.proofs.CountLemmas.{few_at, cleared_is, less_counted}
use Rattle.acl_store.proofs.store.Store.hash_clear.Goals as goal

pub index_mut-requires : goal.index_mut-requires
index_mut-requires c = let h = some_within _ c.args.self.now.nodes.items c.args.n.0 c.args.field c.requires.hash in search (rules, h)

pub clear-requires : goal.clear-requires
clear-requires c = asked c.args.self.now.nodes.items c.args.n.0 c.args.field c.index_mut.result.now (some_within _ c.args.self.now.nodes.items c.args.n.0 c.args.field c.requires.hash) c.index_mut.ensures.value (λ p. IsSome (table_in p)) c.requires.hash

pub returns-clause-put : goal.returns-clause-put
returns-clause-put c = puts_it c.args.self.now.nodes.items c.args.n.0 c.args.field c.index_mut.result.now (some_within _ c.args.self.now.nodes.items c.args.n.0 c.args.field c.requires.hash) c.index_mut.ensures.value (λ p. IsSome (table_in p)) (λ p. tabled (λ cs. []) p) c.clear.new.self c.requires.hash c.clear.ensures.layout c.clear.ensures.parts

pub returns-clause-written : goal.returns-clause-written
returns-clause-written c = writes_cleared _ _ c.args.n.0 c.args.field c.requires.hash (returns-clause-put c)

pub returns-clause-typed : goal.returns-clause-typed
returns-clause-typed c = pairs_typed _ _ _ c.args.n.0 c.args.field c.requires.hash (returns-clause-put c)

pub returns-clause-remembers : goal.returns-clause-remembers
returns-clause-remembers c = λ w. local_cleared _ _ _ c.args.self.now.first c.args.n.0 c.args.field w c.requires.hash (returns-clause-put c)

pub cells_at-gone-requires : goal.cells_at-gone-requires
cells_at-gone-requires c = let w = c.is_word.ensures in few_at (view c.args.self.now.nodes.items) c.args.self.now.notes.items c.args.n.0 c.args.field c.args.self.now.held (λ p. IsSome (table_in p)) w c.requires.counted c.requires.hash

pub less-self-requires : goal.less-self-requires
less-self-requires c = (less_counted (view c.args.self.now.nodes.items) (view (set c.args.self.now.nodes.items c.args.n.0 c.clear.new.self)) c.args.self.now.notes.items c.args.self.now.held c.cells_at-gone.result (cleared_is (view c.args.self.now.nodes.items) (view (set c.args.self.now.nodes.items c.args.n.0 c.clear.new.self)) c.args.n.0 c.args.field c.cells_at-gone.result c.requires.hash (puts_it c.args.self.now.nodes.items c.args.n.0 c.args.field c.index_mut.result.now (some_within _ c.args.self.now.nodes.items c.args.n.0 c.args.field c.requires.hash) c.index_mut.ensures.value (λ p. IsSome (table_in p)) (λ p. tabled (λ cs. []) p) c.clear.new.self c.requires.hash c.clear.ensures.layout c.clear.ensures.parts) c.cells_at-gone.ensures) c.requires.counted).1

pub returns-clause-counted : goal.returns-clause-counted
returns-clause-counted c = c.less-self.ensures ∙ (less_counted (view c.args.self.now.nodes.items) (view (set c.args.self.now.nodes.items c.args.n.0 c.clear.new.self)) c.args.self.now.notes.items c.args.self.now.held c.cells_at-gone.result (cleared_is (view c.args.self.now.nodes.items) (view (set c.args.self.now.nodes.items c.args.n.0 c.clear.new.self)) c.args.n.0 c.args.field c.cells_at-gone.result c.requires.hash (puts_it c.args.self.now.nodes.items c.args.n.0 c.args.field c.index_mut.result.now (some_within _ c.args.self.now.nodes.items c.args.n.0 c.args.field c.requires.hash) c.index_mut.ensures.value (λ p. IsSome (table_in p)) (λ p. tabled (λ cs. []) p) c.clear.new.self c.requires.hash c.clear.ensures.layout c.clear.ensures.parts) c.cells_at-gone.ensures) c.requires.counted).0
