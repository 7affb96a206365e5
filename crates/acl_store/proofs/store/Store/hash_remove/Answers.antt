use Rattle.std.proofs.Common.{rules, None, ◌∙◌, set}
use Rattle.std.specs.Prelude.{IsSome}
use Rattle.acl_maps.specs.Cells.{with_cell}
use Rattle.acl_fields.specs.Fields.{table_in}
use Rattle.acl_fields.specs.Changes.{tabled}
use Rattle.acl_store.proofs.StoreLemmas.{some_within, asked, puts_it}
use Rattle.acl_store.proofs.TableLemmas.{writes_removed, pairs_typed, local_removed}
use Rattle.acl_fields.specs.Views.{view}
use Rattle.acl_store.proofs.CountLemmas.{gone_memory, less_counted}
use Rattle.acl_store.proofs.store.Store.hash_remove.Goals as goal

pub index_mut-requires : goal.index_mut-requires
index_mut-requires c = let h = some_within _ c.args.self.now.nodes.items c.args.n.0 c.args.field c.requires.hash in search (rules, h)

pub remove-gone-requires : goal.remove-gone-requires
remove-gone-requires c = asked c.args.self.now.nodes.items c.args.n.0 c.args.field c.index_mut.result.now (some_within _ c.args.self.now.nodes.items c.args.n.0 c.args.field c.requires.hash) c.index_mut.ensures.value (λ p. IsSome (table_in p)) c.requires.hash

pub returns-clause-put : goal.returns-clause-put
returns-clause-put c = puts_it c.args.self.now.nodes.items c.args.n.0 c.args.field c.index_mut.result.now (some_within _ c.args.self.now.nodes.items c.args.n.0 c.args.field c.requires.hash) c.index_mut.ensures.value (λ p. IsSome (table_in p)) (λ p. tabled (with_cell c.args.k.now None) p) c.remove-gone.new.self c.requires.hash c.remove-gone.ensures.layout c.remove-gone.ensures.parts

pub returns-clause-written : goal.returns-clause-written
returns-clause-written c = writes_removed c.args.k.now _ _ c.args.n.0 c.args.field c.requires.hash (returns-clause-put c)

pub returns-clause-typed : goal.returns-clause-typed
returns-clause-typed c = pairs_typed _ _ _ c.args.n.0 c.args.field c.requires.hash (returns-clause-put c)

pub returns-clause-remembers : goal.returns-clause-remembers
returns-clause-remembers c = λ w. local_removed c.args.k.now _ _ _ c.args.self.now.first c.args.n.0 c.args.field w c.requires.hash (returns-clause-put c)

pub less-self-requires : goal.less-self-requires
less-self-requires c = (less_counted (view c.args.self.now.nodes.items) (view (set c.args.self.now.nodes.items c.args.n.0 c.remove-gone.new.self)) c.args.self.now.notes.items c.args.self.now.held c.remove-gone.result (gone_memory c.args.self.now.nodes.items c.args.n.0 c.args.field c.index_mut.result.now c.remove-gone.new.self (some_within _ c.args.self.now.nodes.items c.args.n.0 c.args.field c.requires.hash) c.index_mut.ensures.value c.remove-gone.result (λ p. IsSome (table_in p)) (λ p. tabled (with_cell c.args.k.now None) p) c.requires.hash c.remove-gone.ensures.layout c.remove-gone.ensures.parts c.remove-gone.ensures.gone) c.requires.counted).1

pub returns-clause-counted : goal.returns-clause-counted
returns-clause-counted c = c.less-self.ensures ∙ (less_counted (view c.args.self.now.nodes.items) (view (set c.args.self.now.nodes.items c.args.n.0 c.remove-gone.new.self)) c.args.self.now.notes.items c.args.self.now.held c.remove-gone.result (gone_memory c.args.self.now.nodes.items c.args.n.0 c.args.field c.index_mut.result.now c.remove-gone.new.self (some_within _ c.args.self.now.nodes.items c.args.n.0 c.args.field c.requires.hash) c.index_mut.ensures.value c.remove-gone.result (λ p. IsSome (table_in p)) (λ p. tabled (with_cell c.args.k.now None) p) c.requires.hash c.remove-gone.ensures.layout c.remove-gone.ensures.parts c.remove-gone.ensures.gone) c.requires.counted).0
