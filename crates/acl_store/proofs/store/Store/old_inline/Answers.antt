use Rattle.acl_fields.specs.Views.{view}
use Rattle.std.proofs.Common.{rules}
use Rattle.acl_fields.specs.Fields.{IsElement}
use Rattle.acl_fields.specs.Notes.{IsNote}
use Rattle.acl_store.proofs.StoreLemmas.{some_within, asked, by_part}
use Rattle.acl_store.proofs.CountLemmas.{integer_is}
use Rattle.acl_store.proofs.store.Store.old_inline.Goals as goal

pub index-requires : goal.index-requires
index-requires c = let h = some_within _ c.args.self.now.nodes.items c.args.n.0 c.args.field c.requires in search (rules, h)

pub noted-requires : goal.noted-requires
noted-requires c = asked c.args.self.now.nodes.items c.args.n.0 c.args.field c.index.result.now (some_within _ c.args.self.now.nodes.items c.args.n.0 c.args.field c.requires) c.index.ensures (λ p. IsElement p c.args.index) c.requires

pub returns-clause-note : goal.returns-clause-note
returns-clause-note c = by_part c.args.self.now.nodes.items c.args.n.0 c.args.field c.index.result.now (some_within _ c.args.self.now.nodes.items c.args.n.0 c.args.field c.requires) c.index.ensures (λ p. IsElement p c.args.index) (λ p. IsNote c.noted.result p c.args.index) (λ p. IsNote c.noted.result p c.args.index) (λ p at a b. b) c.requires c.noted.ensures

pub returns-clause-none : goal.returns-clause-none
returns-clause-none c = integer_is (view c.args.self.now.nodes.items) c.args.n.0 c.args.field c.args.index c.noted.result c.requires (returns-clause-note c)
