use Rattle.std.proofs.Common.{rules, refl, List, subst, sym}
use Rattle.acl_store.specs.Calls.{IsObjectPut}
use Rattle.acl_fields.specs.Fields.{IsHeld, with_held}
use Rattle.acl_fields.specs.Notes.{IsNote}
use Rattle.acl_fields.specs.Views.{view}
use Rattle.acl_fields.specs.declared.node.Node.{Node as Memory}
use Rattle.acl_store.proofs.StoreLemmas.{some_within, asked, by_part, puts_it}
use Rattle.acl_store.proofs.CountLemmas.{object_counted}
use Rattle.acl_store.proofs.store.Store.swap_noted.Goals as goal

pub index_mut-node-requires : goal.index_mut-node-requires
index_mut-node-requires c = let h = some_within _ c.args.self.now.nodes.items c.args.n.0 c.args.field c.requires.general in search (rules, h)

pub exchange-old-requires : goal.exchange-old-requires
exchange-old-requires c = asked c.args.self.now.nodes.items c.args.n.0 c.args.field c.index_mut-node.result.now (some_within _ c.args.self.now.nodes.items c.args.n.0 c.args.field c.requires.general) c.index_mut-node.ensures.value (λ p. IsHeld p c.args.index) c.requires.general

pub returns-clause-put : goal.returns-clause-put
returns-clause-put c = subst (λ (ms : List Memory). IsObjectPut (view c.args.self.now.nodes.items) c.args.n.0 c.args.field c.args.index c.args.o (view ms)) (sym c.keep.ensures.nodes)
    (puts_it c.args.self.now.nodes.items c.args.n.0 c.args.field c.index_mut-node.result.now (some_within _ c.args.self.now.nodes.items c.args.n.0 c.args.field c.requires.general) c.index_mut-node.ensures.value (λ p. IsHeld p c.args.index) (λ p. with_held p c.args.index c.args.o) c.exchange-old.new.self c.requires.general c.exchange-old.ensures.layout c.exchange-old.ensures.parts)

pub returns-clause-noted : goal.returns-clause-noted
returns-clause-noted c = record {
  note = record { node = c.args.n.0; field = c.args.field; part = c.exchange-old.result };
  last = c.keep.ensures.noted;
  is_node = refl;
  is_field = refl;
  is = by_part c.args.self.now.nodes.items c.args.n.0 c.args.field c.index_mut-node.result.now (some_within _ c.args.self.now.nodes.items c.args.n.0 c.args.field c.requires.general) c.index_mut-node.ensures.value
      (λ p. IsHeld p c.args.index) (λ p. IsNote c.exchange-old.result p c.args.index) (λ p. IsNote c.exchange-old.result p c.args.index) (λ p at a b. b) c.requires.general c.exchange-old.ensures.noted;
}

pub returns-clause-counted : goal.returns-clause-counted
returns-clause-counted c = object_counted (view c.args.self.now.nodes.items) (view c.keep.new.self.nodes.items) c.args.self.now.notes.items c.keep.new.self.notes.items c.args.n.0 c.args.field c.args.index c.args.self.now.held c.args.most c.args.o c.requires.general (returns-clause-put c) (returns-clause-noted c) c.requires.counted c.requires.most
