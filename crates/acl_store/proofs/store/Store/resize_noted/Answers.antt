use Rattle.std.proofs.Common.{rules, ◌≡◌, sym, ap, subst, ◌∙◌, refl, List, [], ◌∷◌, ◌++◌}
use Rattle.acl_store.specs.Calls.{IsSizedTo, Nodes}
use Rattle.acl_fields.specs.Fields.{IsSized, IsFilled, sized}
use Rattle.acl_fields.specs.Notes.{IsWhole}
use Rattle.acl_fields.specs.Parts.{part_of}
use Rattle.acl_fields.specs.Views.{view}
use Rattle.acl_fields.specs.declared.node.Node.{Node as Memory}
use Rattle.acl_store.specs.declared.notes.Old.{Old}
use Rattle.acl_fields.specs.declared.notes.OldPart.TheVariants.{Whole}
use Rattle.acl_store.proofs.StoreLemmas.{some_within, asked, by_part, puts_it, same_it}
use Rattle.acl_store.proofs.CountLemmas.{array_counted}
use Rattle.acl_store.specs.Counts.{IsCounted}
use Rattle.acl_store.proofs.store.Store.resize_noted.Goals as goal

pub index_mut-requires : goal.index_mut-requires
index_mut-requires c = let h = some_within _ c.args.self.now.nodes.items c.args.n.0 c.args.field c.requires.array in search (rules, h)

pub renew-requires : goal.renew-requires
renew-requires c = asked c.args.self.now.nodes.items c.args.n.0 c.args.field c.index_mut.result.now (some_within _ c.args.self.now.nodes.items c.args.n.0 c.args.field c.requires.array) c.index_mut.ensures.value (λ p. IsSized p × IsFilled c.args.heap.now p) c.requires.array

pub returns-in-Ok-clause-sized : goal.returns-in-Ok-clause-sized
returns-in-Ok-clause-sized c = subst (λ (ms : List Memory). IsSizedTo c.args.heap.now (view c.args.self.now.nodes.items) c.args.n.0 c.args.field c.args.len (view ms)) (sym c.keep.ensures.nodes)
    (puts_it c.args.self.now.nodes.items c.args.n.0 c.args.field c.index_mut.result.now (some_within _ c.args.self.now.nodes.items c.args.n.0 c.args.field c.requires.array) c.index_mut.ensures.value (λ p. IsSized p × IsFilled c.args.heap.now p) (λ p. sized c.args.heap.now p c.args.len) c.renew.new.self c.requires.array c.in-Ok.ensures.layout c.in-Ok.ensures.parts)

pub returns-in-Ok-clause-noted : goal.returns-in-Ok-clause-noted
returns-in-Ok-clause-noted c = record {
  note = record { node = c.args.n.0; field = c.args.field; part = Whole c.in-Ok.slot };
  last = c.keep.ensures.noted ∙ ap (λ (os : List Old). os ++ record { node = c.args.n.0; field = c.args.field; part = Whole c.in-Ok.slot } ∷ []) c.in_ok-reserve.ensures.items;
  is_node = refl;
  is_field = refl;
  whole = by_part c.args.self.now.nodes.items c.args.n.0 c.args.field c.index_mut.result.now (some_within _ c.args.self.now.nodes.items c.args.n.0 c.args.field c.requires.array) c.index_mut.ensures.value
      (λ p. IsSized p × IsFilled c.args.heap.now p) (λ p. part_of c.in-Ok.slot ≡ p) (IsWhole (Whole c.in-Ok.slot)) (λ p at a b. b) c.requires.array c.in-Ok.ensures.old;
}

pub returns-in-Err-clause-refused : goal.returns-in-Err-clause-refused
returns-in-Err-clause-refused c = same_it c.args.self.now.nodes.items c.args.n.0 c.args.field c.index_mut.result.now (some_within _ c.args.self.now.nodes.items c.args.n.0 c.args.field c.requires.array) c.index_mut.ensures.value c.renew.new.self c.in-Err.ensures.layout c.in-Err.ensures.refused

pub returns-in-Ok-clause-counted : goal.returns-in-Ok-clause-counted
returns-in-Ok-clause-counted c = array_counted c.args.heap.now (view c.args.self.now.nodes.items) (view c.keep.new.self.nodes.items) c.args.self.now.notes.items c.keep.new.self.notes.items c.args.n.0 c.args.field c.args.len c.args.self.now.held c.args.most c.requires.array (returns-in-Ok-clause-sized c) (returns-in-Ok-clause-noted c) c.requires.most c.requires.counted

pub returns-in-Err-clause-counted : goal.returns-in-Err-clause-counted
returns-in-Err-clause-counted c =
    let e : c.reserve.new.self.items ≡ c.args.self.now.notes.items = search rules in
    subst (λ (ns : Nodes). IsCounted c.args.self.now.held ns c.reserve.new.self.items) (sym (returns-in-Err-clause-refused c)) (subst (λ (os : List Old). IsCounted c.args.self.now.held (view c.args.self.now.nodes.items) os) (sym e) c.requires.counted)
