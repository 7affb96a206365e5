use Rattle.std.proofs.Common.{rules, refl, ap, sym, ◌∙◌, subst, List, ◌++◌, ◌∷◌, [], set, ◌≡◌}
use Rattle.std.specs.Prelude.{IsSome}
use Rattle.acl_fields.specs.Fields.{table_in}
use Rattle.acl_fields.specs.Changes.{GivesBack, changed, tabled}
use Rattle.acl_store.specs.Tables.{IsTabled}
use Rattle.acl_fields.specs.Views.{view}
use Rattle.acl_fields.specs.declared.node.Node.{Node as Memory}
use Rattle.acl_store.specs.declared.notes.Old.{Old}
use Rattle.acl_store.proofs.StoreLemmas.{some_within, asked, by_part, puts_it, same_it}
use Rattle.acl_fields.specs.Held.{noted_cells, change_cells}
use Rattle.acl_store.proofs.CountLemmas.{moved_memory, noted_change, change_counted}
use Rattle.acl_store.specs.Counts.{IsCounted}
use Rattle.acl_store.specs.Calls.{Nodes}
use Rattle.acl_store.proofs.store.Store.change_noted.Goals as goal

pub index_mut-requires : goal.index_mut-requires
index_mut-requires c = let h = some_within _ c.args.self.now.nodes.items c.args.n.0 c.args.field c.requires.hash in search (rules, h)

pub change-requires-clause-table : goal.change-requires-clause-table
change-requires-clause-table c = asked c.args.self.now.nodes.items c.args.n.0 c.args.field c.index_mut.result.now (some_within _ c.args.self.now.nodes.items c.args.n.0 c.args.field c.requires.hash) c.index_mut.ensures.value (λ p. IsSome (table_in p)) c.requires.hash

pub returns-in-Ok-clause-put : goal.returns-in-Ok-clause-put
returns-in-Ok-clause-put c = subst (λ (ms : List Memory). IsTabled (view c.args.self.now.nodes.items) c.args.n.0 c.args.field (changed c.args.change) (view ms)) (sym c.keep.ensures.nodes)
    (puts_it c.args.self.now.nodes.items c.args.n.0 c.args.field c.index_mut.result.now (some_within _ c.args.self.now.nodes.items c.args.n.0 c.args.field c.requires.hash) c.index_mut.ensures.value (λ p. IsSome (table_in p)) (λ p. tabled (changed c.args.change) p) c.change.new.self c.requires.hash c.in-Ok.ensures.layout c.in-Ok.ensures.parts)

pub returns-in-Ok-clause-noted : goal.returns-in-Ok-clause-noted
returns-in-Ok-clause-noted c = record {
  note = record { node = c.args.n.0; field = c.args.field; part = c.in-Ok.part };
  last = c.keep.ensures.noted ∙ ap (λ (os : List Old). os ++ record { node = c.args.n.0; field = c.args.field; part = c.in-Ok.part } ∷ []) c.in_ok-reserve.ensures.items;
  is_node = refl;
  is_field = refl;
  is = by_part c.args.self.now.nodes.items c.args.n.0 c.args.field c.index_mut.result.now (some_within _ c.args.self.now.nodes.items c.args.n.0 c.args.field c.requires.hash) c.index_mut.ensures.value
      (λ p. IsSome (table_in p)) (λ p. GivesBack c.in-Ok.part (tabled (changed c.args.change) p) p) (λ p. GivesBack c.in-Ok.part (tabled (changed c.args.change) p) p) (λ p at a b. b) c.requires.hash c.in-Ok.ensures.noted;
}

pub returns-in-Err-clause-refused : goal.returns-in-Err-clause-refused
returns-in-Err-clause-refused c = same_it c.args.self.now.nodes.items c.args.n.0 c.args.field c.index_mut.result.now (some_within _ c.args.self.now.nodes.items c.args.n.0 c.args.field c.requires.hash) c.index_mut.ensures.value c.change.new.self c.in-Err.ensures.layout c.in-Err.ensures.refused

pub returns-in-Ok-clause-counted : goal.returns-in-Ok-clause-counted
returns-in-Ok-clause-counted c =
    let last = c.keep.ensures.noted ∙ ap (λ (os : List Old). os ++ record { node = c.args.n.0; field = c.args.field; part = c.in-Ok.part } ∷ []) c.in_ok-reserve.ensures.items in
    subst (λ (ms : List Memory). IsCounted c.args.most (view ms) c.keep.new.self.notes.items) (sym c.keep.ensures.nodes)
    (change_counted (view c.args.self.now.nodes.items) (view (set c.args.self.now.nodes.items c.args.n.0 c.change.new.self)) c.args.self.now.notes.items c.keep.new.self.notes.items c.args.self.now.held c.args.most (change_cells c.args.change)
    (noted_change (view c.args.self.now.nodes.items) (view (set c.args.self.now.nodes.items c.args.n.0 c.change.new.self)) c.args.self.now.notes.items c.keep.new.self.notes.items (change_cells c.args.change) (record { node = c.args.n.0; field = c.args.field; part = c.in-Ok.part }) (moved_memory c.args.self.now.nodes.items c.args.n.0 c.args.field c.index_mut.result.now c.change.new.self (some_within _ c.args.self.now.nodes.items c.args.n.0 c.args.field c.requires.hash) c.index_mut.ensures.value (noted_cells c.in-Ok.part) (change_cells c.args.change) (λ p. IsSome (table_in p)) (λ p. tabled (changed c.args.change) p) c.requires.hash c.in-Ok.ensures.layout c.in-Ok.ensures.parts c.in-Ok.ensures.counted) last) c.requires.counted c.requires.most)

pub returns-in-Err-clause-counted : goal.returns-in-Err-clause-counted
returns-in-Err-clause-counted c =
    let e : c.reserve.new.self.items ≡ c.args.self.now.notes.items = search rules in
    subst (λ (ns : Nodes). IsCounted c.args.self.now.held ns c.reserve.new.self.items) (sym (returns-in-Err-clause-refused c)) (subst (λ (os : List Old). IsCounted c.args.self.now.held (view c.args.self.now.nodes.items) os) (sym e) c.requires.counted)
