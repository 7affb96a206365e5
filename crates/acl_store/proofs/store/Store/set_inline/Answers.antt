use Rattle.std.proofs.Common.{rules, ◌≡◌, ◌∙◌, to_z, of_z, w64, ℤ, subst, set}
use Rattle.acl_fields.specs.Fields.{IsElement, IsKept, number_of, with_element}
use Rattle.acl_store.specs.Calls.{IsPut}
use Rattle.acl_fields.specs.Views.{view}
use Rattle.acl_store.proofs.StoreLemmas.{some_within, asked, kept_word, puts_it, put_typed, writes}
use Rattle.acl_store.proofs.JournalLemmas.{writes_keep}
use Rattle.acl_store.proofs.CountLemmas.{inline_counted}
use Rattle.acl_store.proofs.store.Store.set_inline.Goals as goal

pub index_mut-requires : goal.index_mut-requires
index_mut-requires c = let h = some_within _ c.args.self.now.nodes.items c.args.n.0 c.args.field c.requires.inline in search (rules, h)

pub put-requires : goal.put-requires
put-requires c = let d : to_z w64 (of_z w64 c.number.result) ≡ c.number.result = search rules in record {
  is = asked c.args.self.now.nodes.items c.args.n.0 c.args.field c.index_mut.result.now (some_within _ c.args.self.now.nodes.items c.args.n.0 c.args.field c.requires.inline) c.index_mut.ensures.value (λ p. IsElement p c.args.index) c.requires.inline;
  fits = asked c.args.self.now.nodes.items c.args.n.0 c.args.field c.index_mut.result.now (some_within _ c.args.self.now.nodes.items c.args.n.0 c.args.field c.requires.inline) c.index_mut.ensures.value (λ p. IsKept p (to_z w64 (of_z w64 c.number.result))) (kept_word _ c.args.w (to_z w64 (of_z w64 c.number.result)) (d ∙ c.number.ensures) c.requires.word);
}

pub returns-clause-put : goal.returns-clause-put
returns-clause-put c = let d : to_z w64 (of_z w64 c.number.result) ≡ c.number.result = search rules in
    subst (λ (v : ℤ). IsPut (view c.args.self.now.nodes.items) c.args.n.0 c.args.field c.args.index v (view (set c.args.self.now.nodes.items c.args.n.0 c.put.new.self))) (d ∙ c.number.ensures)
    (puts_it c.args.self.now.nodes.items c.args.n.0 c.args.field c.index_mut.result.now (some_within _ c.args.self.now.nodes.items c.args.n.0 c.args.field c.requires.inline) c.index_mut.ensures.value (λ p. IsElement p c.args.index) (λ p. with_element p c.args.index (to_z w64 (of_z w64 c.number.result))) c.put.new.self c.requires.inline c.put.ensures.layout c.put.ensures.parts)

pub returns-clause-written : goal.returns-clause-written
returns-clause-written c = writes _ _ c.args.n.0 c.args.field c.args.index (number_of c.args.w) c.requires.inline (returns-clause-put c)

pub returns-clause-typed : goal.returns-clause-typed
returns-clause-typed c = put_typed _ _ c.args.n.0 c.args.field c.args.index (number_of c.args.w) c.requires.inline (returns-clause-put c)

pub returns-clause-remembers : goal.returns-clause-remembers
returns-clause-remembers c = writes_keep _ _ _ c.args.self.now.first c.args.n.0 c.args.field c.args.index (number_of c.args.w) c.requires.inline (returns-clause-put c)

pub returns-clause-counted : goal.returns-clause-counted
returns-clause-counted c = inline_counted _ _ c.args.self.now.notes.items c.args.n.0 c.args.field c.args.index c.args.self.now.held (number_of c.args.w) c.requires.inline (returns-clause-put c) c.requires.counted
