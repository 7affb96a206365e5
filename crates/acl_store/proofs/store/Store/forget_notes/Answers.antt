use Rattle.std.proofs.Common.{rules, arith, ◌≡◌, ◌∙◌, ap, refl, [], ℕ, ◌-◌}
use Rattle.acl_fields.specs.Views.{view}
use Rattle.acl_store.proofs.CountLemmas.{forgotten}
use Rattle.acl_store.proofs.store.Store.forget_notes.Goals as goal

pub less-self-requires : goal.less-self-requires
less-self-requires c =
    let l = (forgotten (view c.args.self.now.nodes.items) c.args.self.now.notes.items [] c.args.self.now.held refl c.requires.counted).1 in
    let e = c.cells_noted-gone.ensures in omega (arith, l, e)

pub returns-clause-counted : goal.returns-clause-counted
returns-clause-counted c =
    let n : c.truncate.new.self.items ≡ [] = search rules in
    c.less-self.ensures ∙ (ap (λ (r : ℕ). c.args.self.now.held - r) c.cells_noted-gone.ensures ∙ (forgotten (view c.args.self.now.nodes.items) c.args.self.now.notes.items c.truncate.new.self.items c.args.self.now.held n c.requires.counted).0)
