use Rattle.std.proofs.Common.{rules, ◌≡◌, ◌∙◌, ap, take, reverse, arith, ◌≤◌, refl, ℕ, ◌-◌}
use Rattle.acl_fields.specs.Views.{view}
use Rattle.acl_store.proofs.StoreLemmas.{view_take, cuts, cut_typed}
use Rattle.acl_store.proofs.KeepLemmas.{cuts_keep}
use Rattle.acl_store.proofs.CountLemmas.{end_counted}
use Rattle.acl_store.proofs.store.Store.cut_to.Goals as goal

pub returns-clause-nodes : goal.returns-clause-nodes
returns-clause-nodes c = let e : c.truncate.new.self.items ≡ take c.args.m.0 c.args.self.now.nodes.items = search rules in ap view e ∙ view_take c.args.self.now.nodes.items c.args.m.0

pub returns-clause-cut : goal.returns-clause-cut
returns-clause-cut c = cuts (view c.args.self.now.nodes.items) _ c.args.m.0 c.requires.below (returns-clause-nodes c)

pub returns-clause-typed : goal.returns-clause-typed
returns-clause-typed c = cut_typed (view c.args.self.now.nodes.items) _ c.args.m.0 c.requires.below (returns-clause-nodes c)

pub returns-clause-remembers : goal.returns-clause-remembers
returns-clause-remembers c = cuts_keep (view c.args.self.now.nodes.items) _ c.args.m.0 (reverse c.args.self.now.notes.items) c.args.self.now.first c.requires.below (returns-clause-nodes c)

pub less-self-requires : goal.less-self-requires
less-self-requires c =
    let l = (end_counted c.args.self.now.nodes.items (take c.args.m.0 (view c.args.self.now.nodes.items)) c.args.self.now.notes.items c.args.m.0 c.args.self.now.held refl c.requires.counted).1 in
    let e = c.cells_from-gone.ensures in omega (arith, l, e)

pub returns-clause-counted : goal.returns-clause-counted
returns-clause-counted c = c.less-self.ensures ∙ (ap (λ (r : ℕ). c.args.self.now.held - r) c.cells_from-gone.ensures ∙ (end_counted c.args.self.now.nodes.items _ c.args.self.now.notes.items c.args.m.0 c.args.self.now.held (returns-clause-nodes c) c.requires.counted).0)
