use Rattle.std.proofs.Common.{rules, ◌≡◌, ◌++◌, ◌∷◌, [], List, subst, sym}
use Rattle.acl_fields.specs.Views.{view}
use Rattle.acl_store.proofs.CountLemmas.{none_counted}
use Rattle.acl_store.specs.Counts.{IsCounted}
use Rattle.acl_store.specs.declared.notes.Old.{Old}
use Rattle.acl_store.proofs.store.Store.note.Goals as goal

pub returns-in-Ok-clause-counted : goal.returns-in-Ok-clause-counted
returns-in-Ok-clause-counted c =
    let e : c.push.new.self.items ≡ c.args.self.now.notes.items ++ c.args.old ∷ [] = search rules in
    none_counted (view c.args.self.now.nodes.items) c.args.self.now.notes.items c.push.new.self.items c.args.old c.args.self.now.held e c.requires.none c.requires.counted

pub returns-in-Err-clause-counted : goal.returns-in-Err-clause-counted
returns-in-Err-clause-counted c = let e : c.push.new.self.items ≡ c.args.self.now.notes.items = search rules in subst (λ (os : List Old). IsCounted c.args.self.now.held (view c.args.self.now.nodes.items) os) (sym e) c.requires.counted
