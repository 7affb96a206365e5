use Rattle.std.proofs.Common.{rules, ◌≡◌, List, subst, sym}
use Rattle.acl_fields.specs.Views.{view}
use Rattle.acl_store.specs.Counts.{IsCounted}
use Rattle.acl_store.specs.declared.notes.Old.{Old}
use Rattle.acl_store.proofs.store.Store.set_noted.Goals as goal

pub returns-in-Err-clause-counted : goal.returns-in-Err-clause-counted
returns-in-Err-clause-counted c = let e : c.reserve.new.self.items ≡ c.args.self.now.notes.items = search rules in subst (λ (os : List Old). IsCounted c.args.self.now.held (view c.args.self.now.nodes.items) os) (sym e) c.requires.counted
