use Rattle.std.specs.Prelude.{length, reverse}
use Rattle.acl_store.specs.Counts.{IsCounted}
use Rattle.acl_store.specs.Journals.{StepsBack}
use Rattle.acl_fields.specs.Views.{view}
use Rattle.acl_store.proofs.store.Store.abandon.Given as goal

abbrev pub invariant-loop : goal.invariant-loop
invariant-loop l = StepsBack (view l.fn.self.nodes.items) (reverse l.fn.self.notes.items) (view l.self.nodes.items) (reverse l.self.notes.items) × IsCounted l.self.held (view l.self.nodes.items) l.self.notes.items

abbrev pub decreases-loop : goal.decreases-loop
decreases-loop l = length l.self.notes.items
