use Rattle.std.proofs.Common.{rules, ◌≡◌, ◌∙◌, [], sym, length}
use Rattle.std.proofs.lemmas.List.{length-map}
use Rattle.acl_fields.specs.Views.{node_of, view}
use Rattle.acl_store.proofs.JournalLemmas.{begun}
use Rattle.acl_store.proofs.store.Store.begin.Goals as goal

pub returns-clause-begins : goal.returns-clause-begins
returns-clause-begins c =
    let l : c.len-self.result ≡ length c.forget_notes.new.self.nodes.items = search rules in
    begun (view c.forget_notes.new.self.nodes.items) c.forget_notes.new.self.notes.items c.len-self.result c.forget_notes.ensures.notes (l ∙ sym (length-map c.forget_notes.new.self.nodes.items node_of))
