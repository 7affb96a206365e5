use Rattle.acl_fields.specs.Views.{view}
use Rattle.acl_store.proofs.JournalLemmas.{may_write}
use Rattle.acl_store.proofs.store.Store.note_inline.Goals as goal

pub returns-clause-noted : goal.returns-clause-noted
returns-clause-noted c = may_write (view c.args.self.now.nodes.items) c.args.self.now.notes.items c.note.new.self.notes.items c.note.new.self.first c.args.n.0 c.args.field c.args.index c.old_inline-old.result
    c.in_ok-note.ensures.noted c.old_inline-old.ensures.node c.old_inline-old.ensures.field c.requires.inline c.old_inline-old.ensures.note
