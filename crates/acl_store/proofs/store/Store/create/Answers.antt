use Rattle.std.proofs.Common.{rules, ◌≡◌, take, length, reverse, ◌∙◌, ap, sym, List}
use Rattle.acl_store.proofs.StoreLemmas.{creates, new_typed, cut_back}
use Rattle.acl_store.proofs.KeepLemmas.{creates_keep}
use Rattle.acl_fields.specs.Views.{view}
use Rattle.acl_store.specs.Calls.{Nodes}
use Rattle.acl_store.specs.Counts.{cells_in}
use Rattle.acl_store.specs.declared.notes.Old.{Old}
use Rattle.acl_store.proofs.store.Store.create.Goals as goal

pub returns-in-Ok-clause-created : goal.returns-in-Ok-clause-created
returns-in-Ok-clause-created c = creates c.args.heap.now c.args.layouts.now c.args.id.0 _ _ c.in-Ok.n c.in-Ok.ensures.made

pub returns-in-Ok-clause-typed : goal.returns-in-Ok-clause-typed
returns-in-Ok-clause-typed c = new_typed c.args.heap.now c.args.layouts.now c.args.id.0 _ _ c.in-Ok.n c.in-Ok.ensures.made

pub returns-in-Err-clause-refused : goal.returns-in-Err-clause-refused
returns-in-Err-clause-refused c =
    let l : c.len-before.result ≡ length c.args.self.now.nodes.items = search rules in
    let e : c.truncate.new.self.items ≡ take c.len-before.result c.push_object.new.self.nodes.items = search rules in
    cut_back c.args.self.now.nodes.items c.push_object.new.self.nodes.items c.truncate.new.self.items c.len-before.result l e c.in-Err.ensures.kept

pub returns-in-Ok-clause-remembers : goal.returns-in-Ok-clause-remembers
returns-in-Ok-clause-remembers c = creates_keep c.args.heap.now c.args.layouts.now c.args.id.0 _ _ c.in-Ok.n (reverse c.args.self.now.notes.items) c.args.self.now.first (returns-in-Ok-clause-created c) c.in-Ok.ensures.kept

pub returns-in-Err-clause-counted : goal.returns-in-Err-clause-counted
returns-in-Err-clause-counted c =
    c.in-Err.ensures.refused
    ∙ (c.requires.counted
    ∙ (ap (λ (ns : Nodes). cells_in ns c.args.self.now.notes.items) (sym (returns-in-Err-clause-refused c)) ∙ ap (λ (os : List Old). cells_in (view c.truncate.new.self.items) os) (sym c.in-Err.ensures.notes)))
