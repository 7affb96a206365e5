use Rattle.std.proofs.lemmas.List.{length-map}
use Rattle.std.proofs.Common.{rules, arith, ◌≡◌, ◌∙◌, ◌+◌, ℕ, length, drop, List, ap}
use Rattle.acl_fields.specs.Views.{node_of, view}
use Rattle.acl_fields.specs.Held.{nodes_cells}
use Rattle.acl_fields.specs.declared.node.Node.{Node as Memory}
use Rattle.acl_store.proofs.CountLemmas.{new_counted, sum_at}
use Rattle.acl_store.proofs.SliceLemmas.{slice_end}
use Rattle.acl_store.proofs.store.Store.push_object.Goals as goal

pub returns-in-Some-clause-counted : goal.returns-in-Some-clause-counted
returns-in-Some-clause-counted c =
    let l : c.len-before.result ≡ length c.args.self.now.nodes.items = search rules in
    let d : c.deref.result.now ≡ c.make.new.nodes.items = search rules in
    let s = sum_at c.count_nodes.result c.in-Some.held _ c.in-Some.is c.count_nodes.ensures in
    new_counted c.args.self.now.nodes.items c.make.new.nodes.items c.args.self.now.notes.items c.len-before.result c.args.self.now.held c.in-Some.held l c.in_ok-c.ensures.kept c.requires.counted (s ∙ ap (λ (ns : List Memory). c.args.self.now.held + nodes_cells (view ns)) (slice_end c.deref.result.now c.len-before.result ∙ ap (drop c.len-before.result) d))
