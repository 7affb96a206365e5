-- One definition after another.
use Rattle.std.specs.Prelude.{◌≡◌, ◌∷◌, ◌++◌, length}
use Rattle.std.proofs.Common.{rules, sym, ap, ◌∙◌}
use Rattle.std.specs.Vec.Iter.{into_iter_items, into_iter_len}
use Rattle.acl_definitions.proofs.AddLemmas.{new_name, kept}
use Rattle.acl_definitions.proofs.adding.add_all.Goals as goal

pub add-requires-clause-fresh : goal.add-requires-clause-fresh
add-requires-clause-fresh c =
    let s : into_iter_items c.definitions.definition-iterator ≡ c.in-Some.definition ∷ into_iter_items c.next.new.self = search rules in
    new_name c.definitions.world.definitions (into_iter_items c.next.new.self) (c.args.world.now.definitions ++ c.args.definitions.items) c.in-Some.definition
    (ap (λ xs. c.definitions.world.definitions ++ xs) (sym s) ∙ c.definitions.invariant.0) c.requires.distinct

pub definitions-preserved : goal.definitions-preserved
definitions-preserved c =
    let before = c.definitions.invariant in
    let s : into_iter_items c.definitions.definition-iterator ≡ c.in-Some.definition ∷ into_iter_items c.next.new.self = search rules in
    let n : into_iter_len c.next.new.self ≡ length (into_iter_items c.next.new.self) = search rules in
    let k = kept c.args.world.now c.definitions.world c.add.new.self c.args.definitions.items (into_iter_items c.definitions.definition-iterator) (into_iter_items c.next.new.self) c.in-Some.definition
    c.in-Ok.ensures.ok s before.0 before.1 before.2 before.3 in
    (k.0, k.1, k.2, k.3, n)
