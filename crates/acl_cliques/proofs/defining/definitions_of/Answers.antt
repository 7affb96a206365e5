-- One definition after another.
use Rattle.std.specs.Prelude.{◌≡◌, ◌∷◌, length}
use Rattle.std.proofs.Common.{rules}
use Rattle.std.specs.Vec.Iter.{into_iter_items, into_iter_len}
use Rattle.acl_outputs.specs.Known.{seen_known}
use Rattle.acl_cliques.proofs.DefineLemmas.{so_far_next}
use Rattle.acl_cliques.proofs.defining.definitions_of.Goals as goal

pub members-preserved : goal.members-preserved
members-preserved c =
    let s : into_iter_items c.members.member-iterator ≡ c.in-Some.member ∷ into_iter_items c.next.new.self = search rules in
    let n : into_iter_len c.next.new.self ≡ length (into_iter_items c.next.new.self) = search rules in (
      so_far_next c.args.heap.now (seen_known c.args.known.now) c.args.members.items c.args.executable.now c.args.terms.now c.members.n (into_iter_items c.members.member-iterator)
          (into_iter_items c.next.new.self) c.members.definitions.items c.add_definition.new.definitions.items c.in-Some.member c.in_ok-definition.definition _ _
          c.members.invariant.0 s c.requires.same c.requires.terms c.in_ok-definition.ensures.seen c.in_ok-definition.ensures.terms c.in_ok-definition.ensures.reach c.in_ok-add_definition.ensures,
      n,
    )
