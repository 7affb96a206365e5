-- A part, and the loop over the parts of a node.
use Rattle.std.proofs.Common.{◌∙◌, ◌≤◌, ◌<◌, length, refl, arith}
use Rattle.model_expansion_parts.proofs.LawLemmas.{nodes_have_parts, parts_are_known}
use Rattle.acl_forms.specs.Growth.{Grown-then}
use Rattle.acl_worlds.specs.Contents.{WorldLies}
use Rattle.acl_layers.specs.Layers.{seen_part}
use Rattle.acl_expand.specs.Looks.{setting_at}
use Rattle.acl_expand.specs.Progresses.{seen_progress}
use Rattle.acl_expand.proofs.KnownLemmas.{supplies_there}
use Rattle.acl_expand.proofs.SettleLemmas.{setting_later}
use Rattle.acl_growing.proofs.GrowLemmas.{grown_fails, grown_leaf, node_fails, node_grown, all_fails, all_goes, all_past, lies_there, fits_there, known_there, known_pushed, cores_pushed, reach_pushed, node_count}
use Rattle.acl_growing.proofs.growing.+grow.Goals as goal

pub grow-returns-in-Err-clause-ends : goal.grow-returns-in-Err-clause-ends
grow-returns-in-Err-clause-ends g t c = λ known.
    grown_fails _ _ _ _ _ _ (omega arith) (c.in-Err.ensures.ends known)

pub grow-returns-in-Leaf-clause-ends : goal.grow-returns-in-Leaf-clause-ends
grow-returns-in-Leaf-clause-ends g t c =
    let o = rw c.in-Leaf.is at c.in-Ok.ensures.ends in
    (grown_leaf (setting_at c.args.heap.now c.args.world.now c.args.syms.now c.args.limits.steps c.args.limits.depth) _ _ _ _ _ (omega arith) o.0, o.1)

pub grow-returns-in-Leaf-clause-known : goal.grow-returns-in-Leaf-clause-known
grow-returns-in-Leaf-clause-known g t c = rw c.in-Leaf.is at c.in-Ok.ensures.known

pub grow-grow_all-requires : goal.grow-grow_all-requires
grow-grow_all-requires g t c = λ κs inside.
    let o = rw c.in-Node.is at c.in-Ok.ensures.ends in
    let known = rw c.in-Node.is at c.in-Ok.ensures.known in
    let now = c.part_found.ensures in
    let world : WorldLies c.part_found.new.heap c.args.world.now = omega (arith, c.requires.world, now.grows.heap.longer) in
    (omega (arith, c.decreases), (inside, (now.fits, (world, (rw c.as_slice.ensures o.1, (rw c.as_slice.ensures o.2, (supplies_there now.grows c.args.world.now c.requires.world c.requires.supplies, (rw c.as_slice.ensures known, (c.requires.limits, now.counts)))))))))

pub grow-returns-in-Err-grow_all-clause-ends : goal.grow-returns-in-Err-grow_all-clause-ends
grow-returns-in-Err-grow_all-clause-ends g t c =
    let o = rw c.in-Node.is at c.in-Ok.ensures.ends in
    let same = setting_later c.part_found.ensures.grows.heap c.args.world.now c.args.syms.now c.part_found.new.syms c.args.limits.steps c.args.limits.depth c.requires.world c.part_found.ensures.packages in
    λ known.
    let q = rw same at (rw c.as_slice.ensures at (c.in-Err-grow_all.ensures.ends known)) in
    node_fails (setting_at c.args.heap.now c.args.world.now c.args.syms.now c.args.limits.steps c.args.limits.depth) _ _ _ _ _ _ _ _ (omega arith) o.0 q

pub grow-core_of_node-requires-clause-count : goal.grow-core_of_node-requires-clause-count
grow-core_of_node-requires-clause-count g t c =
    let o = rw c.in-Node.is at c.in-Ok.ensures.ends in
    let q = rw c.as_slice.ensures at c.in-Ok-grow_all.ensures.ends in
    node_count _ _ _ (nodes_have_parts.node (setting_at c.args.heap.now c.args.world.now c.args.syms.now c.args.limits.steps c.args.limits.depth) c.args.left (seen_part c.args.heap.now c.args.part) (seen_progress c.args.syms.now.symbols c.args.progress.now) _ _ _ _ _ _ o.0 q.0)

pub grow-returns-in_ok-core-in-Ok-grow_all-clause-ends : goal.grow-returns-in_ok-core-in-Ok-grow_all-clause-ends
grow-returns-in_ok-core-in-Ok-grow_all-clause-ends g t c =
    let o = rw c.in-Node.is at c.in-Ok.ensures.ends in
    let same = setting_later c.part_found.ensures.grows.heap c.args.world.now c.args.syms.now c.part_found.new.syms c.args.limits.steps c.args.limits.depth c.requires.world c.part_found.ensures.packages in
    let q = rw same at (rw c.as_slice.ensures at c.in-Ok-grow_all.ensures.ends) in
    let whole = c.in_ok-core-in-Ok-grow_all.ensures in
    (node_grown (setting_at c.args.heap.now c.args.world.now c.args.syms.now c.args.limits.steps c.args.limits.depth) _ _ _ _ _ _ _ _ (omega arith) o.0 q.0 ∙ rw whole.0 refl, whole.1)

pub grow-returns-in_ok-core-in-Ok-grow_all-clause-known : goal.grow-returns-in_ok-core-in-Ok-grow_all-clause-known
grow-returns-in_ok-core-in-Ok-grow_all-clause-known g t c =
    let whole = c.in_ok-core-in-Ok-grow_all.ensures in
    let two : 2 ≤ length c.grow_all.new.syms.symbols = omega (arith, c.requires.supplies.enough, c.part_found.ensures.grows.table.longer, c.grow_all.ensures.grows.table.longer) in
    rw whole.0 (parts_are_known.node (length c.grow_all.new.syms.symbols) _ _ two c.in-Ok-grow_all.ensures.known)

pub grow_all-grow-requires : goal.grow_all-grow-requires
grow_all-grow-requires g t c = λ κs inside.
    let before = c.parts.invariant in
    let there : c.parts.part-index < length c.args.parts.now = c.parts-test.true in
    let lies = lies_there before.0.heap c.args.parts.now c.parts.part-index _ there c.requires.parts in
    let fits = fits_there before.0.heap c.args.parts.now c.parts.part-index _ there c.requires.parts c.requires.rest in
    let known = known_there (length c.args.syms.now.symbols) (length c.parts.syms.symbols) before.0.table.longer before.0.heap c.args.parts.now c.parts.part-index _ there c.requires.parts c.requires.known in
    (omega (arith, c.decreases), (inside, (before.3, (omega (arith, c.requires.world, before.0.heap.longer), (lies, (fits, (supplies_there before.0 c.args.world.now c.requires.world c.requires.supplies, (known, (c.requires.limits, before.4)))))))))

pub grow_all-returns-in-Err-clause-ends : goal.grow_all-returns-in-Err-clause-ends
grow_all-returns-in-Err-clause-ends g t c =
    let same = setting_later c.parts.invariant.0.heap c.args.world.now c.args.syms.now c.parts.syms c.args.limits.steps c.args.limits.depth c.requires.world c.parts.invariant.1 in
    λ known. c.parts.invariant.6 ∙ all_fails _ c.parts.invariant.0.heap c.args.parts.now c.parts.part-index _ _ _ _ _ (omega arith) refl c.requires.parts _ (rw same at (c.in-Err.ensures.ends known))

pub grow_all-parts-preserved : goal.grow_all-parts-preserved
grow_all-parts-preserved g t c =
    let before = c.parts.invariant in
    let now = c.grow.ensures in
    let ends = c.in-Ok.ensures.ends in
    let same = setting_later before.0.heap c.args.world.now c.args.syms.now c.parts.syms c.args.limits.steps c.args.limits.depth c.requires.world before.1 in
    let pushed = cores_pushed now.grows.heap c.parts.done.items c.in-Ok.core before.5 in (
      Grown-then before.0 now.grows,
      now.packages ∙ before.1,
      now.live ∙ before.2,
      now.fits,
      now.counts,
      rw c.in_ok-add-in-Ok.ensures (reach_pushed c.parts.done.items c.in-Ok.core _ (omega (arith, before.5, now.grows.heap.longer)) ends.1),
      before.6 ∙ (all_goes _ before.0.heap c.args.parts.now c.parts.part-index _ _ _ _ _ (omega arith) refl c.requires.parts _ (rw same at ends.0) ∙ rw c.in_ok-add-in-Ok.ensures (rw pushed refl)),
      rw c.in_ok-add-in-Ok.ensures (rw pushed (known_pushed (length c.parts.syms.symbols) (length c.grow.new.syms.symbols) now.grows.table.longer _ _ before.7 c.in-Ok.ensures.known)),
    )

pub grow_all-returns-clause-ends : goal.grow_all-returns-clause-ends
grow_all-returns-clause-ends g t c =
    let past : length c.args.parts.now ≤ c.parts.part-index = omega arith in
    (c.parts.invariant.6 ∙ all_past _ _ c.args.parts.now c.parts.part-index _ _ past, c.parts.invariant.5)
