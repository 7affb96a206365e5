-- One thing after another.
use Rattle.std.specs.Prelude.{◌≡◌, ◌<◌, ◌≤◌, ◌∷◌, length}
use Rattle.std.proofs.Common.{rules, sym, ap, ◌∙◌, arith}
use Rattle.model_terms.specs.Cores as cores
use Rattle.model_expansion.specs.TypeTerms.{false_core}
use Rattle.model_expansion.specs.Layers as layers
use Rattle.model_expansion.specs.Expansion as expansion
use Rattle.model_expansion_parts.proofs.KnownLemmas.{form_later}
use Rattle.acl_terms.specs.Forms.{seen_core}
use Rattle.acl_terms.specs.Growth.{seen_core-later}
use Rattle.acl_worlds.specs.Contents.{WorldLies}
use Rattle.acl_declare.specs.Said.{items_reach, seen_items}
use Rattle.acl_expand.specs.Looks.{setting_at}
use Rattle.acl_expand.specs.Progresses.{seen_progress}
use Rattle.acl_expand.proofs.KnownLemmas.{supplies_there}
use Rattle.acl_expand.proofs.SettleLemmas.{setting_later}
use Rattle.acl_guards.proofs.GuardLemmas.{item_lies, item_known, others_lie, others_known, items_later, known_later, guard_empty, one_at_most, item_fails, rest_fails, all_made, nothing_left}
use Rattle.acl_guards.proofs.guard.+guard.Goals as goal

pub returns-then-left-eq0-clause-ends : goal.returns-then-left-eq0-clause-ends
returns-then-left-eq0-clause-ends g t c =
    let x = setting_at c.args.heap.now c.args.world.now c.args.syms.now c.args.limits.steps c.args.limits.depth in
    let z : c.args.left ≡ 0 = search rules in
    λ known. nothing_left x c.args.heap.now c.args.left (layers.Guard (seen_items c.args.heap.now c.args.items.now)) (seen_progress c.args.syms.now.symbols c.args.progress.now) c.no_stop.result z c.no_stop.ensures

pub returns-in-None-clause-ends : goal.returns-in-None-clause-ends
returns-in-None-clause-ends g t c =
    let x = setting_at c.args.heap.now c.args.world.now c.args.syms.now c.args.limits.steps c.args.limits.depth in
    let p = seen_progress c.args.syms.now.symbols c.args.progress.now in
    let n : length c.args.items.now ≡ 0 = search rules in
    (guard_empty x c.args.heap.now c.args.left (omega arith) c.args.items.now p n ∙ ap (λ (f : cores.Core). expansion.Makes f p) (sym c.constant.ensures.0), c.constant.ensures.1)

pub grow_last-requires-clause-few : goal.grow_last-requires-clause-few
grow_last-requires-clause-few g t c =
    let e : c.args.items.now ≡ c.in-Some.item.now ∷ c.in-Some.others.now = search rules in
    let n : length c.in-Some.others.now ≡ 0 = search rules in
    one_at_most c.in-Some.item.now c.args.items.now c.in-Some.others.now e n

pub grow_item-requires-clause-item : goal.grow_item-requires-clause-item
grow_item-requires-clause-item g t c =
    let e : c.args.items.now ≡ c.in-Some.item.now ∷ c.in-Some.others.now = search rules in
    item_lies c.args.heap.now c.in-Some.item.now c.args.items.now c.in-Some.others.now e (length c.args.heap.now) c.requires.items

pub grow_item-requires-clause-known : goal.grow_item-requires-clause-known
grow_item-requires-clause-known g t c =
    let e : c.args.items.now ≡ c.in-Some.item.now ∷ c.in-Some.others.now = search rules in
    item_known c.args.heap.now c.in-Some.item.now c.args.items.now c.in-Some.others.now e (length c.args.syms.now.symbols) c.requires.known

pub returns-in-Err-grow_item-clause-ends : goal.returns-in-Err-grow_item-clause-ends
returns-in-Err-grow_item-clause-ends g t c =
    let x = setting_at c.args.heap.now c.args.world.now c.args.syms.now c.args.limits.steps c.args.limits.depth in
    let e : c.args.items.now ≡ c.in-Some.item.now ∷ c.in-Some.others.now = search rules in
    let n : 0 < length c.in-Some.others.now = omega arith in
    λ known. item_fails x c.args.heap.now c.args.left (omega arith) c.in-Some.item.now c.args.items.now c.in-Some.others.now e _ _ _ n (c.in-Err-grow_item.ensures.ends known)

pub grow_guard-requires : goal.grow_guard-requires
grow_guard-requires g t c = λ κs inside.
    let now = c.grow_item.ensures in
    let e : c.args.items.now ≡ c.in-Some.item.now ∷ c.in-Some.others.now = search rules in
    let lies = others_lie c.args.heap.now c.in-Some.item.now c.args.items.now c.in-Some.others.now e (length c.args.heap.now) c.requires.items in
    let world : WorldLies c.grow_item.new.heap c.args.world.now = omega (arith, c.requires.world, now.grows.heap.longer) in
    let there : items_reach c.in-Some.others.now ≤ length c.grow_item.new.heap = omega (arith, lies, now.grows.heap.longer) in
    let known = known_later now.grows.heap c.in-Some.others.now lies (length c.args.syms.now.symbols) (length c.grow_item.new.syms.symbols) now.grows.table.longer
    (others_known c.args.heap.now c.in-Some.item.now c.args.items.now c.in-Some.others.now e (length c.args.syms.now.symbols) c.requires.known) in
    (omega (arith, c.decreases), (inside, (now.fits, (world, (there, (supplies_there now.grows c.args.world.now c.requires.world c.requires.supplies, (known, (c.requires.limits, now.counts))))))))

pub returns-in-Err-grow_guard-clause-ends : goal.returns-in-Err-grow_guard-clause-ends
returns-in-Err-grow_guard-clause-ends g t c =
    let x = setting_at c.args.heap.now c.args.world.now c.args.syms.now c.args.limits.steps c.args.limits.depth in
    let now = c.grow_item.ensures in
    let e : c.args.items.now ≡ c.in-Some.item.now ∷ c.in-Some.others.now = search rules in
    let n : 0 < length c.in-Some.others.now = omega arith in
    let lies = others_lie c.args.heap.now c.in-Some.item.now c.args.items.now c.in-Some.others.now e (length c.args.heap.now) c.requires.items in
    let same = setting_later now.grows.heap c.args.world.now c.args.syms.now c.grow_item.new.syms c.args.limits.steps c.args.limits.depth c.requires.world now.packages in
    let later = items_later now.grows.heap c.in-Some.others.now lies in
    λ known.
    let q = rw (same, later) at (c.in-Err-grow_guard.ensures.ends known) in
    rest_fails x c.args.heap.now c.args.left (omega arith) c.in-Some.item.now c.args.items.now c.in-Some.others.now e _ _ _ _ _ n c.in-Ok-grow_item.ensures.ends.0 q

pub returns-in_ok-core-in-Ok-grow_guard-clause-ends : goal.returns-in_ok-core-in-Ok-grow_guard-clause-ends
returns-in_ok-core-in-Ok-grow_guard-clause-ends g t c =
    let x = setting_at c.args.heap.now c.args.world.now c.args.syms.now c.args.limits.steps c.args.limits.depth in
    let now = c.grow_item.ensures in
    let e : c.args.items.now ≡ c.in-Some.item.now ∷ c.in-Some.others.now = search rules in
    let n : 0 < length c.in-Some.others.now = omega arith in
    let lies = others_lie c.args.heap.now c.in-Some.item.now c.args.items.now c.in-Some.others.now e (length c.args.heap.now) c.requires.items in
    let same = setting_later now.grows.heap c.args.world.now c.args.syms.now c.grow_item.new.syms c.args.limits.steps c.args.limits.depth c.requires.world now.packages in
    let later = items_later now.grows.heap c.in-Some.others.now lies in
    let q = rw (same, later) at c.in-Ok-grow_guard.ensures.ends.0 in
    let keep = seen_core-later c.grow_guard.ensures.grows.heap c.in-Ok-grow_item.test c.in-Ok-grow_item.ensures.ends.1 in
    let whole = c.in_ok-core-in-Ok-grow_guard.ensures in
    let p = seen_progress c.grow_guard.new.syms.symbols c.grow_guard.new.progress in (
      all_made x c.args.heap.now c.args.left (omega arith) c.in-Some.item.now c.args.items.now c.in-Some.others.now e _ _ _ _ _ n c.in-Ok-grow_item.ensures.ends.0 q
          ∙ (ap (λ (f : cores.Core). expansion.Makes (cores.If f (seen_core c.grow_guard.new.heap c.in-Ok-grow_guard.rest) false_core) p) (sym keep) ∙ ap (λ (f : cores.Core). expansion.Makes f p) (sym whole.0)),
      whole.1,
    )

pub returns-in_ok-core-in-Ok-grow_guard-clause-known : goal.returns-in_ok-core-in-Ok-grow_guard-clause-known
returns-in_ok-core-in-Ok-grow_guard-clause-known g t c =
    let keep = seen_core-later c.grow_guard.ensures.grows.heap c.in-Ok-grow_item.test c.in-Ok-grow_item.ensures.ends.1 in
    let whole = c.in_ok-core-in-Ok-grow_guard.ensures in
    let two : 1 < length c.grow_guard.new.syms.symbols = omega (arith, c.requires.supplies.enough, c.grow_item.ensures.grows.table.longer, c.grow_guard.ensures.grows.table.longer) in
    rw (whole.0, keep) (
      tt,
      form_later (length c.grow_item.new.syms.symbols) (length c.grow_guard.new.syms.symbols) c.grow_guard.ensures.grows.table.longer (seen_core c.grow_item.new.heap c.in-Ok-grow_item.test) c.in-Ok-grow_item.ensures.known,
      c.in-Ok-grow_guard.ensures.known,
      two,
    )
