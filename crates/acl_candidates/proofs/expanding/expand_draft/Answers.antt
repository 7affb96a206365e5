-- A function's guard, and then its body.
use Rattle.std.proofs.Common.{◌≡◌, ◌≤◌, length, arith}
use Rattle.acl_heap.specs.Objects.{object_of}
use Rattle.acl_worlds.specs.Contents.{WorldLies}
use Rattle.acl_drafts.specs.Drafts.{seen_draft}
use Rattle.acl_expand.specs.Looks.{setting_at}
use Rattle.acl_expand.specs.Progresses.{seen_progress}
use Rattle.acl_expand.proofs.KnownLemmas.{supplies_there}
use Rattle.acl_expand.proofs.SettleLemmas.{setting_later}
use Rattle.acl_candidates.proofs.DraftLemmas.{guard_fails, body_fails, both_seen, both_reach, both_known, known_there}
use Rattle.acl_candidates.proofs.expanding.expand_draft.Goals as goal

pub returns-in-Err-clause-ends : goal.returns-in-Err-clause-ends
returns-in-Err-clause-ends g c =
    let x = setting_at c.args.heap.now c.args.world.now c.args.syms.now c.args.limits.steps c.args.limits.depth in
    λ told. guard_fails x (seen_draft c.args.heap.now c.args.draft.now) _ _ _ (rw c.as_slice-guards.ensures at (c.in-Err.ensures.ends told))

pub expand-requires-clause-supplies : goal.expand-requires-clause-supplies
expand-requires-clause-supplies g c = supplies_there c.expand_guard.ensures.grows c.args.world.now c.requires.world c.requires.supplies

pub expand-requires-clause-known : goal.expand-requires-clause-known
expand-requires-clause-known g c =
    let now = c.expand_guard.ensures.grows in
    (known_there now.heap c.args.draft.now c.requires.draft (length c.args.syms.now.symbols) (length c.expand_guard.new.syms.symbols) now.table.longer c.requires.known).1

pub returns-in-Err-expand-clause-ends : goal.returns-in-Err-expand-clause-ends
returns-in-Err-expand-clause-ends g c =
    let x = setting_at c.args.heap.now c.args.world.now c.args.syms.now c.args.limits.steps c.args.limits.depth in
    let now = c.expand_guard.ensures in
    let same = setting_later now.grows.heap c.args.world.now c.args.syms.now c.expand_guard.new.syms c.args.limits.steps c.args.limits.depth c.requires.world now.packages in
    let body : object_of c.expand_guard.new.heap c.args.draft.now.body ≡ object_of c.args.heap.now c.args.draft.now.body = now.grows.heap.same c.args.draft.now.body (omega (arith, c.requires.draft)) in
    let guard = rw c.as_slice-guards.ensures at c.in-Ok.ensures.ends.0 in
    λ told. body_fails x (seen_draft c.args.heap.now c.args.draft.now) _ _ _ _ _ guard (rw (same, body) at (c.in-Err-expand.ensures.ends told))

pub returns-in_ok-member-in-Ok-expand-clause-ends : goal.returns-in_ok-member-in-Ok-expand-clause-ends
returns-in_ok-member-in-Ok-expand-clause-ends g c =
    let x = setting_at c.args.heap.now c.args.world.now c.args.syms.now c.args.limits.steps c.args.limits.depth in
    let now = c.expand_guard.ensures in
    let same = setting_later now.grows.heap c.args.world.now c.args.syms.now c.expand_guard.new.syms c.args.limits.steps c.args.limits.depth c.requires.world now.packages in
    let body : object_of c.expand_guard.new.heap c.args.draft.now.body ≡ object_of c.args.heap.now c.args.draft.now.body = now.grows.heap.same c.args.draft.now.body (omega (arith, c.requires.draft)) in
    let guard = rw c.as_slice-guards.ensures at c.in-Ok.ensures.ends.0 in
    let made = c.in-Ok-expand.ensures.ends in (
      both_seen x c.expand.ensures.grows.heap c.args.heap.now c.args.draft.now c.in-Ok.guard c.in-Ok-expand.body c.in_ok-member-in-Ok-expand.member _ _ _
          c.in_ok-member-in-Ok-expand.ensures c.in-Ok.ensures.ends.1 guard (rw (same, body) at made.0),
      both_reach c.args.draft.now c.in-Ok.guard c.in-Ok-expand.body c.in_ok-member-in-Ok-expand.member (length c.expand_guard.new.heap) (length c.expand.new.heap)
          c.in_ok-member-in-Ok-expand.ensures c.in-Ok.ensures.ends.1 c.expand.ensures.grows.heap.longer made.1,
    )

pub returns-in_ok-member-in-Ok-expand-clause-known : goal.returns-in_ok-member-in-Ok-expand-clause-known
returns-in_ok-member-in-Ok-expand-clause-known g c =
    let grown = c.expand.ensures.grows in
    both_known grown.heap (length c.expand_guard.new.syms.symbols) (length c.expand.new.syms.symbols) grown.table.longer c.args.draft.now c.in-Ok.guard c.in-Ok-expand.body c.in_ok-member-in-Ok-expand.member
    c.in_ok-member-in-Ok-expand.ensures c.in-Ok.ensures.ends.1 c.in-Ok.ensures.known c.in-Ok-expand.ensures.known
