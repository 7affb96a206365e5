-- One function after another.
use Rattle.std.proofs.Common.{rules, ◌≡◌, ◌≤◌, ◌∷◌, ◌∙◌, length, arith}
use Rattle.acl_forms.specs.Growth.{Grown-then}
use Rattle.acl_worlds.specs.Contents.{WorldLies}
use Rattle.acl_expand.specs.Looks.{setting_at}
use Rattle.acl_expand.specs.Progresses.{seen_progress}
use Rattle.acl_expand.proofs.KnownLemmas.{supplies_there}
use Rattle.acl_expand.proofs.SettleLemmas.{setting_later}
use Rattle.acl_candidates.specs.Ends.{seen_all}
use Rattle.acl_candidates.proofs.DraftLemmas.{draft_lies, others_lie, draft_known, others_known, known_there}
use Rattle.acl_candidates.proofs.CandidateLemmas.{one_fails, one_goes, none_left, candidates_pushed, as_many, reach_pushed, known_pushed}
use Rattle.acl_candidates.proofs.expanding.expand_drafts.Goals as goal

pub expand_draft-requires-clause-world : goal.expand_draft-requires-clause-world
expand_draft-requires-clause-world g c = omega (arith, c.requires.world, c.drafts.invariant.grows.heap.longer)

pub expand_draft-requires-clause-draft : goal.expand_draft-requires-clause-draft
expand_draft-requires-clause-draft g c =
    let e : c.drafts.rest.now ≡ c.in-Some.draft.now ∷ c.in-Some.others.now = search rules in
    let lies = draft_lies c.args.heap.now c.in-Some.draft.now c.drafts.rest.now c.in-Some.others.now e (length c.args.heap.now) c.drafts.invariant.lies in
    omega (arith, lies, c.drafts.invariant.grows.heap.longer)

pub expand_draft-requires-clause-supplies : goal.expand_draft-requires-clause-supplies
expand_draft-requires-clause-supplies g c = supplies_there c.drafts.invariant.grows c.args.world.now c.requires.world c.requires.supplies

pub expand_draft-requires-clause-known : goal.expand_draft-requires-clause-known
expand_draft-requires-clause-known g c =
    let before = c.drafts.invariant in
    let e : c.drafts.rest.now ≡ c.in-Some.draft.now ∷ c.in-Some.others.now = search rules in
    let lies = draft_lies c.args.heap.now c.in-Some.draft.now c.drafts.rest.now c.in-Some.others.now e (length c.args.heap.now) before.lies in
    known_there before.grows.heap c.in-Some.draft.now lies (length c.args.syms.now.symbols) (length c.drafts.syms.symbols) before.grows.table.longer
    (draft_known c.args.heap.now c.in-Some.draft.now c.drafts.rest.now c.in-Some.others.now e (length c.args.syms.now.symbols) before.written)

pub returns-in-Err-clause-ends : goal.returns-in-Err-clause-ends
returns-in-Err-clause-ends g c =
    let x = setting_at c.args.heap.now c.args.world.now c.args.syms.now c.args.limits.steps c.args.limits.depth in
    let before = c.drafts.invariant in
    let e : c.drafts.rest.now ≡ c.in-Some.draft.now ∷ c.in-Some.others.now = search rules in
    let same = setting_later before.grows.heap c.args.world.now c.args.syms.now c.drafts.syms c.args.limits.steps c.args.limits.depth c.requires.world before.packages in
    λ told. before.all ∙ one_fails x before.grows.heap c.in-Some.draft.now c.drafts.rest.now c.in-Some.others.now e before.lies (seen_all c.drafts.heap c.drafts.done) _ _ _ (rw same at (c.in-Err.ensures.ends told))

pub drafts-preserved : goal.drafts-preserved
drafts-preserved g c =
    let x = setting_at c.args.heap.now c.args.world.now c.args.syms.now c.args.limits.steps c.args.limits.depth in
    let before = c.drafts.invariant in
    let now = c.expand_draft.ensures in
    let ends = c.in-Ok.ensures.ends in
    let added = c.in_ok-add-in-Ok.ensures in
    let e : c.drafts.rest.now ≡ c.in-Some.draft.now ∷ c.in-Some.others.now = search rules in
    let same = setting_later before.grows.heap c.args.world.now c.args.syms.now c.drafts.syms c.args.limits.steps c.args.limits.depth c.requires.world before.packages in
    let pushed = candidates_pushed c.drafts.done.members.items c.add.new.candidates.members.items c.drafts.done.executable.items c.add.new.candidates.executable.items c.in-Ok.member c.in-Some.draft.now.executable
    added.members added.executable now.grows.heap before.same before.reach in
    record {
      grows = Grown-then before.grows now.grows;
      packages = now.packages ∙ before.packages;
      live = now.live ∙ before.live;
      fits = now.fits;
      counts = now.counts;
      lies = others_lie c.args.heap.now c.in-Some.draft.now c.drafts.rest.now c.in-Some.others.now e (length c.args.heap.now) before.lies;
      written = others_known c.args.heap.now c.in-Some.draft.now c.drafts.rest.now c.in-Some.others.now e (length c.args.syms.now.symbols) before.written;
      reach = reach_pushed c.drafts.done.members.items c.add.new.candidates.members.items c.in-Ok.member (length c.drafts.heap) (length c.expand_draft.new.heap) added.members before.reach now.grows.heap.longer ends.1;
      same = as_many c.drafts.done.members.items c.add.new.candidates.members.items c.drafts.done.executable.items c.add.new.candidates.executable.items c.in-Ok.member c.in-Some.draft.now.executable
          added.members added.executable before.same;
      known = known_pushed now.grows.heap (length c.drafts.syms.symbols) (length c.expand_draft.new.syms.symbols) now.grows.table.longer c.drafts.done.members.items c.add.new.candidates.members.items c.in-Ok.member
          added.members before.reach before.known c.in-Ok.ensures.known;
      all = before.all ∙ one_goes x before.grows.heap c.in-Some.draft.now c.drafts.rest.now c.in-Some.others.now e before.lies (seen_all c.drafts.heap c.drafts.done) _ _ _ (seen_all c.expand_draft.new.heap c.add.new.candidates)
          (rw same at ends.0) pushed;
    }

pub returns-clause-ends : goal.returns-clause-ends
returns-clause-ends g c =
    let x = setting_at c.args.heap.now c.args.world.now c.args.syms.now c.args.limits.steps c.args.limits.depth in
    let n : length c.drafts.rest.now ≡ 0 = c.in_default.ensures.cases in
    (c.drafts.invariant.all ∙ none_left x c.args.heap.now c.drafts.rest.now (seen_all c.drafts.heap c.drafts.done) _ n, c.drafts.invariant.reach)
