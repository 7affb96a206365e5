use Rattle.std.specs.Prelude.{◌≡◌, ◌≤◌, [], length}
use Rattle.std.specs.List.{All}
use Rattle.model_events.specs.Functions as functions
use Rattle.model_drafts.specs.Laws.{KnowsDrafts}
use Rattle.acl_forms.specs.Forms.{Grown}
use Rattle.acl_drafts.specs.Drafts.{seen_drafts, drafts_reach}
use Rattle.acl_translate.specs.Functions.{MemberIsKnown}
use Rattle.acl_admit.specs.Ready.{members_reach}
use Rattle.acl_expand.specs.Looks.{setting_at}
use Rattle.acl_expand.specs.Progresses.{seen_progress, IsWithin}
use Rattle.acl_candidates.specs.Ends.{seen_all}
use Rattle.acl_candidates.proofs.expanding.expand_drafts.Given as goal

abbrev pub invariant-drafts : goal.invariant-drafts
invariant-drafts g l = record {
  grows : Grown l.initial.syms l.syms l.initial.heap l.heap;
  packages : l.syms.packages ≡ l.initial.syms.packages;
  live : g.E.Engine.live l.engine ≡ g.E.Engine.live l.initial.engine;
  fits : g.E.Engine.fits l.engine l.heap l.world l.syms;
  counts : IsWithin l.progress l.limits.steps;
  lies : drafts_reach l.rest ≤ length l.initial.heap;
  written : KnowsDrafts (length l.initial.syms.symbols) (seen_drafts l.initial.heap l.rest);
  reach : members_reach l.done.members.items ≤ length l.heap;
  same : length l.done.executable.items ≡ length l.done.members.items;
  known : All (MemberIsKnown (length l.syms.symbols) l.heap) l.done.members.items;
  all : functions.all_expanded (setting_at l.initial.heap l.world l.initial.syms l.limits.steps l.limits.depth) (seen_drafts l.initial.heap l.drafts) [] (seen_progress l.initial.syms.symbols l.initial.progress)
      ≡ functions.all_expanded (setting_at l.initial.heap l.world l.initial.syms l.limits.steps l.limits.depth) (seen_drafts l.initial.heap l.rest) (seen_all l.heap l.done) (seen_progress l.syms.symbols l.progress);
}

abbrev pub decreases-drafts : goal.decreases-drafts
decreases-drafts g l = length l.rest
