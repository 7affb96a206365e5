use Rattle.std.proofs.Common.{rules, ◌≡◌, ◌∙◌, ◌+◌, ap, map, length, None, Some, subst}
use Rattle.acl_terms.specs.Forms.{numbers}
use Rattle.acl_keep.specs.Seen.{all_seen}
use Rattle.acl_machine.specs.Actuals.{outer_shown}
use Rattle.acl_call_turns.specs.Calls.{formals_at, actuals_for, HandsOver, HandsBack}
use Rattle.acl_call_turns.proofs.LeaveLemmas.{commits}
use Rattle.acl_call_turns.proofs.SoundLemmas.{left_sound}
use Rattle.acl_call_turns.proofs.leave.resume_export.Goals as goal

pub returns-clause-turns : goal.returns-clause-turns
returns-clause-turns g c =
    commits g.K.Keeper.keeping (g.K.Keeper.Keeps c.args.keeper.now) (g.K.Keeper.Keeps c.commit.new.self) _ c.args.machine.now c.args.frame c.args.export c.requires.given c.requires.first c.requires.step c.commit.ensures.keeps _ (search rules)

pub returns-clause-sound : goal.returns-clause-sound
returns-clause-sound g c = left_sound _ _ c.args.machine.now c.args.export c.requires.sound _ (search rules)
