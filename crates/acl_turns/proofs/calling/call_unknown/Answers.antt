use Rattle.std.proofs.Common.{rules, ◌+◌}
use Rattle.acl_turns.proofs.UnknownLemmas.{turns_by_unknown, sound_unknown}
use Rattle.acl_turns.proofs.calling.call_unknown.Goals as goal

pub returns-clause-turns : goal.returns-clause-turns
returns-clause-turns g c =
    turns_by_unknown g.K.Keeper.keeping (g.K.Keeper.Keeps c.args.keeper.now) _ c.args.machine.now _ c.args.frame c.args.at c.args.function c.args.count c.requires.given c.requires.first c.requires.step c.requires.left c.requires.past (search rules)

pub returns-clause-sound : goal.returns-clause-sound
returns-clause-sound g c =
    sound_unknown _ _ c.args.machine.now _ (c.args.frame.base + c.args.at) c.args.count c.requires.sound (search rules)
