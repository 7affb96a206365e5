use Rattle.std.proofs.Common.{rules}
use Rattle.acl_object_turns.proofs.LocalLemmas.{closes_local}
use Rattle.acl_object_turns.proofs.WholeLemmas.{sound_closed}
use Rattle.acl_object_turns.proofs.local.close_local.Goals as goal

pub returns-clause-turns : goal.returns-clause-turns
returns-clause-turns g c = closes_local g.K.Keeper.keeping _ _ _ _ _ _ _ _ _ c.requires.stopped c.requires.first c.requires.step (search rules) c.unmake.ensures.keeps

pub returns-clause-sound : goal.returns-clause-sound
returns-clause-sound g c = sound_closed _ _ c.args.machine.now _ c.requires.sound (search rules)
