use Rattle.acl_turns.proofs.QuietLemmas.{turns_by_primitive}
use Rattle.acl_turns.proofs.calling.call_row.Goals as goal

pub returns-clause-turns : goal.returns-clause-turns
returns-clause-turns g c =
    turns_by_primitive g.K.Keeper.keeping (g.K.Keeper.Keeps c.args.keeper.now) _ _ c.args.machine.now _ c.args.frame c.args.at c.args.function c.args.count c.args.name c.args.row c.args.arity c.requires.given c.requires.first c.requires.step c.requires.is c.in_ok-call_primitive.ensures.turns

pub returns-clause-keeper_sound : goal.returns-clause-keeper_sound
returns-clause-keeper_sound g c =
    g.met.K.Keeper.stays_sound c.args.keeper.now _ _ c.args.world.now _ _ c.call_primitive.ensures.grows.heap c.call_primitive.ensures.grows.table.longer c.requires.keeper
