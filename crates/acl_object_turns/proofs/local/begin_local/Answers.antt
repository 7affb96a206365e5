use Rattle.std.proofs.Common.{rules, None}
use Rattle.acl_machine.specs.declared.frame.Halt.TheVariants as halt
use Rattle.acl_machine.specs.declared.frame.Step.TheVariants as step
use Rattle.acl_object_turns.proofs.LocalLemmas.{stops_unopened, stops_unmade, makes_local}
use Rattle.acl_object_turns.proofs.WholeLemmas.{sound_stops, sound_unmade, sound_opens}
use Rattle.acl_object_turns.proofs.local.begin_local.Goals as goal

pub returns-then-machine-eq0-clause-turns : goal.returns-then-machine-eq0-clause-turns
returns-then-machine-eq0-clause-turns g c = stops_unopened g.K.Keeper.keeping _ _ _ _ _ _ _ _ _ _ c.requires.begins c.is_table.ensures c.requires.is (search rules) (search rules)

pub returns-then-machine-eq0-clause-sound : goal.returns-then-machine-eq0-clause-sound
returns-then-machine-eq0-clause-sound g c = sound_stops _ _ c.args.machine.now _ halt.Depth c.requires.sound (search rules)

pub returns-then-machine-limit-clause-turns : goal.returns-then-machine-limit-clause-turns
returns-then-machine-limit-clause-turns g c = stops_unmade g.K.Keeper.keeping _ _ _ _ _ _ _ _ _ _ c.requires.begins c.is_table.ensures c.requires.is (search rules) (search rules) (search rules)

pub returns-then-machine-limit-clause-sound : goal.returns-then-machine-limit-clause-sound
returns-then-machine-limit-clause-sound g c = sound_unmade _ _ c.args.machine.now _ halt.Steps (step.Last None) c.args.base c.requires.sound (search rules)

pub returns-clause-turns : goal.returns-clause-turns
returns-clause-turns g c = makes_local g.K.Keeper.keeping _ _ _ _ _ _ _ _ _ _ _ c.requires.begins c.is_table.ensures c.requires.is (search rules) (search rules) (search rules) c.in_ok-make.ensures.ok

pub returns-clause-sound : goal.returns-clause-sound
returns-clause-sound g c = sound_opens _ _ c.args.machine.now _ c.args.base c.args.at c.args.stobj c.args.producer c.args.body c.requires.sound (search rules)
