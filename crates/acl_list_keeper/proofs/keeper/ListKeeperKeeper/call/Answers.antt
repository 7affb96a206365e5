use Rattle.std.proofs.Common.{length}
use Rattle.acl_list_keeper.proofs.ReadyLemmas.{call_answers, call_whole, call_sound, never_ready}
use Rattle.acl_list_keeper.proofs.keeper.ListKeeperKeeper.call.Goals as goal

pub returns-in-Some-clause-answers : goal.returns-in-Some-clause-answers
returns-in-Some-clause-answers c k ls i = call_answers c.args.self.now.scoped c.apply.new.scoped c.args.self.now.ready c.in-Some.ready c.args._heap.now _ k ls c.requires.prepared c.in-Some.is i c.apply.ensures

pub returns-in-Some-clause-whole : goal.returns-in-Some-clause-whole
returns-in-Some-clause-whole c = call_whole c.args.self.now.scoped c.args.self.now.ready c.in-Some.ready c.args._syms.now c.args._heap.now c.args._world.now c.requires.sound c.in-Some.is

pub returns-in-Some-clause-sound : goal.returns-in-Some-clause-sound
returns-in-Some-clause-sound c =
    call_sound c.args.self.now.scoped c.apply.new.scoped c.args.self.now.ready c.in-Some.ready c.args._heap.now c.args._world.now (length c.args._syms.now.symbols) _ c.requires.sound c.requires.prepared c.in-Some.is c.apply.ensures

pub returns-in-None-clause-answers : goal.returns-in-None-clause-answers
returns-in-None-clause-answers c k ls i = absurd (never_ready c.args.self.now.scoped c.args.self.now.ready c.args._heap.now _ c.requires.prepared c.in-None.is)

pub returns-in-None-clause-whole : goal.returns-in-None-clause-whole
returns-in-None-clause-whole c = tt

pub returns-in-None-clause-sound : goal.returns-in-None-clause-sound
returns-in-None-clause-sound c = c.requires.sound
