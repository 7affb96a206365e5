use Rattle.std.proofs.Common.{Some, length}
use Rattle.acl_list_keeper.proofs.SoundLemmas.{sound_kept, sound_unready, sound_ready, same_least}
use Rattle.acl_list_keeper.specs.Stays.{sound_later}
use Rattle.acl_list_keeper.proofs.keeper.ListKeeperKeeper.prepare.Goals as goal

pub prepared-requires-clause-sound : goal.prepared-requires-clause-sound
prepared-requires-clause-sound c = sound_unready c.args.self.now.scoped c.args.self.now.ready c.args.heap.now c.args.world.now (length c.args.syms.now.symbols) c.requires.sound

pub returns-in_err-ready-clause-sound : goal.returns-in_err-ready-clause-sound
returns-in_err-ready-clause-sound c =
    sound_later c.prepared.new.scoped _ c.args.heap.now c.prepared.new.heap c.args.world.now (length c.args.syms.now.symbols) (length c.args.syms.now.symbols) c.in_err-ready.ensures.heap (same_least (length c.args.syms.now.symbols))
    (sound_kept c.args.self.now.scoped c.prepared.new.scoped c.args.self.now.ready c.args.heap.now c.args.world.now (length c.args.syms.now.symbols) c.in_err-ready.ensures.keeps c.requires.sound)

pub returns-clause-sound : goal.returns-clause-sound
returns-clause-sound c =
    sound_ready c.prepared.new.scoped (Some c.in_ok-ready.ready) c.prepared.new.heap c.args.world.now (length c.args.syms.now.symbols)
    (sound_later c.prepared.new.scoped _ c.args.heap.now c.prepared.new.heap c.args.world.now (length c.args.syms.now.symbols) (length c.args.syms.now.symbols) c.in_ok-ready.ensures.heap (same_least (length c.args.syms.now.symbols))
    (sound_kept c.args.self.now.scoped c.prepared.new.scoped c.args.self.now.ready c.args.heap.now c.args.world.now (length c.args.syms.now.symbols) c.in_ok-ready.ensures.keeps c.requires.sound))
    c.in_ok-ready.ensures.fits
