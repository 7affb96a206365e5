use Rattle.std.proofs.Common.{rules, ◌≡◌, ◌+◌, ap}
use Rattle.acl_machine.specs.Steps.{closed}
use Rattle.acl_machine.proofs.GoLemmas.{goes_popped}
use Rattle.acl_machine.proofs.StaysLemmas.{sound_closed}
use Rattle.acl_machine.proofs.machine.Machine.resume_last.Goals as goal

pub returns-in-Some-clause-turns : goal.returns-in-Some-clause-turns
returns-in-Some-clause-turns g c =
    let room : c.in-Some.room ≡ c.args.self.now.room + 1 = search rules in
    goes_popped g.K.Keeper.keeping _ _ c.pop.result c.pop.new.self c.requires.given c.requires.last c.pop.ensures _ (ap (λ r. record (closed c.pop.new.self c.args.self.now) { room = r }) room)

pub returns-in-Some-clause-sound : goal.returns-in-Some-clause-sound
returns-in-Some-clause-sound g c =
    let room : c.in-Some.room ≡ c.args.self.now.room + 1 = search rules in
    sound_closed _ _ c.args.self.now c.pop.new.self c.requires.sound _ (ap (λ r. record (closed c.pop.new.self c.args.self.now) { room = r }) room)
