use Rattle.acl_worlds.specs.Contents.{seen_world}
use Rattle.acl_form_times.proofs.RoundLemmas.{may_be_checked, may_be_made}
use Rattle.acl_form_times.proofs.rounds.translated.Goals as goal

pub translate-requires-clause-fits : goal.translate-requires-clause-fits
translate-requires-clause-fits c = may_be_made c.args.heap.now (seen_world c.args.heap.now c.args.world.now) c.args.core.now c.requires.narrow c.requires.simple

pub translate-requires-clause-wide : goal.translate-requires-clause-wide
translate-requires-clause-wide c = may_be_checked c.args.heap.now (seen_world c.args.heap.now c.args.world.now) c.args.core.now c.requires.narrow c.requires.simple
