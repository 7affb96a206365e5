use Rattle.std.proofs.Common.{rules}
use Rattle.acl_object_turns.proofs.PutLemmas.{goes_putting}
use Rattle.acl_object_turns.proofs.put.resume_putting.Goals as goal

pub returns-clause-turns : goal.returns-clause-turns
returns-clause-turns g c = goes_putting g.K.Keeper.keeping _ _ _ _ _ c.args.frame c.args.at c.args.put c.args.loans c.args.consumer c.requires.given c.requires.first c.requires.step c.in_ok-put_next.ensures.puts
