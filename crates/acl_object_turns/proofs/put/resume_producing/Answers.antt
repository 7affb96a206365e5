use Rattle.std.proofs.Common.{rules}
use Rattle.acl_object_turns.proofs.PutLemmas.{goes_producing}
use Rattle.acl_object_turns.proofs.put.resume_producing.Goals as goal

pub returns-clause-turns : goal.returns-clause-turns
returns-clause-turns g c = goes_producing g.K.Keeper.keeping _ _ _ _ c.write_given.new.machine _ c.args.frame c.args.at c.args.loans c.args.consumer c.requires.given c.requires.first c.requires.step (search rules) c.in_ok-put_next.ensures.puts
