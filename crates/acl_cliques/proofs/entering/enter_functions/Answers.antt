-- The refusal of functions.
use Rattle.std.specs.Prelude.{List}
use Rattle.std.proofs.Common.{subst}
use Rattle.acl_worlds.specs.Contents.{seen_world}
use Rattle.acl_check.specs.declared.member.Member.{Member}
use Rattle.acl_signatures.specs.Candidates.{seen_candidates}
use Rattle.acl_cliques.specs.Worlds.{Refused}
use Rattle.acl_cliques.proofs.entering.enter_functions.Goals as goal

pub returns-in-Err-clause-err : goal.returns-in-Err-clause-err
returns-in-Err-clause-err c =
    subst (λ (ms : List Member). Refused (seen_world c.args.heap.now c.args.world.now) (seen_candidates c.args.heap.now ms c.args.executable.now) c.in-Err.fault) c.as_slice.ensures.value c.in-Err.ensures.err
