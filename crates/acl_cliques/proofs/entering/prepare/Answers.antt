-- Signatures and terms by them.
use Rattle.std.proofs.Common.{rules}
use Rattle.acl_signatures.specs.Candidates.{seen_candidates}
use Rattle.acl_cliques.proofs.EnterLemmas.{prepared_by}
use Rattle.acl_cliques.proofs.entering.prepare.Goals as goal

pub returns-in-Ok-translated-clause-ok : goal.returns-in-Ok-translated-clause-ok
returns-in-Ok-translated-clause-ok c =
    prepared_by c.args.heap.now c.args.world.now c.signatures_in.new.world c.translated.new.terms (seen_candidates c.args.heap.now c.args.members.now c.args.executable.now)
    c.as_slice.result.now (record { known = c.in-Ok.known; terms = c.in-Ok-translated.built }) c.in-Ok.ensures.world (search rules) (search rules) c.in-Ok-translated.ensures.accepted c.in-Ok-translated.ensures.built
