-- Definitions that enter.
use Rattle.std.specs.Prelude.{◌≡◌, List, length}
use Rattle.std.proofs.Common.{rules, ap, ◌∙◌}
use Rattle.acl_worlds.specs.Contents.{seen_world}
use Rattle.acl_translate.specs.declared.function_terms.FunctionTerms.{FunctionTerms}
use Rattle.acl_signatures.specs.Candidates.{seen_candidates}
use Rattle.acl_cliques.proofs.EnterLemmas.{prepared_count, entered}
use Rattle.acl_cliques.proofs.entering.define.Goals as goal

pub definitions_of-requires-clause-terms : goal.definitions_of-requires-clause-terms
definitions_of-requires-clause-terms c =
    let e : c.as_slice-2.result.now ≡ c.args.prepared.now.terms = search rules in
    ap (λ (fs : List FunctionTerms). length fs) e
    ∙ prepared_count c.args.heap.now (seen_world c.args.heap.now c.args.world.now) c.args._terms.now c.args.members.items c.args.executable.now c.args.prepared.now c.requires.prepared c.requires.same

pub returns-clause-ok : goal.returns-clause-ok
returns-clause-ok c =
    entered c.args.heap.now c.args.world.now c.add_all.new.world c.args._terms.now (seen_candidates c.args.heap.now c.args.members.items c.args.executable.now) c.args.members.items
    c.as_slice.result.now c.as_slice-2.result.now c.in_ok-definitions.definitions.items c.args.prepared.now c.requires.prepared (search rules) (search rules) c.in_ok-definitions.ensures c.requires.fit c.in_ok-add_all.ensures.ok
