-- What is found in the world with the functions, said of the world without them.
use Rattle.std.specs.Prelude.{◌≡◌, List, map, None, IfOk, IfErr, OnOk}
use Rattle.std.proofs.Common.{sym, subst}
use Rattle.model_terms.specs.Faults.{clique_fault}
use Rattle.model_terms.specs.Rounds as rounds
use Rattle.model_terms.specs.Worlds as worlds
use Rattle.model_events.specs.Functions as functions
use Rattle.acl_worlds.specs.Contents.{seen_world}
use Rattle.acl_outputs.specs.Known.{seen_known}
use Rattle.acl_check.specs.Says.{Says}
use Rattle.acl_translate.specs.Functions.{all_function_trees, AreFunctions}
use Rattle.acl_signatures.specs.Candidates.{seen_candidates}
use Rattle.acl_cliques.proofs.StandLemmas.{stand_signed}
use Rattle.acl_cliques.proofs.WorldLemmas.{members_are, seen_with}
use Rattle.acl_cliques.proofs.translating.translated.Goals as goal

pub translate_clique-found-requires-clause-stand : goal.translate_clique-found-requires-clause-stand
translate_clique-found-requires-clause-stand c =
    let cs = seen_candidates c.args.heap.now c.args.members.now c.args.executable.now in
    stand_signed c.args.heap.now (seen_known c.args.known.now) (seen_world c.args.heap.now c.args.world.now) (seen_world c.args.heap.now c.add_all.new.world) cs c.args.members.now
    (seen_with c.args.heap.now c.args.world.now c.add_all.new.world c.in-Ok.entries.items (map (functions.signed (seen_known c.args.known.now)) cs) c.in-Ok-add_all.ensures.ok c.in-Ok.ensures)
    c.requires.stand

pub returns-in-Ok-add_all-clause-accepted : goal.returns-in-Ok-add_all-clause-accepted
returns-in-Ok-add_all-clause-accepted c =
    let cs = seen_candidates c.args.heap.now c.args.members.now c.args.executable.now in
    let s = seen_with c.args.heap.now c.args.world.now c.add_all.new.world c.in-Ok.entries.items (map (functions.signed (seen_known c.args.known.now)) cs) c.in-Ok-add_all.ensures.ok c.in-Ok.ensures in
    subst (λ (w : worlds.World). OnOk c.translate_clique-found.result (clique_fault w 0 (functions.members cs) ≡ None)) s
    (subst (λ (ms : List rounds.Member). OnOk c.translate_clique-found.result (clique_fault (seen_world c.args.heap.now c.add_all.new.world) 0 ms ≡ None))
    (sym (members_are c.args.heap.now c.args.members.now c.args.executable.now c.requires.same)) c.translate_clique-found.ensures.accepted)

pub returns-in-Ok-add_all-clause-built : goal.returns-in-Ok-add_all-clause-built
returns-in-Ok-add_all-clause-built c =
    let cs = seen_candidates c.args.heap.now c.args.members.now c.args.executable.now in
    let s = seen_with c.args.heap.now c.args.world.now c.add_all.new.world c.in-Ok.entries.items (map (functions.signed (seen_known c.args.known.now)) cs) c.in-Ok-add_all.ensures.ok c.in-Ok.ensures in
    subst (λ (w : worlds.World). IfOk c.translate_clique-found.result (λ r. AreFunctions c.args.heap.now c.translate_clique-found.new.terms r (all_function_trees w (functions.members cs)))) s
    (subst (λ (ms : List rounds.Member). IfOk c.translate_clique-found.result (λ r. AreFunctions c.args.heap.now c.translate_clique-found.new.terms r (all_function_trees (seen_world c.args.heap.now c.add_all.new.world) ms)))
    (sym (members_are c.args.heap.now c.args.members.now c.args.executable.now c.requires.same)) c.translate_clique-found.ensures.built)

pub returns-in-Ok-add_all-clause-err : goal.returns-in-Ok-add_all-clause-err
returns-in-Ok-add_all-clause-err c =
    let cs = seen_candidates c.args.heap.now c.args.members.now c.args.executable.now in
    let s = seen_with c.args.heap.now c.args.world.now c.add_all.new.world c.in-Ok.entries.items (map (functions.signed (seen_known c.args.known.now)) cs) c.in-Ok-add_all.ensures.ok c.in-Ok.ensures in
    subst (λ (w : worlds.World). IfErr c.translate_clique-found.result (λ e. Says (clique_fault w 0 (functions.members cs)) e)) s
    (subst (λ (ms : List rounds.Member). IfErr c.translate_clique-found.result (λ e. Says (clique_fault (seen_world c.args.heap.now c.add_all.new.world) 0 ms) e))
    (sym (members_are c.args.heap.now c.args.members.now c.args.executable.now c.requires.same)) c.translate_clique-found.ensures.err)
