use Rattle.std.specs.Prelude.{not}
use Rattle.std.proofs.Common.{sym, ap, ◌∙◌}
use Rattle.model_terms.specs.Cores as cores
use Rattle.model_terms.specs.Nested.{stobj_let_holds}
use Rattle.model_terms.specs.Rules.{s13_fails}
use Rattle.acl_terms.specs.Forms.{numbers, bound_names, seen_core, seen_bound}
use Rattle.acl_terms.specs.Signatures.{seen_outs, seen_scope}
use Rattle.acl_worlds.specs.Contents.{seen_world}
use Rattle.acl_nest.proofs.LetLemmas.{fails_stobj_let}
use Rattle.acl_nest.proofs.stobj_let.check_let.Goals as goal

pub returns-in_ok-holds-in-StobjLet : goal.returns-in_ok-holds-in-StobjLet
returns-in_ok-holds-in-StobjLet c =
    let w = seen_world c.args.heap.now c.args.world.now in
    let scope = seen_scope c.args.scope.now in
    let expected = seen_outs c.args.expected.now in
    let h = c.args.heap.now in
    c.in_ok-holds-in-StobjLet.ensures
    ∙ (ap (λ bs. stobj_let_holds w scope expected (bound_names bs) (cores.cores (seen_bound h bs)) (numbers c.as_slice-in-StobjLet.result.now)) c.as_slice.ensures
    ∙ (ap (λ vars. stobj_let_holds w scope expected (bound_names c.in-StobjLet.bindings) (cores.cores (seen_bound h c.in-StobjLet.bindings)) (numbers vars)) c.as_slice-in-StobjLet.ensures
    ∙ (sym (fails_stobj_let w scope expected h c.in-StobjLet.bindings c.in-StobjLet.vars c.in-StobjLet.producer c.in-StobjLet.consumer)
    ∙ ap (λ f. not (s13_fails w scope expected (seen_core h f))) (sym c.in-StobjLet.is))))
