use Rattle.std.specs.Prelude.{option_map}
use Rattle.std.proofs.Common.{sym, ap, ◌∙◌}
use Rattle.model_terms.specs.Cores as cores
use Rattle.model_terms.specs.Classes.{instance_of}
use Rattle.model_terms.specs.Outputs.{stobj_actuals, all_there}
use Rattle.acl_terms.specs.Forms.{numbers, seen_cores}
use Rattle.acl_terms.specs.Signatures.{seen_outs, seen_signature}
use Rattle.acl_worlds.specs.Contents.{seen_world}
use Rattle.acl_outputs.proofs.CallLemmas.{call_instance}
use Rattle.acl_outputs.proofs.by_text.call_outs.Goals as goal

pub returns : goal.returns
returns c =
    let w = seen_world c.args.heap.now c.args.world.now in
    let actuals = cores.cores (seen_cores c.args.heap.now c.args.actuals.now) in
    call_instance w (seen_signature c.args.signature.now) actuals (numbers c.in-Some.names) (seen_signature c.in-Some-2.instance)
    (ap (option_map numbers) (sym c.in-Some.is) ∙ (c.in_ok-stobj_actuals.ensures ∙ ap (λ ks. all_there (stobj_actuals (seen_outs ks) actuals)) c.as_slice.ensures))
    (ap (option_map seen_signature) (sym c.in-Some-2.is) ∙ (c.in_ok-instantiate-in-Some.ensures ∙ ap (λ ns. instance_of w (seen_signature c.args.signature.now) (numbers ns)) c.as_slice-in-Some.ensures))
