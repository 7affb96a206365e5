use Rattle.std.specs.Prelude.{◌∷◌, [], Some, option_map}
use Rattle.std.proofs.Common.{ap, ◌∙◌}
use Rattle.model_terms.specs.Cores as cores
use Rattle.model_terms.specs.Outputs.{part_kinds, call_outs, signature_of}
use Rattle.acl_terms.specs.declared.form.Core.TheViews as views
use Rattle.acl_terms.specs.declared.form.Core.TheVariants as variants
use Rattle.acl_terms.specs.Forms.{seen_cores}
use Rattle.acl_terms.specs.Signatures.{seen_outs, seen_scope}
use Rattle.acl_worlds.specs.Contents.{seen_world}
use Rattle.acl_outputs.specs.Known.{seen_known}
use Rattle.acl_outputs.proofs.FormLemmas.{then_seen, out_var, out_const, out_mv, out_call}
use Rattle.acl_outputs.proofs.by_text.outputs.Goals as goal

pub returns-in_ok-outs-in-Var : goal.returns-in_ok-outs-in-Var
returns-in_ok-outs-in-Var c =
    let w = seen_world c.args.heap.now c.args.world.now in
    let known = seen_known c.args.known.now in
    let scope = seen_scope c.args.scope.now in
    let h = c.args.heap.now in
    then_seen w known scope h c.args.core.now (variants.Var c.in-Var.x) (Some (seen_outs c.in_ok-outs-in-Var.outs)) _ c.in-Var.is (out_var w known scope h c.in-Var.x)
    (ap Some (ap seen_outs c.in_ok-outs-in-Var.ensures ∙ ap (λ k. k ∷ []) c.kind_of.ensures))

pub returns-in_ok-outs-in-Const : goal.returns-in_ok-outs-in-Const
returns-in_ok-outs-in-Const c =
    let w = seen_world c.args.heap.now c.args.world.now in
    let known = seen_known c.args.known.now in
    let scope = seen_scope c.args.scope.now in
    let h = c.args.heap.now in
    then_seen w known scope h c.args.core.now (variants.Const c.in-Const.field-0) (Some (seen_outs c.in_ok-outs-in-Const.outs)) _ c.in-Const.is (out_const w known scope h c.in-Const.field-0)
    (ap Some (ap seen_outs c.in_ok-outs-in-Const.ensures))

pub returns-in_ok-outs-in-Mv : goal.returns-in_ok-outs-in-Mv
returns-in_ok-outs-in-Mv c =
    let w = seen_world c.args.heap.now c.args.world.now in
    let known = seen_known c.args.known.now in
    let scope = seen_scope c.args.scope.now in
    let h = c.args.heap.now in
    then_seen w known scope h c.args.core.now (views.Mv c.in-Mv.parts) (Some (seen_outs c.in_ok-outs-in-Mv.outs)) _ c.in-Mv.is (out_mv w known scope h c.in-Mv.parts)
    (ap Some (c.in_ok-outs-in-Mv.ensures ∙ ap (λ ps. part_kinds scope (cores.cores (seen_cores h ps))) c.as_slice.ensures))

pub returns-in_ok-outs-in-Call : goal.returns-in_ok-outs-in-Call
returns-in_ok-outs-in-Call c =
    let w = seen_world c.args.heap.now c.args.world.now in
    let known = seen_known c.args.known.now in
    let scope = seen_scope c.args.scope.now in
    let h = c.args.heap.now in
    then_seen w known scope h c.args.core.now (views.Call c.in-Call.f c.in-Call.actuals) (option_map seen_outs c.in_ok-outs-in-Call.outs) _ c.in-Call.is (out_call w known scope h c.in-Call.f c.in-Call.actuals)
    (c.in_ok-outs-in-Call.ensures ∙ ap (λ ps. option_map (λ s. call_outs w s (cores.cores (seen_cores h ps))) (signature_of w known c.in-Call.f.0)) c.as_slice-in-Call.ensures)
