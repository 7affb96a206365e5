use Rattle.std.specs.Prelude.{List, ◌∷◌, [], Some, option_map}
use Rattle.std.specs.Option.{option_or}
use Rattle.std.proofs.Common.{sym, ap, ◌∙◌}
use Rattle.acl_base.specs.declared.SymId.{SymId}
use Rattle.model_terms.specs.Cores as cores
use Rattle.model_terms.specs.Scopes.{binding, consumer_scope, body_scope}
use Rattle.model_terms.specs.Outputs.{outputs, part_kinds, call_outs, signature_of}
use Rattle.acl_terms.specs.declared.form.Core.{Core}
use Rattle.acl_terms.specs.declared.form.Core.TheViews as views
use Rattle.acl_terms.specs.declared.form.Core.TheVariants as variants
use Rattle.acl_terms.specs.Forms.{numbers, bound_names, seen_core, seen_cores}
use Rattle.acl_terms.specs.Signatures.{seen_outs, seen_scope}
use Rattle.acl_worlds.specs.Contents.{seen_world}
use Rattle.acl_outputs.specs.Known.{seen_known}
use Rattle.acl_outputs.proofs.FormLemmas.{then_seen, out_var, out_const, out_if, out_let, out_mv, out_mv_let, out_stobj_let, out_with_local, out_must_be_equal, out_call}
use Rattle.acl_outputs.proofs.by_text.+outputs_in.Goals as goal

pub returns-in_ok-outs-in-Var-clause-is : goal.returns-in_ok-outs-in-Var-clause-is
returns-in_ok-outs-in-Var-clause-is t c =
    let w = seen_world c.args.heap.now c.args.world.now in
    let known = seen_known c.args.known.now in
    let scope = seen_scope c.args.scope.now in
    let h = c.args.heap.now in
    then_seen w known scope h c.args.core.now (variants.Var c.in-Var.x) (Some (seen_outs c.in_ok-outs-in-Var.outs)) _ c.in-Var.is (out_var w known scope h c.in-Var.x)
    (ap Some (ap seen_outs c.in_ok-outs-in-Var.ensures ∙ ap (λ k. k ∷ []) c.kind_of.ensures))

pub returns-in_ok-outs-in-Const-clause-is : goal.returns-in_ok-outs-in-Const-clause-is
returns-in_ok-outs-in-Const-clause-is t c =
    let w = seen_world c.args.heap.now c.args.world.now in
    let known = seen_known c.args.known.now in
    let scope = seen_scope c.args.scope.now in
    let h = c.args.heap.now in
    then_seen w known scope h c.args.core.now (variants.Const c.in-Const.field-0) (Some (seen_outs c.in_ok-outs-in-Const.outs)) _ c.in-Const.is (out_const w known scope h c.in-Const.field-0)
    (ap Some (ap seen_outs c.in_ok-outs-in-Const.ensures))

pub returns-in-Some-clause-is : goal.returns-in-Some-clause-is
returns-in-Some-clause-is t c =
    let w = seen_world c.args.heap.now c.args.world.now in
    let known = seen_known c.args.known.now in
    let scope = seen_scope c.args.scope.now in
    let h = c.args.heap.now in
    then_seen w known scope h c.args.core.now (views.If c.in-If.field-0 c.in-If.then c.in-If.other) (Some (seen_outs c.in-Some.outs)) _ c.in-If.is (out_if w known scope h c.in-If.field-0 c.in-If.then c.in-If.other)
    (ap (λ o. option_or o (outputs w known scope (seen_core h c.in-If.other))) (ap (option_map seen_outs) (sym c.in-Some.is) ∙ (c.in_ok-outs-in-If.ensures.is ∙ ap (λ f. outputs w known scope (seen_core h f)) c.get.ensures)))

pub returns-in_ok-outs-in-None-clause-is : goal.returns-in_ok-outs-in-None-clause-is
returns-in_ok-outs-in-None-clause-is t c =
    let w = seen_world c.args.heap.now c.args.world.now in
    let known = seen_known c.args.known.now in
    let scope = seen_scope c.args.scope.now in
    let h = c.args.heap.now in
    then_seen w known scope h c.args.core.now (views.If c.in-If.field-0 c.in-If.then c.in-If.other) (option_map seen_outs c.in_ok-outs-in-None.outs) _ c.in-If.is (out_if w known scope h c.in-If.field-0 c.in-If.then c.in-If.other)
    (c.in_ok-outs-in-None.ensures.is ∙ (ap (λ s. outputs w known (seen_scope s) (seen_core h c.get-in-None.result.now)) c.in_ok-outs-in-If.ensures.scope ∙ (ap (λ f. outputs w known scope (seen_core h f)) c.get-in-None.ensures
    ∙ ap (λ o. option_or o (outputs w known scope (seen_core h c.in-If.other))) (ap (option_map seen_outs) (sym c.in-None.is) ∙ (c.in_ok-outs-in-If.ensures.is ∙ ap (λ f. outputs w known scope (seen_core h f)) c.get.ensures)))))

pub returns-in_ok-outs-in-Let-clause-is : goal.returns-in_ok-outs-in-Let-clause-is
returns-in_ok-outs-in-Let-clause-is t c =
    let w = seen_world c.args.heap.now c.args.world.now in
    let known = seen_known c.args.known.now in
    let scope = seen_scope c.args.scope.now in
    let h = c.args.heap.now in
    then_seen w known scope h c.args.core.now (views.Let c.in-Let.bindings c.in-Let.body) (option_map seen_outs c.in_ok-outs-in-Let.outs) _ c.in-Let.is (out_let w known scope h c.in-Let.bindings c.in-Let.body)
    (c.in_ok-outs-in-Let.ensures.is ∙ (ap (λ s. outputs w known s (seen_core h c.get-in-Let.result.now)) (c.in_ok-bind-in-Let.ensures.binds ∙ ap (binding w scope) (ap numbers c.as_slice-in-Let.ensures ∙ (c.in_ok-names-in-Let.ensures ∙ ap (λ (bs : List (SymId × Core)). bound_names bs) c.as_slice.ensures))) ∙ ap (λ f. outputs w known (binding w scope (bound_names c.in-Let.bindings)) (seen_core h f)) c.get-in-Let.ensures))

pub returns-in_ok-outs-in-Mv-clause-is : goal.returns-in_ok-outs-in-Mv-clause-is
returns-in_ok-outs-in-Mv-clause-is t c =
    let w = seen_world c.args.heap.now c.args.world.now in
    let known = seen_known c.args.known.now in
    let scope = seen_scope c.args.scope.now in
    let h = c.args.heap.now in
    then_seen w known scope h c.args.core.now (views.Mv c.in-Mv.parts) (Some (seen_outs c.in_ok-outs-in-Mv.outs)) _ c.in-Mv.is (out_mv w known scope h c.in-Mv.parts)
    (ap Some (c.in_ok-outs-in-Mv.ensures ∙ ap (λ ps. part_kinds scope (cores.cores (seen_cores h ps))) c.as_slice-in-Mv.ensures))

pub returns-in_ok-outs-in-MvLet-clause-is : goal.returns-in_ok-outs-in-MvLet-clause-is
returns-in_ok-outs-in-MvLet-clause-is t c =
    let w = seen_world c.args.heap.now c.args.world.now in
    let known = seen_known c.args.known.now in
    let scope = seen_scope c.args.scope.now in
    let h = c.args.heap.now in
    then_seen w known scope h c.args.core.now (views.MvLet c.in-MvLet.names c.in-MvLet.field-1 c.in-MvLet.body) (option_map seen_outs c.in_ok-outs-in-MvLet.outs) _ c.in-MvLet.is (out_mv_let w known scope h c.in-MvLet.names c.in-MvLet.field-1 c.in-MvLet.body)
    (c.in_ok-outs-in-MvLet.ensures.is ∙ (ap (λ s. outputs w known s (seen_core h c.get-in-MvLet.result.now)) (c.in_ok-bind-in-MvLet.ensures.binds ∙ ap (λ ns. binding w scope (numbers ns)) c.as_slice-in-MvLet.ensures) ∙ ap (λ f. outputs w known (binding w scope (numbers c.in-MvLet.names)) (seen_core h f)) c.get-in-MvLet.ensures))

pub returns-in_ok-outs-in-StobjLet-clause-is : goal.returns-in_ok-outs-in-StobjLet-clause-is
returns-in_ok-outs-in-StobjLet-clause-is t c =
    let w = seen_world c.args.heap.now c.args.world.now in
    let known = seen_known c.args.known.now in
    let scope = seen_scope c.args.scope.now in
    let h = c.args.heap.now in
    then_seen w known scope h c.args.core.now (views.StobjLet c.in-StobjLet.bindings c.in-StobjLet.vars c.in-StobjLet.producer c.in-StobjLet.consumer) (option_map seen_outs c.in_ok-outs-in-StobjLet.outs) _ c.in-StobjLet.is (out_stobj_let w known scope h c.in-StobjLet.bindings c.in-StobjLet.vars c.in-StobjLet.producer c.in-StobjLet.consumer)
    (c.in_ok-outs-in-StobjLet.ensures.is ∙ (ap (λ s. outputs w known s (seen_core h c.get-in-StobjLet.result.now)) (c.in_ok-inner-in-StobjLet.ensures ∙ (ap (λ (bs : List (SymId × Core)). consumer_scope w scope (bound_names bs) (numbers c.as_slice-in-StobjLet-2.result.now)) c.as_slice-in-StobjLet.ensures
    ∙ ap (λ ns. consumer_scope w scope (bound_names c.in-StobjLet.bindings) (numbers ns)) c.as_slice-in-StobjLet-2.ensures)) ∙ ap (λ f. outputs w known (consumer_scope w scope (bound_names c.in-StobjLet.bindings) (numbers c.in-StobjLet.vars)) (seen_core h f)) c.get-in-StobjLet.ensures))

pub returns-in_ok-outs-in-WithLocal-clause-is : goal.returns-in_ok-outs-in-WithLocal-clause-is
returns-in_ok-outs-in-WithLocal-clause-is t c =
    let w = seen_world c.args.heap.now c.args.world.now in
    let known = seen_known c.args.known.now in
    let scope = seen_scope c.args.scope.now in
    let h = c.args.heap.now in
    then_seen w known scope h c.args.core.now (views.WithLocal c.in-WithLocal.stobj c.in-WithLocal.names c.in-WithLocal.producer c.in-WithLocal.body) (option_map seen_outs c.in_ok-outs-in-WithLocal.outs) _ c.in-WithLocal.is (out_with_local w known scope h c.in-WithLocal.stobj c.in-WithLocal.names c.in-WithLocal.producer c.in-WithLocal.body)
    (c.in_ok-outs-in-WithLocal.ensures.is ∙ (ap (λ s. outputs w known s (seen_core h c.get-in-WithLocal.result.now)) (c.in_ok-inner-in-WithLocal.ensures ∙ ap (λ ns. body_scope w scope c.in-WithLocal.stobj.0 (numbers ns)) c.as_slice-in-WithLocal.ensures) ∙ ap (λ f. outputs w known (body_scope w scope c.in-WithLocal.stobj.0 (numbers c.in-WithLocal.names)) (seen_core h f)) c.get-in-WithLocal.ensures))

pub returns-in_ok-outs-in-MustBeEqual-clause-is : goal.returns-in_ok-outs-in-MustBeEqual-clause-is
returns-in_ok-outs-in-MustBeEqual-clause-is t c =
    let w = seen_world c.args.heap.now c.args.world.now in
    let known = seen_known c.args.known.now in
    let scope = seen_scope c.args.scope.now in
    let h = c.args.heap.now in
    then_seen w known scope h c.args.core.now (views.MustBeEqual c.in-MustBeEqual.logic c.in-MustBeEqual.field-1) (option_map seen_outs c.in_ok-outs-in-MustBeEqual.outs) _ c.in-MustBeEqual.is (out_must_be_equal w known scope h c.in-MustBeEqual.logic c.in-MustBeEqual.field-1)
    (c.in_ok-outs-in-MustBeEqual.ensures.is ∙ ap (λ f. outputs w known scope (seen_core h f)) c.get-in-MustBeEqual.ensures)

pub returns-in_ok-outs-in-Call-clause-is : goal.returns-in_ok-outs-in-Call-clause-is
returns-in_ok-outs-in-Call-clause-is t c =
    let w = seen_world c.args.heap.now c.args.world.now in
    let known = seen_known c.args.known.now in
    let scope = seen_scope c.args.scope.now in
    let h = c.args.heap.now in
    then_seen w known scope h c.args.core.now (views.Call c.in-Call.f c.in-Call.actuals) (option_map seen_outs c.in_ok-outs-in-Call.outs) _ c.in-Call.is (out_call w known scope h c.in-Call.f c.in-Call.actuals)
    (c.in_ok-outs-in-Call.ensures ∙ ap (λ ps. option_map (λ s. call_outs w s (cores.cores (seen_cores h ps))) (signature_of w known c.in-Call.f.0)) c.as_slice-in-Call.ensures)
