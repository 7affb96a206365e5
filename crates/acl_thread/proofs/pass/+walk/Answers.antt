use Rattle.std.specs.Prelude.{◌≡◌, ℕ, ◌<◌, ◌≤◌, ◌^◌, List, [], length, refl}
use Rattle.std.proofs.Common.{rules, sym, ap, ◌∙◌, subst, arith}
use Rattle.acl_base.specs.declared.SymId.{SymId}
use Rattle.model_terms.specs.Outputs.{outputs}
use Rattle.model_terms.specs.Scopes.{binding, name_kinds}
use Rattle.model_terms.specs.Sites.{ins_of}
use Rattle.acl_terms.specs.declared.form.Core.{Core}
use Rattle.acl_terms.specs.declared.form.Core.TheViews as views
use Rattle.acl_terms.specs.declared.form.Core.TheVariants as variants
use Rattle.acl_terms.specs.declared.signature.Entry.{Entry}
use Rattle.acl_terms.specs.declared.signature.Out.{Out}
use Rattle.acl_terms.specs.Forms.{numbers, bound_names, seen_core}
use Rattle.acl_terms.specs.FormLaws.{seen_var, seen_const, seen_if, seen_let, seen_mv, seen_mv_let, seen_stobj_let, seen_with_local, seen_must_be_equal, seen_call}
use Rattle.acl_terms.specs.Signatures.{seen_outs, seen_scope}
use Rattle.acl_worlds.specs.Contents.{seen_world}
use Rattle.acl_nest.specs.Bindings.{BoundLie}
use Rattle.acl_thread.specs.Sizes.{Fits, FitParts, FitBound}
use Rattle.acl_thread.specs.Walks.{AlikeIns}
use Rattle.acl_thread.proofs.ArmLemmas.{var_arm, const_arm, if_arm, let_arm, mv_arm, mv_let_arm, stobj_let_arm, with_local_arm, must_be_equal_arm, call_arm}
use Rattle.acl_thread.proofs.DepthLemmas.{child_falls, parts_fall, bound_falls, part_falls, binding_falls, test_falls, then_falls, other_falls, body_falls, given_falls, mv_body_falls, producer_falls, consumer_falls, local_falls, local_body_falls, logic_falls, exec_falls, let_falls, mv_falls, call_falls}
use Rattle.acl_thread.proofs.SizeLemmas.{length_bound, if_test, if_then, if_other, let_body, let_bound, mv_parts, mv_let_given, mv_let_body, stobj_let_producer, stobj_let_consumer, stobj_let_bound, with_local_producer, with_local_body, must_be_equal_logic, must_be_equal_exec, call_actuals, part_fits, bound_fits, body_number}
use Rattle.acl_thread.proofs.WalkLemmas.{seen_walked, part_walked, child_fits, s13_is, s14_is, parts_start, parts_step, parts_done, actuals_start, actuals_step, actuals_done, bound_start, bound_step, bound_done, bound_told}
use Rattle.acl_thread.proofs.pass.+walk.Goals as goal

pub walk_form-returns-in_ok-walked-in-Var-clause-is : goal.walk_form-returns-in_ok-walked-in-Var-clause-is
walk_form-returns-in_ok-walked-in-Var-clause-is t c =
    seen_walked _ _ _ c.args.heap.now _ _ _ _ _ (variants.Var c.in-Var.x) _ c.in-Var.is (seen_var c.args.heap.now c.in-Var.x)
    (var_arm _ _ _ _ _ _ _ _ c.in_ok-walked-in-Var.ensures.outputs c.in_ok-walked-in-Var.ensures.fault)

pub walk_form-returns-in_ok-walked-in-Const-clause-is : goal.walk_form-returns-in_ok-walked-in-Const-clause-is
walk_form-returns-in_ok-walked-in-Const-clause-is t c =
    seen_walked _ _ _ c.args.heap.now _ _ _ _ _ (variants.Const c.in-Const.field-0) _ c.in-Const.is (seen_const c.args.heap.now c.in-Const.field-0)
    (const_arm _ _ _ _ _ _ _ _ c.in_ok-walked-in-Const.ensures.outputs c.in_ok-walked-in-Const.ensures.fault)

pub walk_form-returns-in_ok-walked-in-If-clause-is : goal.walk_form-returns-in_ok-walked-in-If-clause-is
walk_form-returns-in_ok-walked-in-If-clause-is t c =
    seen_walked _ _ _ c.args.heap.now _ _ _ _ _ (views.If c.in-If.a c.in-If.b c.in-If.c) _ c.in-If.is (seen_if c.args.heap.now c.in-If.a c.in-If.b c.in-If.c)
    (if_arm _ _ _ _ _ _ _ _ _ _ _ _ _ _ _ _
    (part_walked _ _ _ _ c.args.heap.now _ _ _ _ _ _ (refl) c.get.ensures c.in_ok-test-in-If.ensures.is)
    (part_walked _ _ _ _ c.args.heap.now _ _ _ _ _ _ (ap seen_scope c.in_ok-test-in-If.ensures.scope) c.get-in-If.ensures c.in_ok-then-in-If.ensures.is)
    (part_walked _ _ _ _ c.args.heap.now _ _ _ _ _ _ (ap seen_scope (c.in_ok-then-in-If.ensures.scope ∙ c.in_ok-test-in-If.ensures.scope)) c.get-in-If-2.ensures c.in_ok-other-in-If.ensures.is)
    c.in_ok-walked-in-If.ensures.outputs c.in_ok-walked-in-If.ensures.fault)

pub walk_form-returns-in_ok-walked-in-Let-clause-is : goal.walk_form-returns-in_ok-walked-in-Let-clause-is
walk_form-returns-in_ok-walked-in-Let-clause-is t c =
    seen_walked _ _ _ c.args.heap.now _ _ _ _ _ (views.Let c.in-Let.bindings c.in-Let.body) _ c.in-Let.is (seen_let c.args.heap.now c.in-Let.bindings c.in-Let.body)
    (let_arm _ _ _ _ _ _ _ _ _ _ _ _ _ _ _
    (rw c.as_slice-in-Let.ensures at c.in_ok-bound-in-Let.ensures.is) (rw c.as_slice-in-Let.ensures at c.in_ok-bound-in-Let.ensures.wrong) (c.len.ensures ∙ sym (length_bound c.args.heap.now c.in-Let.bindings))
    (part_walked _ _ _ _ c.args.heap.now _ _ _ _ _ _ (c.in_ok-bind-in-Let.ensures.binds ∙ (ap (λ (s : List Entry). binding (seen_world c.args.heap.now c.args.world.now) (seen_scope s) (numbers c.as_slice-in-Let-2.result.now)) c.in_ok-bound-in-Let.ensures.scope ∙ ap (binding (seen_world c.args.heap.now c.args.world.now) (seen_scope c.args.scope.now)) (ap numbers c.as_slice-in-Let-2.ensures ∙ (c.in_ok-names-in-Let.ensures ∙ ap (λ (bs : List (SymId × Core)). bound_names bs) c.as_slice.ensures)))) c.get-in-Let.ensures c.in_ok-inner-in-Let.ensures.is)
    c.in_ok-walked-in-Let.ensures.outputs (rw (c.as_slice-in-Let-3.ensures, c.in_ok-names-in-Let.ensures, c.as_slice.ensures) at c.in_ok-walked-in-Let.ensures.fault))

pub walk_form-returns-in_ok-walked-in-Mv-clause-is : goal.walk_form-returns-in_ok-walked-in-Mv-clause-is
walk_form-returns-in_ok-walked-in-Mv-clause-is t c =
    seen_walked _ _ _ c.args.heap.now _ _ _ _ _ (views.Mv c.in-Mv.parts) _ c.in-Mv.is (seen_mv c.args.heap.now c.in-Mv.parts)
    (mv_arm _ _ _ _ _ _ _ _ _
    (rw c.as_slice-in-Mv.ensures at c.in_ok-below-in-Mv.ensures.is) (rw (c.in_ok-below-in-Mv.ensures.scope, c.as_slice-in-Mv-2.ensures) at c.in_ok-walked-in-Mv.ensures.outputs)
    (rw c.as_slice-in-Mv-2.ensures at c.in_ok-walked-in-Mv.ensures.fault))

pub walk_form-returns-in_ok-walked-in-MvLet-clause-is : goal.walk_form-returns-in_ok-walked-in-MvLet-clause-is
walk_form-returns-in_ok-walked-in-MvLet-clause-is t c =
    seen_walked _ _ _ c.args.heap.now _ _ _ _ _ (views.MvLet c.in-MvLet.names c.in-MvLet.given c.in-MvLet.body) _ c.in-MvLet.is (seen_mv_let c.args.heap.now c.in-MvLet.names c.in-MvLet.given c.in-MvLet.body)
    (mv_let_arm _ _ _ _ _ _ _ _ _ _ _ _ _ _ _
    (ap seen_outs c.as_slice-wanted.ensures ∙ (c.in_ok-kinds-in-MvLet.ensures ∙ ap (λ (ns : List SymId). name_kinds (seen_world c.args.heap.now c.args.world.now) (numbers ns)) c.as_slice-in-MvLet.ensures))
    (part_walked _ _ _ _ c.args.heap.now _ _ _ _ _ _ (refl) c.get-in-MvLet.ensures c.in_ok-first-in-MvLet.ensures.is)
    (part_walked _ _ _ _ c.args.heap.now _ _ _ _ _ _ (c.in_ok-bind-in-MvLet.ensures.binds ∙ (ap (λ (s : List Entry). binding (seen_world c.args.heap.now c.args.world.now) (seen_scope s) (numbers c.as_slice-in-MvLet-2.result.now)) c.in_ok-first-in-MvLet.ensures.scope ∙ ap (λ (ns : List SymId). binding (seen_world c.args.heap.now c.args.world.now) (seen_scope c.args.scope.now) (numbers ns)) c.as_slice-in-MvLet-2.ensures)) c.get-in-MvLet-2.ensures c.in_ok-second-in-MvLet.ensures.is)
    c.in_ok-walked-in-MvLet.ensures.outputs c.in_ok-walked-in-MvLet.ensures.fault)

pub walk_form-returns-in_ok-walked-in-StobjLet-clause-is : goal.walk_form-returns-in_ok-walked-in-StobjLet-clause-is
walk_form-returns-in_ok-walked-in-StobjLet-clause-is t c =
    seen_walked _ _ _ c.args.heap.now _ _ _ _ _ (views.StobjLet c.in-StobjLet.bindings c.in-StobjLet.vars c.in-StobjLet.producer c.in-StobjLet.consumer) _ c.in-StobjLet.is (seen_stobj_let c.args.heap.now c.in-StobjLet.bindings c.in-StobjLet.vars c.in-StobjLet.producer c.in-StobjLet.consumer)
    (stobj_let_arm _ _ _ _ _ _ _ _ _ _ _ _ _ _ _ _ _
    (ap seen_outs c.as_slice-wanted-in-StobjLet.ensures ∙ (c.in_ok-kinds-in-StobjLet.ensures ∙ ap (λ (ns : List SymId). name_kinds (seen_world c.args.heap.now c.args.world.now) (numbers ns)) c.as_slice-in-StobjLet.ensures))
    (part_walked _ _ _ _ c.args.heap.now _ _ _ _ _ _ (rw c.as_slice-in-StobjLet-2.ensures at c.in_ok-inner-in-StobjLet.ensures) c.get-in-StobjLet.ensures c.in_ok-first-in-StobjLet.ensures.is)
    (part_walked _ _ _ _ c.args.heap.now _ _ _ _ _ _ (rw (c.as_slice-in-StobjLet-3.ensures, c.as_slice-in-StobjLet-4.ensures) at c.in_ok-outer-in-StobjLet.ensures) c.get-in-StobjLet-2.ensures c.in_ok-second-in-StobjLet.ensures.is)
    c.in_ok-walked-in-StobjLet.ensures.outputs (rw (s13_is (seen_world c.args.heap.now c.args.world.now) (seen_scope c.args.scope.now) (seen_outs c.args.expected.now) c.args.heap.now c.args.core.now c.in-StobjLet.bindings c.in-StobjLet.vars c.in-StobjLet.producer c.in-StobjLet.consumer c.in-StobjLet.is) at c.in_ok-walked-in-StobjLet.ensures.fault))

pub walk_form-returns-in_ok-walked-in-WithLocal-clause-is : goal.walk_form-returns-in_ok-walked-in-WithLocal-clause-is
walk_form-returns-in_ok-walked-in-WithLocal-clause-is t c =
    seen_walked _ _ _ c.args.heap.now _ _ _ _ _ (views.WithLocal c.in-WithLocal.stobj c.in-WithLocal.names c.in-WithLocal.producer c.in-WithLocal.body) _ c.in-WithLocal.is (seen_with_local c.args.heap.now c.in-WithLocal.stobj c.in-WithLocal.names c.in-WithLocal.producer c.in-WithLocal.body)
    (with_local_arm _ _ _ _ _ _ _ _ _ _ _ _ _ _ _ _
    (ap seen_outs c.as_slice-wanted-in-WithLocal.ensures ∙ (c.in_ok-kinds-in-WithLocal.ensures ∙ ap (λ (ns : List SymId). name_kinds (seen_world c.args.heap.now c.args.world.now) (numbers ns)) c.as_slice-in-WithLocal.ensures))
    (part_walked _ _ _ _ c.args.heap.now _ _ _ _ _ _ (c.in_ok-inner-in-WithLocal.ensures) c.get-in-WithLocal.ensures c.in_ok-first-in-WithLocal.ensures.is)
    (part_walked _ _ _ _ c.args.heap.now _ _ _ _ _ _ (rw c.as_slice-in-WithLocal-2.ensures at c.in_ok-outer-in-WithLocal.ensures) c.get-in-WithLocal-2.ensures c.in_ok-second-in-WithLocal.ensures.is)
    c.in_ok-walked-in-WithLocal.ensures.outputs (rw (s14_is (seen_world c.args.heap.now c.args.world.now) (seen_scope c.args.scope.now) (seen_outs c.args.expected.now) c.args.heap.now c.args.core.now c.in-WithLocal.stobj c.in-WithLocal.names c.in-WithLocal.producer c.in-WithLocal.body c.in-WithLocal.is) at c.in_ok-walked-in-WithLocal.ensures.fault))

pub walk_form-returns-in_ok-walked-in-MustBeEqual-clause-is : goal.walk_form-returns-in_ok-walked-in-MustBeEqual-clause-is
walk_form-returns-in_ok-walked-in-MustBeEqual-clause-is t c =
    seen_walked _ _ _ c.args.heap.now _ _ _ _ _ (views.MustBeEqual c.in-MustBeEqual.logic c.in-MustBeEqual.exec) _ c.in-MustBeEqual.is (seen_must_be_equal c.args.heap.now c.in-MustBeEqual.logic c.in-MustBeEqual.exec)
    (must_be_equal_arm _ _ _ _ _ _ _ _ _ _ _ _ _
    (part_walked _ _ _ _ c.args.heap.now _ _ _ _ _ _ (refl) c.get-in-MustBeEqual.ensures c.in_ok-first-in-MustBeEqual.ensures.is)
    (part_walked _ _ _ _ c.args.heap.now _ _ _ _ _ _ (ap seen_scope c.in_ok-first-in-MustBeEqual.ensures.scope) c.get-in-MustBeEqual-2.ensures c.in_ok-second-in-MustBeEqual.ensures.is)
    c.in_ok-walked-in-MustBeEqual.ensures.outputs c.in_ok-walked-in-MustBeEqual.ensures.fault)

pub walk_form-returns-in_ok-walked-in-Call-clause-is : goal.walk_form-returns-in_ok-walked-in-Call-clause-is
walk_form-returns-in_ok-walked-in-Call-clause-is t c =
    seen_walked _ _ _ c.args.heap.now _ _ _ _ _ (views.Call c.in-Call.f c.in-Call.actuals) _ c.in-Call.is (seen_call c.args.heap.now c.in-Call.f c.in-Call.actuals)
    (call_arm _ _ _ _ _ _ _ _ _ _ _
    (subst (λ (ks : List Out). AlikeIns (seen_outs ks) (ins_of (seen_world c.args.heap.now c.args.world.now) c.in-Call.f.0)) (sym c.as_slice-in-Call-2.ensures) c.in_ok-ins-in-Call.ensures)
    (rw c.as_slice-in-Call.ensures at c.in_ok-below-in-Call.ensures.is)
    ((rw c.in_ok-below-in-Call.ensures.scope at c.in_ok-walked-in-Call.ensures.outputs) ∙ ap (outputs (seen_world c.args.heap.now c.args.world.now) [] (seen_scope c.args.scope.now)) (ap (seen_core c.args.heap.now) c.in-Call.is ∙ seen_call c.args.heap.now c.in-Call.f c.in-Call.actuals))
    (rw (c.as_slice-in-Call-3.ensures, ← c.as_slice-in-Call-2.ensures, c.as_slice-in-Call-4.ensures) at c.in_ok-walked-in-Call.ensures.fault))

pub walk_form-walk_form-requires : goal.walk_form-walk_form-requires
walk_form-walk_form-requires t c =
    (omega (arith, c.decreases, child_falls c.args.heap.now _ (views.If c.in-If.a c.in-If.b c.in-If.c) _ _ c.in-If.is c.get.ensures (test_falls c.args.heap.now c.in-If.a c.in-If.b c.in-If.c)), child_fits c.args.heap.now _ (views.If c.in-If.a c.in-If.b c.in-If.c) _ _ c.in-If.is c.get.ensures (if_test c.args.heap.now c.in-If.a c.in-If.b c.in-If.c) c.requires.fits)

pub walk_form-walk_form-requires-in-If : goal.walk_form-walk_form-requires-in-If
walk_form-walk_form-requires-in-If t c =
    (omega (arith, c.decreases, child_falls c.args.heap.now _ (views.If c.in-If.a c.in-If.b c.in-If.c) _ _ c.in-If.is c.get-in-If.ensures (then_falls c.args.heap.now c.in-If.a c.in-If.b c.in-If.c)), child_fits c.args.heap.now _ (views.If c.in-If.a c.in-If.b c.in-If.c) _ _ c.in-If.is c.get-in-If.ensures (if_then c.args.heap.now c.in-If.a c.in-If.b c.in-If.c) c.requires.fits)

pub walk_form-walk_form-requires-in-If-2 : goal.walk_form-walk_form-requires-in-If-2
walk_form-walk_form-requires-in-If-2 t c =
    (omega (arith, c.decreases, child_falls c.args.heap.now _ (views.If c.in-If.a c.in-If.b c.in-If.c) _ _ c.in-If.is c.get-in-If-2.ensures (other_falls c.args.heap.now c.in-If.a c.in-If.b c.in-If.c)), child_fits c.args.heap.now _ (views.If c.in-If.a c.in-If.b c.in-If.c) _ _ c.in-If.is c.get-in-If-2.ensures (if_other c.args.heap.now c.in-If.a c.in-If.b c.in-If.c) c.requires.fits)

pub walk_form-walk_form-requires-in-Let : goal.walk_form-walk_form-requires-in-Let
walk_form-walk_form-requires-in-Let t c =
    (omega (arith, c.decreases, child_falls c.args.heap.now _ (views.Let c.in-Let.bindings c.in-Let.body) _ _ c.in-Let.is c.get-in-Let.ensures (body_falls c.args.heap.now c.in-Let.bindings c.in-Let.body)), child_fits c.args.heap.now _ (views.Let c.in-Let.bindings c.in-Let.body) _ _ c.in-Let.is c.get-in-Let.ensures (let_body c.args.heap.now c.in-Let.bindings c.in-Let.body) c.requires.fits)

pub walk_form-walk_form-requires-in-MvLet : goal.walk_form-walk_form-requires-in-MvLet
walk_form-walk_form-requires-in-MvLet t c =
    (omega (arith, c.decreases, child_falls c.args.heap.now _ (views.MvLet c.in-MvLet.names c.in-MvLet.given c.in-MvLet.body) _ _ c.in-MvLet.is c.get-in-MvLet.ensures (given_falls c.args.heap.now c.in-MvLet.names c.in-MvLet.given c.in-MvLet.body)), child_fits c.args.heap.now _ (views.MvLet c.in-MvLet.names c.in-MvLet.given c.in-MvLet.body) _ _ c.in-MvLet.is c.get-in-MvLet.ensures (mv_let_given c.args.heap.now c.in-MvLet.names c.in-MvLet.given c.in-MvLet.body) c.requires.fits)

pub walk_form-walk_form-requires-in-MvLet-2 : goal.walk_form-walk_form-requires-in-MvLet-2
walk_form-walk_form-requires-in-MvLet-2 t c =
    (omega (arith, c.decreases, child_falls c.args.heap.now _ (views.MvLet c.in-MvLet.names c.in-MvLet.given c.in-MvLet.body) _ _ c.in-MvLet.is c.get-in-MvLet-2.ensures (mv_body_falls c.args.heap.now c.in-MvLet.names c.in-MvLet.given c.in-MvLet.body)), child_fits c.args.heap.now _ (views.MvLet c.in-MvLet.names c.in-MvLet.given c.in-MvLet.body) _ _ c.in-MvLet.is c.get-in-MvLet-2.ensures (mv_let_body c.args.heap.now c.in-MvLet.names c.in-MvLet.given c.in-MvLet.body) c.requires.fits)

pub walk_form-walk_form-requires-in-StobjLet : goal.walk_form-walk_form-requires-in-StobjLet
walk_form-walk_form-requires-in-StobjLet t c =
    (omega (arith, c.decreases, child_falls c.args.heap.now _ (views.StobjLet c.in-StobjLet.bindings c.in-StobjLet.vars c.in-StobjLet.producer c.in-StobjLet.consumer) _ _ c.in-StobjLet.is c.get-in-StobjLet.ensures (producer_falls c.args.heap.now c.in-StobjLet.bindings c.in-StobjLet.vars c.in-StobjLet.producer c.in-StobjLet.consumer)), child_fits c.args.heap.now _ (views.StobjLet c.in-StobjLet.bindings c.in-StobjLet.vars c.in-StobjLet.producer c.in-StobjLet.consumer) _ _ c.in-StobjLet.is c.get-in-StobjLet.ensures (stobj_let_producer c.args.heap.now c.in-StobjLet.bindings c.in-StobjLet.vars c.in-StobjLet.producer c.in-StobjLet.consumer) c.requires.fits)

pub walk_form-walk_form-requires-in-StobjLet-2 : goal.walk_form-walk_form-requires-in-StobjLet-2
walk_form-walk_form-requires-in-StobjLet-2 t c =
    (omega (arith, c.decreases, child_falls c.args.heap.now _ (views.StobjLet c.in-StobjLet.bindings c.in-StobjLet.vars c.in-StobjLet.producer c.in-StobjLet.consumer) _ _ c.in-StobjLet.is c.get-in-StobjLet-2.ensures (consumer_falls c.args.heap.now c.in-StobjLet.bindings c.in-StobjLet.vars c.in-StobjLet.producer c.in-StobjLet.consumer)), child_fits c.args.heap.now _ (views.StobjLet c.in-StobjLet.bindings c.in-StobjLet.vars c.in-StobjLet.producer c.in-StobjLet.consumer) _ _ c.in-StobjLet.is c.get-in-StobjLet-2.ensures (stobj_let_consumer c.args.heap.now c.in-StobjLet.bindings c.in-StobjLet.vars c.in-StobjLet.producer c.in-StobjLet.consumer) c.requires.fits)

pub walk_form-walk_form-requires-in-WithLocal : goal.walk_form-walk_form-requires-in-WithLocal
walk_form-walk_form-requires-in-WithLocal t c =
    (omega (arith, c.decreases, child_falls c.args.heap.now _ (views.WithLocal c.in-WithLocal.stobj c.in-WithLocal.names c.in-WithLocal.producer c.in-WithLocal.body) _ _ c.in-WithLocal.is c.get-in-WithLocal.ensures (local_falls c.args.heap.now c.in-WithLocal.stobj c.in-WithLocal.names c.in-WithLocal.producer c.in-WithLocal.body)), child_fits c.args.heap.now _ (views.WithLocal c.in-WithLocal.stobj c.in-WithLocal.names c.in-WithLocal.producer c.in-WithLocal.body) _ _ c.in-WithLocal.is c.get-in-WithLocal.ensures (with_local_producer c.args.heap.now c.in-WithLocal.stobj c.in-WithLocal.names c.in-WithLocal.producer c.in-WithLocal.body) c.requires.fits)

pub walk_form-walk_form-requires-in-WithLocal-2 : goal.walk_form-walk_form-requires-in-WithLocal-2
walk_form-walk_form-requires-in-WithLocal-2 t c =
    (omega (arith, c.decreases, child_falls c.args.heap.now _ (views.WithLocal c.in-WithLocal.stobj c.in-WithLocal.names c.in-WithLocal.producer c.in-WithLocal.body) _ _ c.in-WithLocal.is c.get-in-WithLocal-2.ensures (local_body_falls c.args.heap.now c.in-WithLocal.stobj c.in-WithLocal.names c.in-WithLocal.producer c.in-WithLocal.body)), child_fits c.args.heap.now _ (views.WithLocal c.in-WithLocal.stobj c.in-WithLocal.names c.in-WithLocal.producer c.in-WithLocal.body) _ _ c.in-WithLocal.is c.get-in-WithLocal-2.ensures (with_local_body c.args.heap.now c.in-WithLocal.stobj c.in-WithLocal.names c.in-WithLocal.producer c.in-WithLocal.body) c.requires.fits)

pub walk_form-walk_form-requires-in-MustBeEqual : goal.walk_form-walk_form-requires-in-MustBeEqual
walk_form-walk_form-requires-in-MustBeEqual t c =
    (omega (arith, c.decreases, child_falls c.args.heap.now _ (views.MustBeEqual c.in-MustBeEqual.logic c.in-MustBeEqual.exec) _ _ c.in-MustBeEqual.is c.get-in-MustBeEqual.ensures (logic_falls c.args.heap.now c.in-MustBeEqual.logic c.in-MustBeEqual.exec)), child_fits c.args.heap.now _ (views.MustBeEqual c.in-MustBeEqual.logic c.in-MustBeEqual.exec) _ _ c.in-MustBeEqual.is c.get-in-MustBeEqual.ensures (must_be_equal_logic c.args.heap.now c.in-MustBeEqual.logic c.in-MustBeEqual.exec) c.requires.fits)

pub walk_form-walk_form-requires-in-MustBeEqual-2 : goal.walk_form-walk_form-requires-in-MustBeEqual-2
walk_form-walk_form-requires-in-MustBeEqual-2 t c =
    (omega (arith, c.decreases, child_falls c.args.heap.now _ (views.MustBeEqual c.in-MustBeEqual.logic c.in-MustBeEqual.exec) _ _ c.in-MustBeEqual.is c.get-in-MustBeEqual-2.ensures (exec_falls c.args.heap.now c.in-MustBeEqual.logic c.in-MustBeEqual.exec)), child_fits c.args.heap.now _ (views.MustBeEqual c.in-MustBeEqual.logic c.in-MustBeEqual.exec) _ _ c.in-MustBeEqual.is c.get-in-MustBeEqual-2.ensures (must_be_equal_exec c.args.heap.now c.in-MustBeEqual.logic c.in-MustBeEqual.exec) c.requires.fits)

pub walk_form-walk_bound-requires : goal.walk_form-walk_bound-requires
walk_form-walk_bound-requires t c =
    (omega (arith, c.decreases, bound_falls c.args.heap.now _ (views.Let c.in-Let.bindings c.in-Let.body) _ _ c.in-Let.is c.as_slice-in-Let.ensures (let_falls c.args.heap.now c.in-Let.bindings c.in-Let.body)), subst (FitBound c.args.heap.now) (sym c.as_slice-in-Let.ensures) (let_bound c.args.heap.now c.in-Let.bindings c.in-Let.body (subst (Fits c.args.heap.now) c.in-Let.is c.requires.fits)))

pub walk_form-walk_parts-requires : goal.walk_form-walk_parts-requires
walk_form-walk_parts-requires t c =
    (omega (arith, c.decreases, parts_fall c.args.heap.now _ (views.Mv c.in-Mv.parts) _ _ c.in-Mv.is c.as_slice-in-Mv.ensures (mv_falls c.args.heap.now c.in-Mv.parts)), subst (FitParts c.args.heap.now) (sym c.as_slice-in-Mv.ensures) (mv_parts c.args.heap.now c.in-Mv.parts (subst (Fits c.args.heap.now) c.in-Mv.is c.requires.fits)))

pub walk_form-walk_actuals-requires : goal.walk_form-walk_actuals-requires
walk_form-walk_actuals-requires t c =
    (omega (arith, c.decreases, parts_fall c.args.heap.now _ (views.Call c.in-Call.f c.in-Call.actuals) _ _ c.in-Call.is c.as_slice-in-Call.ensures (call_falls c.args.heap.now c.in-Call.f c.in-Call.actuals)), subst (FitParts c.args.heap.now) (sym c.as_slice-in-Call.ensures) (call_actuals c.args.heap.now c.in-Call.f c.in-Call.actuals (subst (Fits c.args.heap.now) c.in-Call.is c.requires.fits)))

pub walk_form-close_let-requires : goal.walk_form-close_let-requires
walk_form-close_let-requires t c =
    let few : length c.in-Let.bindings < 2 ^ 32 = body_number c.args.heap.now c.in-Let.bindings c.in-Let.body (subst (Fits c.args.heap.now) c.in-Let.is c.requires.fits) in subst (λ (n : ℕ). n < 2 ^ 32) (sym c.len.ensures) few

pub walk_form-producer_scope-requires : goal.walk_form-producer_scope-requires
walk_form-producer_scope-requires t c =
    subst (λ (bs : List (SymId × Core)). BoundLie c.args.heap.now bs) (sym c.as_slice-in-StobjLet-2.ensures) (stobj_let_bound c.args.heap.now c.in-StobjLet.bindings c.in-StobjLet.vars c.in-StobjLet.producer c.in-StobjLet.consumer (subst (Fits c.args.heap.now) c.in-StobjLet.is c.requires.fits))

pub walk_form-close_stobj_let-requires : goal.walk_form-close_stobj_let-requires
walk_form-close_stobj_let-requires t c =
    c.requires.fits.lies

pub walk_form-close_with_local-requires : goal.walk_form-close_with_local-requires
walk_form-close_with_local-requires t c =
    c.requires.fits.deep

pub walk_form-close_call-requires : goal.walk_form-close_call-requires
walk_form-close_call-requires t c =
    c.requires.fits.deep

pub walk_parts-loop-i-init : goal.walk_parts-loop-i-init
walk_parts-loop-i-init t c =
    parts_start (seen_world c.args.heap.now c.args.world.now) c.args.mode c.args.heap.now c.args.scope.now _ _

pub walk_parts-loop-i-preserved : goal.walk_parts-loop-i-preserved
walk_parts-loop-i-preserved t c =
    parts_step (seen_world c.args.heap.now c.args.world.now) c.args.mode c.args.heap.now _ _ _ _ _ _ _ _ _ _ _ _ _ _ c.loop-i.invariant c.loop-i-test.true c.index-parts-i.is c.kind_at-kind.ensures c.in_ok-walked.ensures.is c.in_ok-walked.ensures.scope c.in_ok-below.ensures c.either-fault.ensures

pub walk_parts-returns-clause-is : goal.walk_parts-returns-clause-is
walk_parts-returns-clause-is t c =
    let past : length c.args.parts.now ≤ c.loop-i.i = search rules in parts_done (seen_world c.args.heap.now c.args.world.now) c.args.mode c.args.heap.now _ _ _ _ _ _ _ c.loop-i.invariant past

pub walk_parts-returns-clause-scope : goal.walk_parts-returns-clause-scope
walk_parts-returns-clause-scope t c =
    c.loop-i.invariant.same

pub walk_parts-walk_form-requires : goal.walk_parts-walk_form-requires
walk_parts-walk_form-requires t c =
    (omega (arith, c.decreases, part_falls c.args.heap.now c.args.parts.now c.loop-i.i c.index-parts-i.result c.loop-i-test.true c.index-parts-i.is), subst (Fits c.args.heap.now) (sym c.index-parts-i.is) (part_fits c.args.heap.now c.args.parts.now c.loop-i.i c.index-parts-i.result c.requires.fits c.loop-i-test.true))

pub walk_actuals-loop-i-init : goal.walk_actuals-loop-i-init
walk_actuals-loop-i-init t c =
    actuals_start (seen_world c.args.heap.now c.args.world.now) c.args.mode c.args.heap.now c.args.scope.now _ _

pub walk_actuals-loop-i-preserved : goal.walk_actuals-loop-i-preserved
walk_actuals-loop-i-preserved t c =
    actuals_step (seen_world c.args.heap.now c.args.world.now) c.args.mode c.args.heap.now _ _ _ _ _ _ _ _ _ _ _ _ _ _ _ _ c.loop-i.invariant c.loop-i-test.true c.index-actuals-i.is c.kind_at-kind.ensures c.formal_stobj-object.ensures c.actual_kind-given.ensures c.in_ok-walked.ensures.is c.in_ok-walked.ensures.scope c.in_ok-below.ensures c.either-fault.ensures

pub walk_actuals-returns-clause-is : goal.walk_actuals-returns-clause-is
walk_actuals-returns-clause-is t c =
    let past : length c.args.actuals.now ≤ c.loop-i.i = search rules in actuals_done (seen_world c.args.heap.now c.args.world.now) c.args.mode c.args.heap.now _ _ _ _ _ _ _ c.loop-i.invariant past

pub walk_actuals-returns-clause-scope : goal.walk_actuals-returns-clause-scope
walk_actuals-returns-clause-scope t c =
    c.loop-i.invariant.same

pub walk_actuals-walk_form-requires : goal.walk_actuals-walk_form-requires
walk_actuals-walk_form-requires t c =
    (omega (arith, c.decreases, part_falls c.args.heap.now c.args.actuals.now c.loop-i.i c.index-actuals-i.result c.loop-i-test.true c.index-actuals-i.is), subst (Fits c.args.heap.now) (sym c.index-actuals-i.is) (part_fits c.args.heap.now c.args.actuals.now c.loop-i.i c.index-actuals-i.result c.requires.fits c.loop-i-test.true))

pub walk_bound-loop-i-init : goal.walk_bound-loop-i-init
walk_bound-loop-i-init t c =
    bound_start (seen_world c.args.heap.now c.args.world.now) c.args.mode c.args.heap.now c.args.scope.now _ _

pub walk_bound-loop-i-preserved : goal.walk_bound-loop-i-preserved
walk_bound-loop-i-preserved t c =
    bound_step (seen_world c.args.heap.now c.args.world.now) c.args.mode c.args.heap.now _ _ _ _ _ _ _ _ _ _ _ _ _ _ _ _ _ c.loop-i.invariant c.loop-i-test.true c.index-bindings-i.is c.name_kind-kind.ensures c.in_ok-walked.ensures.is c.in_ok-walked.ensures.scope c.is_bound_wrongly-here.ensures c.or-wrong.ensures c.in_ok-below.ensures c.either-fault.ensures

pub walk_bound-returns-clause-is : goal.walk_bound-returns-clause-is
walk_bound-returns-clause-is t c =
    let past : length c.args.bindings.now ≤ c.loop-i.i = search rules in bound_done (seen_world c.args.heap.now c.args.world.now) c.args.mode c.args.heap.now _ _ _ _ _ _ _ _ c.loop-i.invariant past

pub walk_bound-returns-clause-wrong : goal.walk_bound-returns-clause-wrong
walk_bound-returns-clause-wrong t c =
    let past : length c.args.bindings.now ≤ c.loop-i.i = search rules in bound_told (seen_world c.args.heap.now c.args.world.now) c.args.mode c.args.heap.now _ _ _ _ _ _ _ _ c.loop-i.invariant past

pub walk_bound-returns-clause-scope : goal.walk_bound-returns-clause-scope
walk_bound-returns-clause-scope t c =
    c.loop-i.invariant.same

pub walk_bound-walk_form-requires : goal.walk_bound-walk_form-requires
walk_bound-walk_form-requires t c =
    (omega (arith, c.decreases, binding_falls c.args.heap.now c.args.bindings.now c.loop-i.i c.index-bindings-i.result c.loop-i-test.true c.index-bindings-i.is), subst (λ (b : SymId × Core). Fits c.args.heap.now b.1) (sym c.index-bindings-i.is) (bound_fits c.args.heap.now c.args.bindings.now c.loop-i.i c.index-bindings-i.result c.requires.fits c.loop-i-test.true))
