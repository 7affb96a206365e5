use Rattle.std.specs.Prelude.{length, List}
use Rattle.std.proofs.Common.{◌≤◌, ◌∙◌, arith, ap, refl}
use Rattle.acl_base.specs.declared.SymId.{SymId}
use Rattle.acl_terms.specs.declared.form.Core.{Core}
use Rattle.acl_terms.specs.Forms.{numbers, bound_names}
use Rattle.acl_worlds.specs.Contents.{seen_world}
use Rattle.acl_code.proofs.TableLemmas.{grown_then}
use Rattle.acl_code.proofs.SizeLemmas.{const_fits, names_room, stobj_let_children, part_fits, bound_fits, part_slot, bound_slot, part_below, binding_below, if_test, if_test_below, if_then, if_then_below, if_other, if_other_below, let_bound, let_bound_below, let_body, let_body_below, mv_parts, mv_parts_below, mv_let_bound, mv_let_bound_below, mv_let_body, mv_let_body_below, stobj_let_producer, stobj_let_producer_below, stobj_let_consumer, stobj_let_consumer_below, with_local_producer, with_local_producer_below, with_local_body, with_local_body_below, must_be_equal_logic, must_be_equal_logic_below, call_actuals, call_actuals_below}
use Rattle.acl_code.proofs.ConstantLemmas.{part_known, binding_known, known_const, known_test, known_then, known_other, known_let_bound, known_let_body, known_mv_parts, known_mv_let_bound, known_mv_let_body, known_lent, known_lent_producer, known_consumer, known_local_producer, known_local_body, known_logic, known_actuals}
use Rattle.acl_code.proofs.BuildLemmas.{within_later, all_later, var_arm, const_arm, if_arm, let_arm, mv_arm, mv_let_arm, stobj_let_arm, with_local_arm, must_be_equal_arm, call_arm, behind_ordinary, behind_all, fits_behind, fits_under, parts_start, parts_step, parts_nothing, parts_end, part_left, parts_past, binding_left, bindings_past}
use Rattle.acl_code.proofs.building.+building.Goals as goal

pub build_in-returns-in_ok-t-in-Var-clause-built : goal.build_in-returns-in_ok-t-in-Var-clause-built
build_in-returns-in_ok-t-in-Var-clause-built t c =
    var_arm c.args.heap.now (seen_world c.args.heap.now c.args.world.now) c.args.at c.args.environment.now c.args.core.now _ _ _ _ c.in-Var.is c.variable_operand-variable.ensures.is c.in_ok-t-in-Var.ensures.within c.in_ok-t-in-Var.ensures.is

pub build_in-finish_var-requires-clause-word : goal.build_in-finish_var-requires-clause-word
build_in-finish_var-requires-clause-word t c =
    c.variable_operand-variable.ensures.word

pub build_in-finish_const-requires-clause-word : goal.build_in-finish_const-requires-clause-word
build_in-finish_const-requires-clause-word t c =
    const_fits _ _ _ _ c.in-Const.is c.requires.fits

pub build_in-returns-in_ok-t-in-Const-clause-built : goal.build_in-returns-in_ok-t-in-Const-clause-built
build_in-returns-in_ok-t-in-Const-clause-built t c =
    const_arm c.args.heap.now (seen_world c.args.heap.now c.args.world.now) c.args.at c.args.environment.now c.args.core.now _ _ _ c.in-Const.is c.in_ok-t-in-Const.ensures.within c.in_ok-t-in-Const.ensures.is

pub build_in-finish_if-requires-clause-test : goal.build_in-finish_if-requires-clause-test
build_in-finish_if-requires-clause-test t c =
    within_later _ _ _ (grown_then _ _ _ c.in_ok-then-in-If.ensures.grows c.in_ok-other-in-If.ensures.grows) c.in_ok-test-in-If.ensures.built.within

pub build_in-finish_if-requires-clause-then : goal.build_in-finish_if-requires-clause-then
build_in-finish_if-requires-clause-then t c =
    within_later _ _ _ c.in_ok-other-in-If.ensures.grows c.in_ok-then-in-If.ensures.built.within

pub build_in-finish_if-requires-clause-other : goal.build_in-finish_if-requires-clause-other
build_in-finish_if-requires-clause-other t c =
    c.in_ok-other-in-If.ensures.built.within

pub build_in-returns-in_err-then-in-If-clause-grows : goal.build_in-returns-in_err-then-in-If-clause-grows
build_in-returns-in_err-then-in-If-clause-grows t c =
    grown_then _ _ _ c.in_ok-test-in-If.ensures.grows c.in_err-then-in-If.ensures.grows

pub build_in-returns-in_err-other-in-If-clause-grows : goal.build_in-returns-in_err-other-in-If-clause-grows
build_in-returns-in_err-other-in-If-clause-grows t c =
    grown_then _ _ _ c.in_ok-test-in-If.ensures.grows (grown_then _ _ _ c.in_ok-then-in-If.ensures.grows c.in_err-other-in-If.ensures.grows)

pub build_in-returns-in_err-t-in-If-clause-grows : goal.build_in-returns-in_err-t-in-If-clause-grows
build_in-returns-in_err-t-in-If-clause-grows t c =
    grown_then _ _ _ c.in_ok-test-in-If.ensures.grows (grown_then _ _ _ c.in_ok-then-in-If.ensures.grows (grown_then _ _ _ c.in_ok-other-in-If.ensures.grows c.in_err-t-in-If.ensures.grows))

pub build_in-returns-in_ok-t-in-If-clause-grows : goal.build_in-returns-in_ok-t-in-If-clause-grows
build_in-returns-in_ok-t-in-If-clause-grows t c =
    grown_then _ _ _ c.in_ok-test-in-If.ensures.grows (grown_then _ _ _ c.in_ok-then-in-If.ensures.grows (grown_then _ _ _ c.in_ok-other-in-If.ensures.grows c.in_ok-t-in-If.ensures.grows))

pub build_in-returns-in_ok-t-in-If-clause-environment : goal.build_in-returns-in_ok-t-in-If-clause-environment
build_in-returns-in_ok-t-in-If-clause-environment t c =
    c.in_ok-other-in-If.ensures.environment ∙ (c.in_ok-then-in-If.ensures.environment ∙ c.in_ok-test-in-If.ensures.environment)

pub build_in-returns-in_ok-t-in-If-clause-built : goal.build_in-returns-in_ok-t-in-If-clause-built
build_in-returns-in_ok-t-in-If-clause-built t c =
    if_arm c.args.heap.now (seen_world c.args.heap.now c.args.world.now) c.args.at c.args.environment.now c.args.core.now _ _ _ _ _ _ _ _ _ _ _ _ _ _ _ _ c.in-If.is c.get.ensures c.get-in-If.ensures c.get-in-If-2.ensures
    c.in_ok-test-in-If.ensures.built c.in_ok-test-in-If.ensures.environment c.in_ok-then-in-If.ensures.grows c.in_ok-then-in-If.ensures.built c.in_ok-then-in-If.ensures.environment c.in_ok-other-in-If.ensures.grows c.in_ok-other-in-If.ensures.built
    c.in_ok-t-in-If.ensures.within c.in_ok-t-in-If.ensures.is

pub build_in-finish_let-requires-clause-bound : goal.build_in-finish_let-requires-clause-bound
build_in-finish_let-requires-clause-bound t c =
    all_later _ _ _ c.in_ok-body-in-Let.ensures.grows c.in_ok-parts-in-Let.ensures.built.within

pub build_in-finish_let-requires-clause-body : goal.build_in-finish_let-requires-clause-body
build_in-finish_let-requires-clause-body t c =
    c.in_ok-body-in-Let.ensures.built.within

pub build_in-returns-in_err-body-in-Let-clause-grows : goal.build_in-returns-in_err-body-in-Let-clause-grows
build_in-returns-in_err-body-in-Let-clause-grows t c =
    grown_then _ _ _ c.in_ok-parts-in-Let.ensures.grows c.in_err-body-in-Let.ensures.grows

pub build_in-returns-in_err-t-in-Let-clause-grows : goal.build_in-returns-in_err-t-in-Let-clause-grows
build_in-returns-in_err-t-in-Let-clause-grows t c =
    grown_then _ _ _ c.in_ok-parts-in-Let.ensures.grows (grown_then _ _ _ c.in_ok-body-in-Let.ensures.grows c.in_err-t-in-Let.ensures.grows)

pub build_in-returns-in_ok-t-in-Let-clause-grows : goal.build_in-returns-in_ok-t-in-Let-clause-grows
build_in-returns-in_ok-t-in-Let-clause-grows t c =
    grown_then _ _ _ c.in_ok-parts-in-Let.ensures.grows (grown_then _ _ _ c.in_ok-body-in-Let.ensures.grows c.in_ok-t-in-Let.ensures.grows)

pub build_in-returns-in_ok-t-in-Let-clause-environment : goal.build_in-returns-in_ok-t-in-Let-clause-environment
build_in-returns-in_ok-t-in-Let-clause-environment t c =
    c.in_ok-body-in-Let.ensures.environment ∙ c.in_ok-parts-in-Let.ensures.environment

pub build_in-returns-in_ok-t-in-Let-clause-built : goal.build_in-returns-in_ok-t-in-Let-clause-built
build_in-returns-in_ok-t-in-Let-clause-built t c =
    let_arm c.args.heap.now (seen_world c.args.heap.now c.args.world.now) c.args.at c.args.environment.now c.args.core.now _ _ _ _ _ _ _ _ _ _ _ _ c.in-Let.is c.as_slice-bound.ensures (ap numbers c.as_slice-names.ensures ∙ (c.in_ok-names-in-Let.ensures ∙ ap (λ (cs : List (SymId × Core)). bound_names cs) c.as_slice-bound.ensures)) c.get-body.ensures
    c.in_ok-parts-in-Let.ensures.built c.in_ok-parts-in-Let.ensures.environment c.in_ok-body-in-Let.ensures.grows c.in_ok-body-in-Let.ensures.built c.in_ok-t-in-Let.ensures.within c.in_ok-t-in-Let.ensures.is

pub build_in-finish_mv-requires-clause-parts : goal.build_in-finish_mv-requires-clause-parts
build_in-finish_mv-requires-clause-parts t c =
    c.in_ok-parts-in-Mv.ensures.built.within

pub build_in-returns-in_err-t-in-Mv-clause-grows : goal.build_in-returns-in_err-t-in-Mv-clause-grows
build_in-returns-in_err-t-in-Mv-clause-grows t c =
    grown_then _ _ _ c.in_ok-parts-in-Mv.ensures.grows c.in_err-t-in-Mv.ensures.grows

pub build_in-returns-in_ok-t-in-Mv-clause-grows : goal.build_in-returns-in_ok-t-in-Mv-clause-grows
build_in-returns-in_ok-t-in-Mv-clause-grows t c =
    grown_then _ _ _ c.in_ok-parts-in-Mv.ensures.grows c.in_ok-t-in-Mv.ensures.grows

pub build_in-returns-in_ok-t-in-Mv-clause-built : goal.build_in-returns-in_ok-t-in-Mv-clause-built
build_in-returns-in_ok-t-in-Mv-clause-built t c =
    mv_arm c.args.heap.now (seen_world c.args.heap.now c.args.world.now) c.args.at c.args.environment.now c.args.core.now _ _ _ _ _ _ c.in-Mv.is c.as_slice-parts.ensures c.in_ok-parts-in-Mv.ensures.built c.in_ok-t-in-Mv.ensures.within c.in_ok-t-in-Mv.ensures.is

pub build_in-finish_mv_let-requires-clause-bound : goal.build_in-finish_mv_let-requires-clause-bound
build_in-finish_mv_let-requires-clause-bound t c =
    within_later _ _ _ c.in_ok-body-in-MvLet.ensures.grows c.in_ok-bound-in-MvLet.ensures.built.within

pub build_in-finish_mv_let-requires-clause-body : goal.build_in-finish_mv_let-requires-clause-body
build_in-finish_mv_let-requires-clause-body t c =
    c.in_ok-body-in-MvLet.ensures.built.within

pub build_in-returns-in_err-body-in-MvLet-clause-grows : goal.build_in-returns-in_err-body-in-MvLet-clause-grows
build_in-returns-in_err-body-in-MvLet-clause-grows t c =
    grown_then _ _ _ c.in_ok-bound-in-MvLet.ensures.grows c.in_err-body-in-MvLet.ensures.grows

pub build_in-returns-in_err-t-in-MvLet-clause-grows : goal.build_in-returns-in_err-t-in-MvLet-clause-grows
build_in-returns-in_err-t-in-MvLet-clause-grows t c =
    grown_then _ _ _ c.in_ok-bound-in-MvLet.ensures.grows (grown_then _ _ _ c.in_ok-body-in-MvLet.ensures.grows c.in_err-t-in-MvLet.ensures.grows)

pub build_in-returns-in_ok-t-in-MvLet-clause-grows : goal.build_in-returns-in_ok-t-in-MvLet-clause-grows
build_in-returns-in_ok-t-in-MvLet-clause-grows t c =
    grown_then _ _ _ c.in_ok-bound-in-MvLet.ensures.grows (grown_then _ _ _ c.in_ok-body-in-MvLet.ensures.grows c.in_ok-t-in-MvLet.ensures.grows)

pub build_in-returns-in_ok-t-in-MvLet-clause-environment : goal.build_in-returns-in_ok-t-in-MvLet-clause-environment
build_in-returns-in_ok-t-in-MvLet-clause-environment t c =
    c.in_ok-body-in-MvLet.ensures.environment ∙ c.in_ok-bound-in-MvLet.ensures.environment

pub build_in-returns-in_ok-t-in-MvLet-clause-built : goal.build_in-returns-in_ok-t-in-MvLet-clause-built
build_in-returns-in_ok-t-in-MvLet-clause-built t c =
    mv_let_arm c.args.heap.now (seen_world c.args.heap.now c.args.world.now) c.args.at c.args.environment.now c.args.core.now _ _ _ _ _ _ _ _ _ _ _ _ _ c.in-MvLet.is c.as_slice-names-in-MvLet.ensures c.get-in-MvLet.ensures c.get-body-in-MvLet.ensures
    c.in_ok-bound-in-MvLet.ensures.built c.in_ok-bound-in-MvLet.ensures.environment c.in_ok-body-in-MvLet.ensures.grows c.in_ok-body-in-MvLet.ensures.built c.in_ok-t-in-MvLet.ensures.within c.in_ok-t-in-MvLet.ensures.is

pub build_in-finish_stobj_let-requires-clause-children : goal.build_in-finish_stobj_let-requires-clause-children
build_in-finish_stobj_let-requires-clause-children t c =
    c.in_ok-lent-in-StobjLet.ensures.words

pub build_in-finish_stobj_let-requires-clause-producer : goal.build_in-finish_stobj_let-requires-clause-producer
build_in-finish_stobj_let-requires-clause-producer t c =
    within_later _ _ _ c.in_ok-used-in-StobjLet.ensures.grows c.in_ok-made-in-StobjLet.ensures.built.within

pub build_in-finish_stobj_let-requires-clause-consumer : goal.build_in-finish_stobj_let-requires-clause-consumer
build_in-finish_stobj_let-requires-clause-consumer t c =
    c.in_ok-used-in-StobjLet.ensures.built.within

pub build_in-returns-in_err-used-in-StobjLet-clause-grows : goal.build_in-returns-in_err-used-in-StobjLet-clause-grows
build_in-returns-in_err-used-in-StobjLet-clause-grows t c =
    grown_then _ _ _ c.in_ok-made-in-StobjLet.ensures.grows c.in_err-used-in-StobjLet.ensures.grows

pub build_in-returns-in_err-t-in-StobjLet-clause-grows : goal.build_in-returns-in_err-t-in-StobjLet-clause-grows
build_in-returns-in_err-t-in-StobjLet-clause-grows t c =
    grown_then _ _ _ c.in_ok-made-in-StobjLet.ensures.grows (grown_then _ _ _ c.in_ok-used-in-StobjLet.ensures.grows c.in_err-t-in-StobjLet.ensures.grows)

pub build_in-returns-in_ok-t-in-StobjLet-clause-grows : goal.build_in-returns-in_ok-t-in-StobjLet-clause-grows
build_in-returns-in_ok-t-in-StobjLet-clause-grows t c =
    grown_then _ _ _ c.in_ok-made-in-StobjLet.ensures.grows (grown_then _ _ _ c.in_ok-used-in-StobjLet.ensures.grows c.in_ok-t-in-StobjLet.ensures.grows)

pub build_in-returns-in_ok-t-in-StobjLet-clause-environment : goal.build_in-returns-in_ok-t-in-StobjLet-clause-environment
build_in-returns-in_ok-t-in-StobjLet-clause-environment t c =
    c.in_ok-used-in-StobjLet.ensures.environment ∙ c.in_ok-made-in-StobjLet.ensures.environment

pub build_in-returns-in_ok-t-in-StobjLet-clause-built : goal.build_in-returns-in_ok-t-in-StobjLet-clause-built
build_in-returns-in_ok-t-in-StobjLet-clause-built t c =
    stobj_let_arm c.args.heap.now (seen_world c.args.heap.now c.args.world.now) c.args.at c.args.environment.now c.args.core.now _ _ _ _ _ _ _ _ _ _ _ _ _ _ _ _ _ c.in-StobjLet.is c.as_slice-bound-in-StobjLet.ensures c.as_slice-vars.ensures (ap numbers c.as_slice-names-in-StobjLet.ensures ∙ c.in_ok-names-in-StobjLet.ensures) c.get-made.ensures c.get-used.ensures
    c.in_ok-lent-in-StobjLet.ensures.are c.in_ok-made-in-StobjLet.ensures.built c.in_ok-made-in-StobjLet.ensures.environment c.in_ok-used-in-StobjLet.ensures.grows c.in_ok-used-in-StobjLet.ensures.built c.in_ok-t-in-StobjLet.ensures.within c.in_ok-t-in-StobjLet.ensures.is

pub build_in-finish_with_local-requires-clause-producer : goal.build_in-finish_with_local-requires-clause-producer
build_in-finish_with_local-requires-clause-producer t c =
    within_later _ _ _ c.in_ok-body-in-WithLocal.ensures.grows c.in_ok-made-in-WithLocal.ensures.built.within

pub build_in-finish_with_local-requires-clause-body : goal.build_in-finish_with_local-requires-clause-body
build_in-finish_with_local-requires-clause-body t c =
    c.in_ok-body-in-WithLocal.ensures.built.within

pub build_in-returns-in_err-body-in-WithLocal-clause-grows : goal.build_in-returns-in_err-body-in-WithLocal-clause-grows
build_in-returns-in_err-body-in-WithLocal-clause-grows t c =
    grown_then _ _ _ c.in_ok-made-in-WithLocal.ensures.grows c.in_err-body-in-WithLocal.ensures.grows

pub build_in-returns-in_err-t-in-WithLocal-clause-grows : goal.build_in-returns-in_err-t-in-WithLocal-clause-grows
build_in-returns-in_err-t-in-WithLocal-clause-grows t c =
    grown_then _ _ _ c.in_ok-made-in-WithLocal.ensures.grows (grown_then _ _ _ c.in_ok-body-in-WithLocal.ensures.grows c.in_err-t-in-WithLocal.ensures.grows)

pub build_in-returns-in_ok-t-in-WithLocal-clause-grows : goal.build_in-returns-in_ok-t-in-WithLocal-clause-grows
build_in-returns-in_ok-t-in-WithLocal-clause-grows t c =
    grown_then _ _ _ c.in_ok-made-in-WithLocal.ensures.grows (grown_then _ _ _ c.in_ok-body-in-WithLocal.ensures.grows c.in_ok-t-in-WithLocal.ensures.grows)

pub build_in-returns-in_ok-t-in-WithLocal-clause-environment : goal.build_in-returns-in_ok-t-in-WithLocal-clause-environment
build_in-returns-in_ok-t-in-WithLocal-clause-environment t c =
    c.in_ok-body-in-WithLocal.ensures.environment ∙ c.in_ok-made-in-WithLocal.ensures.environment

pub build_in-returns-in_ok-t-in-WithLocal-clause-built : goal.build_in-returns-in_ok-t-in-WithLocal-clause-built
build_in-returns-in_ok-t-in-WithLocal-clause-built t c =
    with_local_arm c.args.heap.now (seen_world c.args.heap.now c.args.world.now) c.args.at c.args.environment.now c.args.core.now _ _ _ _ _ _ _ _ _ _ _ _ _ _ _ c.in-WithLocal.is refl c.as_slice-names-in-WithLocal.ensures c.get-made-in-WithLocal.ensures c.get-body-in-WithLocal.ensures
    c.in_ok-made-in-WithLocal.ensures.built c.in_ok-made-in-WithLocal.ensures.environment c.in_ok-body-in-WithLocal.ensures.grows c.in_ok-body-in-WithLocal.ensures.built c.in_ok-t-in-WithLocal.ensures.within c.in_ok-t-in-WithLocal.ensures.is

pub build_in-finish_must_be_equal-requires-clause-logic : goal.build_in-finish_must_be_equal-requires-clause-logic
build_in-finish_must_be_equal-requires-clause-logic t c =
    c.in_ok-logic-in-MustBeEqual.ensures.built.within

pub build_in-returns-in_err-t-in-MustBeEqual-clause-grows : goal.build_in-returns-in_err-t-in-MustBeEqual-clause-grows
build_in-returns-in_err-t-in-MustBeEqual-clause-grows t c =
    grown_then _ _ _ c.in_ok-logic-in-MustBeEqual.ensures.grows c.in_err-t-in-MustBeEqual.ensures.grows

pub build_in-returns-in_ok-t-in-MustBeEqual-clause-grows : goal.build_in-returns-in_ok-t-in-MustBeEqual-clause-grows
build_in-returns-in_ok-t-in-MustBeEqual-clause-grows t c =
    grown_then _ _ _ c.in_ok-logic-in-MustBeEqual.ensures.grows c.in_ok-t-in-MustBeEqual.ensures.grows

pub build_in-returns-in_ok-t-in-MustBeEqual-clause-built : goal.build_in-returns-in_ok-t-in-MustBeEqual-clause-built
build_in-returns-in_ok-t-in-MustBeEqual-clause-built t c =
    must_be_equal_arm c.args.heap.now (seen_world c.args.heap.now c.args.world.now) c.args.at c.args.environment.now c.args.core.now _ _ _ _ _ _ _ c.in-MustBeEqual.is c.get-in-MustBeEqual.ensures c.in_ok-logic-in-MustBeEqual.ensures.built c.in_ok-t-in-MustBeEqual.ensures.within c.in_ok-t-in-MustBeEqual.ensures.is

pub build_in-finish_call-requires-clause-actuals : goal.build_in-finish_call-requires-clause-actuals
build_in-finish_call-requires-clause-actuals t c =
    c.in_ok-actuals-in-Call.ensures.built.within

pub build_in-returns-in_err-t-in-Call-clause-grows : goal.build_in-returns-in_err-t-in-Call-clause-grows
build_in-returns-in_err-t-in-Call-clause-grows t c =
    grown_then _ _ _ c.in_ok-actuals-in-Call.ensures.grows c.in_err-t-in-Call.ensures.grows

pub build_in-returns-in_ok-t-in-Call-clause-grows : goal.build_in-returns-in_ok-t-in-Call-clause-grows
build_in-returns-in_ok-t-in-Call-clause-grows t c =
    grown_then _ _ _ c.in_ok-actuals-in-Call.ensures.grows c.in_ok-t-in-Call.ensures.grows

pub build_in-returns-in_ok-t-in-Call-clause-built : goal.build_in-returns-in_ok-t-in-Call-clause-built
build_in-returns-in_ok-t-in-Call-clause-built t c =
    call_arm c.args.heap.now (seen_world c.args.heap.now c.args.world.now) c.args.at c.args.environment.now c.args.core.now _ _ _ _ _ _ _ _ c.in-Call.is c.as_slice-actuals.ensures c.number-function.ensures c.in_ok-actuals-in-Call.ensures.built c.in_ok-t-in-Call.ensures.within c.in_ok-t-in-Call.ensures.is

pub build_under-bind_ordinary-requires : goal.build_under-bind_ordinary-requires
build_under-bind_ordinary-requires t c =
    names_room _ _ _ _ c.requires.fits

pub build_under-returns-clause-built : goal.build_under-returns-clause-built
build_under-returns-clause-built t c =
    behind_ordinary c.args.heap.now (seen_world c.args.heap.now c.args.world.now) c.args.environment.now c.bind_ordinary.new.environment c.args.names.now c.args.at _ c.args.body.now _ _ c.in_ok-inner.ensures.slot c.in_ok-inner.ensures.binds c.in_ok-t.ensures.built

pub build_inside-bind_all-requires : goal.build_inside-bind_all-requires
build_inside-bind_all-requires t c =
    names_room _ _ _ _ c.requires.fits

pub build_inside-returns-clause-built : goal.build_inside-returns-clause-built
build_inside-returns-clause-built t c =
    behind_all c.args.heap.now (seen_world c.args.heap.now c.args.world.now) c.args.environment.now c.bind_all.new.environment c.args.names.now c.args.at _ c.args.body.now _ _ c.in_ok-inner.ensures.slot c.in_ok-inner.ensures.binds c.in_ok-t.ensures.built

pub build_parts-loop-i-init : goal.build_parts-loop-i-init
build_parts-loop-i-init t c =
    rw c.new-found.ensures (parts_start _ _ _ _ _ _ c.requires.words)

pub build_parts-returns-in_err-t-clause-grows : goal.build_parts-returns-in_err-t-clause-grows
build_parts-returns-in_err-t-clause-grows t c =
    grown_then _ _ _ c.loop-i.invariant.grows c.in_err-t.ensures.grows

pub build_parts-returns-in_err-push-in-Some-clause-grows : goal.build_parts-returns-in_err-push-in-Some-clause-grows
build_parts-returns-in_err-push-in-Some-clause-grows t c =
    grown_then _ _ _ c.loop-i.invariant.grows c.in_ok-t.ensures.grows

pub build_parts-returns-in-None-clause-grows : goal.build_parts-returns-in-None-clause-grows
build_parts-returns-in-None-clause-grows t c =
    grown_then _ _ _ c.loop-i.invariant.grows c.in_ok-t.ensures.grows

pub build_parts-returns-in-None-clause-environment : goal.build_parts-returns-in-None-clause-environment
build_parts-returns-in-None-clause-environment t c =
    c.in_ok-t.ensures.environment ∙ c.loop-i.invariant.environment

pub build_parts-returns-in-None-clause-built : goal.build_parts-returns-in-None-clause-built
build_parts-returns-in-None-clause-built t c =
    parts_nothing _ _ _ _ _ _ _ _ _ _ _ _ _ c.loop-i.invariant (part_left _ _ _ _ c.loop-i-test.true c.index-parts-i.is) _ _ _ c.slot_behind-slot.ensures c.in-None.is c.in_ok-t.ensures.built

pub build_parts-loop-i-preserved : goal.build_parts-loop-i-preserved
build_parts-loop-i-preserved t c =
    parts_step _ _ _ _ _ _ _ _ _ _ _ _ _ c.loop-i.invariant (part_left _ _ _ _ c.loop-i-test.true c.index-parts-i.is) _ _ _ _ _ _ c.slot_behind-slot.ensures c.in-Some.is c.in_ok-t.ensures.environment c.in_ok-t.ensures.grows c.in_ok-t.ensures.words
    (λ n b k o. c.in_ok-t.ensures.known n b (part_known n c.args.heap.now c.args.parts.now c.loop-i.i _ c.index-parts-i.result c.loop-i-test.true c.index-parts-i.is k) o)
    c.in_ok-t.ensures.built c.in_ok-push-in-Some.ensures.ok

pub build_parts-returns-clause-built : goal.build_parts-returns-clause-built
build_parts-returns-clause-built t c =
    let past : length c.args.parts.now ≤ c.loop-i.i = omega arith in
    parts_end _ _ _ _ _ _ _ _ _ _ _ (parts_past _ _ _ past) c.loop-i.invariant

pub build_bound-loop-i-init : goal.build_bound-loop-i-init
build_bound-loop-i-init t c =
    rw c.new-found.ensures (parts_start _ _ _ _ _ _ c.requires.words)

pub build_bound-returns-in_err-t-clause-grows : goal.build_bound-returns-in_err-t-clause-grows
build_bound-returns-in_err-t-clause-grows t c =
    grown_then _ _ _ c.loop-i.invariant.grows c.in_err-t.ensures.grows

pub build_bound-returns-in_err-push-in-Some-clause-grows : goal.build_bound-returns-in_err-push-in-Some-clause-grows
build_bound-returns-in_err-push-in-Some-clause-grows t c =
    grown_then _ _ _ c.loop-i.invariant.grows c.in_ok-t.ensures.grows

pub build_bound-returns-in-None-clause-grows : goal.build_bound-returns-in-None-clause-grows
build_bound-returns-in-None-clause-grows t c =
    grown_then _ _ _ c.loop-i.invariant.grows c.in_ok-t.ensures.grows

pub build_bound-returns-in-None-clause-environment : goal.build_bound-returns-in-None-clause-environment
build_bound-returns-in-None-clause-environment t c =
    c.in_ok-t.ensures.environment ∙ c.loop-i.invariant.environment

pub build_bound-returns-in-None-clause-built : goal.build_bound-returns-in-None-clause-built
build_bound-returns-in-None-clause-built t c =
    parts_nothing _ _ _ _ _ _ _ _ _ _ _ _ _ c.loop-i.invariant (binding_left _ _ _ _ c.loop-i-test.true c.index-bindings-i.is) _ _ _ c.slot_behind-slot.ensures c.in-None.is c.in_ok-t.ensures.built

pub build_bound-loop-i-preserved : goal.build_bound-loop-i-preserved
build_bound-loop-i-preserved t c =
    parts_step _ _ _ _ _ _ _ _ _ _ _ _ _ c.loop-i.invariant (binding_left _ _ _ _ c.loop-i-test.true c.index-bindings-i.is) _ _ _ _ _ _ c.slot_behind-slot.ensures c.in-Some.is c.in_ok-t.ensures.environment c.in_ok-t.ensures.grows c.in_ok-t.ensures.words
    (λ n b k o. c.in_ok-t.ensures.known n b (binding_known n c.args.heap.now c.args.bindings.now c.loop-i.i _ c.index-bindings-i.result c.loop-i-test.true c.index-bindings-i.is k) o)
    c.in_ok-t.ensures.built c.in_ok-push-in-Some.ensures.ok

pub build_bound-returns-clause-built : goal.build_bound-returns-clause-built
build_bound-returns-clause-built t c =
    let past : length c.args.bindings.now ≤ c.loop-i.i = omega arith in
    parts_end _ _ _ _ _ _ _ _ _ _ _ (bindings_past _ _ _ past) c.loop-i.invariant

pub build_in-children-requires : goal.build_in-children-requires
build_in-children-requires t c =
    stobj_let_children c.args.heap.now c.args.at c.args.core.now _ _ _ _ _ c.in-StobjLet.is c.as_slice-bound-in-StobjLet.ensures c.requires.fits

pub build_parts-slot_behind-slot-requires : goal.build_parts-slot_behind-slot-requires
build_parts-slot_behind-slot-requires t c =
    part_slot c.args.heap.now c.args.at c.args.parts.now c.loop-i.i c.index-parts-i.result c.requires.fits c.loop-i-test.true

pub build_bound-slot_behind-slot-requires : goal.build_bound-slot_behind-slot-requires
build_bound-slot_behind-slot-requires t c =
    bound_slot c.args.heap.now c.args.at c.args.bindings.now c.loop-i.i c.index-bindings-i.result c.requires.fits c.loop-i-test.true

pub build_in-build_in-requires : goal.build_in-build_in-requires
build_in-build_in-requires t c =
    let below = if_test_below c.args.heap.now c.args.core.now _ _ _ _ c.in-If.is c.get.ensures in
    (omega (arith, c.decreases, below), (c.requires.words, if_test c.args.heap.now c.args.at c.args.core.now _ _ _ _ c.in-If.is c.get.ensures c.requires.fits))

pub build_in-build_in-requires-in-If : goal.build_in-build_in-requires-in-If
build_in-build_in-requires-in-If t c =
    let below = if_then_below c.args.heap.now c.args.core.now _ _ _ _ c.in-If.is c.get-in-If.ensures in
    (omega (arith, c.decreases, below), (c.in_ok-test-in-If.ensures.words, if_then c.args.heap.now c.args.at c.args.core.now _ _ _ _ c.in-If.is c.get-in-If.ensures c.requires.fits))

pub build_in-build_in-requires-in-If-2 : goal.build_in-build_in-requires-in-If-2
build_in-build_in-requires-in-If-2 t c =
    let below = if_other_below c.args.heap.now c.args.core.now _ _ _ _ c.in-If.is c.get-in-If-2.ensures in
    (omega (arith, c.decreases, below), (c.in_ok-then-in-If.ensures.words, if_other c.args.heap.now c.args.at c.args.core.now _ _ _ _ c.in-If.is c.get-in-If-2.ensures c.requires.fits))

pub build_in-build_bound-requires : goal.build_in-build_bound-requires
build_in-build_bound-requires t c =
    let below = let_bound_below c.args.heap.now c.args.core.now _ _ _ c.in-Let.is c.as_slice-bound.ensures in
    (omega (arith, c.decreases, below), (c.requires.words, let_bound c.args.heap.now c.args.at c.args.core.now _ _ _ c.in-Let.is c.as_slice-bound.ensures c.requires.fits))

pub build_in-build_under-requires : goal.build_in-build_under-requires
build_in-build_under-requires t c =
    let below = let_body_below c.args.heap.now c.args.core.now _ _ _ c.in-Let.is c.get-body.ensures in
    (omega (arith, c.decreases, below), (c.in_ok-parts-in-Let.ensures.words, fits_under c.args.heap.now c.args.at _ _ _ (ap numbers c.as_slice-names.ensures ∙ (c.in_ok-names-in-Let.ensures ∙ ap (λ (cs : List (SymId × Core)). bound_names cs) c.as_slice-bound.ensures)) (let_body c.args.heap.now c.args.at c.args.core.now _ _ _ c.in-Let.is c.get-body.ensures c.requires.fits)))

pub build_in-build_parts-requires : goal.build_in-build_parts-requires
build_in-build_parts-requires t c =
    let below = mv_parts_below c.args.heap.now c.args.core.now _ _ c.in-Mv.is c.as_slice-parts.ensures in
    (omega (arith, c.decreases, below), (c.requires.words, mv_parts c.args.heap.now c.args.at c.args.core.now _ _ c.in-Mv.is c.as_slice-parts.ensures c.requires.fits))

pub build_in-build_in-requires-in-MvLet : goal.build_in-build_in-requires-in-MvLet
build_in-build_in-requires-in-MvLet t c =
    let below = mv_let_bound_below c.args.heap.now c.args.core.now _ _ _ _ c.in-MvLet.is c.get-in-MvLet.ensures in
    (omega (arith, c.decreases, below), (c.requires.words, mv_let_bound c.args.heap.now c.args.at c.args.core.now _ _ _ _ c.in-MvLet.is c.get-in-MvLet.ensures c.requires.fits))

pub build_in-build_under-requires-in-MvLet : goal.build_in-build_under-requires-in-MvLet
build_in-build_under-requires-in-MvLet t c =
    let below = mv_let_body_below c.args.heap.now c.args.core.now _ _ _ _ c.in-MvLet.is c.get-body-in-MvLet.ensures in
    (omega (arith, c.decreases, below), (c.in_ok-bound-in-MvLet.ensures.words, fits_under c.args.heap.now c.args.at _ _ _ (ap numbers c.as_slice-names-in-MvLet.ensures) (mv_let_body c.args.heap.now c.args.at c.args.core.now _ _ _ _ c.in-MvLet.is c.get-body-in-MvLet.ensures c.requires.fits)))

pub build_in-build_inside-requires : goal.build_in-build_inside-requires
build_in-build_inside-requires t c =
    let below = stobj_let_producer_below c.args.heap.now c.args.core.now _ _ _ _ _ c.in-StobjLet.is c.get-made.ensures in
    (omega (arith, c.decreases, below), (c.requires.words, fits_under c.args.heap.now c.args.at _ _ _ (ap numbers c.as_slice-names-in-StobjLet.ensures ∙ (c.in_ok-names-in-StobjLet.ensures ∙ ap (λ (cs : List (SymId × Core)). bound_names cs) c.as_slice-bound-in-StobjLet.ensures)) (stobj_let_producer c.args.heap.now c.args.at c.args.core.now _ _ _ _ _ c.in-StobjLet.is c.get-made.ensures c.requires.fits)))

pub build_in-build_under-requires-in-StobjLet : goal.build_in-build_under-requires-in-StobjLet
build_in-build_under-requires-in-StobjLet t c =
    let below = stobj_let_consumer_below c.args.heap.now c.args.core.now _ _ _ _ _ c.in-StobjLet.is c.get-used.ensures in
    (omega (arith, c.decreases, below), (c.in_ok-made-in-StobjLet.ensures.words, fits_under c.args.heap.now c.args.at _ _ _ (ap numbers c.as_slice-vars.ensures) (stobj_let_consumer c.args.heap.now c.args.at c.args.core.now _ _ _ _ _ c.in-StobjLet.is c.get-used.ensures c.requires.fits)))

pub build_in-build_inside-requires-in-WithLocal : goal.build_in-build_inside-requires-in-WithLocal
build_in-build_inside-requires-in-WithLocal t c =
    let below = with_local_producer_below c.args.heap.now c.args.core.now _ _ _ _ _ c.in-WithLocal.is c.get-made-in-WithLocal.ensures in
    (omega (arith, c.decreases, below), (c.requires.words, with_local_producer c.args.heap.now c.args.at c.args.core.now _ _ _ _ _ c.in-WithLocal.is c.get-made-in-WithLocal.ensures c.requires.fits))

pub build_in-build_under-requires-in-WithLocal : goal.build_in-build_under-requires-in-WithLocal
build_in-build_under-requires-in-WithLocal t c =
    let below = with_local_body_below c.args.heap.now c.args.core.now _ _ _ _ _ c.in-WithLocal.is c.get-body-in-WithLocal.ensures in
    (omega (arith, c.decreases, below), (c.in_ok-made-in-WithLocal.ensures.words, fits_under c.args.heap.now c.args.at _ _ _ (ap numbers c.as_slice-names-in-WithLocal.ensures) (with_local_body c.args.heap.now c.args.at c.args.core.now _ _ _ _ _ c.in-WithLocal.is c.get-body-in-WithLocal.ensures c.requires.fits)))

pub build_in-build_in-requires-in-MustBeEqual : goal.build_in-build_in-requires-in-MustBeEqual
build_in-build_in-requires-in-MustBeEqual t c =
    let below = must_be_equal_logic_below c.args.heap.now c.args.core.now _ _ _ c.in-MustBeEqual.is c.get-in-MustBeEqual.ensures in
    (omega (arith, c.decreases, below), (c.requires.words, must_be_equal_logic c.args.heap.now c.args.at c.args.core.now _ _ _ c.in-MustBeEqual.is c.get-in-MustBeEqual.ensures c.requires.fits))

pub build_in-build_parts-requires-in-Call : goal.build_in-build_parts-requires-in-Call
build_in-build_parts-requires-in-Call t c =
    let below = call_actuals_below c.args.heap.now c.args.core.now _ _ _ c.in-Call.is c.as_slice-actuals.ensures in
    (omega (arith, c.decreases, below), (c.requires.words, call_actuals c.args.heap.now c.args.at c.args.core.now _ _ _ c.in-Call.is c.as_slice-actuals.ensures c.requires.fits))

pub build_under-build_in-requires : goal.build_under-build_in-requires
build_under-build_in-requires t c =
    (omega (arith, c.decreases), (c.requires.words, fits_behind c.args.heap.now c.args.at _ _ c.args.body.now c.in_ok-inner.ensures.slot c.requires.fits))

pub build_inside-build_in-requires : goal.build_inside-build_in-requires
build_inside-build_in-requires t c =
    (omega (arith, c.decreases), (c.requires.words, fits_behind c.args.heap.now c.args.at _ _ c.args.body.now c.in_ok-inner.ensures.slot c.requires.fits))

pub build_parts-build_in-requires : goal.build_parts-build_in-requires
build_parts-build_in-requires t c =
    let below = part_below c.args.heap.now c.args.parts.now c.loop-i.i c.index-parts-i.result c.loop-i-test.true c.index-parts-i.is in
    (omega (arith, c.decreases, below), (c.loop-i.invariant.words, part_fits c.args.heap.now c.args.at c.args.parts.now c.loop-i.i _ _ c.requires.fits c.loop-i-test.true c.index-parts-i.is c.slot_behind-slot.ensures))

pub build_bound-build_in-requires : goal.build_bound-build_in-requires
build_bound-build_in-requires t c =
    let below = binding_below c.args.heap.now c.args.bindings.now c.loop-i.i c.index-bindings-i.result c.loop-i-test.true c.index-bindings-i.is in
    (omega (arith, c.decreases, below), (c.loop-i.invariant.words, bound_fits c.args.heap.now c.args.at c.args.bindings.now c.loop-i.i _ c.index-bindings-i.result c.requires.fits c.loop-i-test.true c.index-bindings-i.is c.slot_behind-slot.ensures))

pub build_in-returns-in_err-t-in-Var-clause-known : goal.build_in-returns-in_err-t-in-Var-clause-known
build_in-returns-in_err-t-in-Var-clause-known t c =
    λ n b k o. c.in_err-t-in-Var.ensures.known n (c.variable_operand-variable.ensures.known n b) o

pub build_in-returns-in_ok-t-in-Var-clause-known : goal.build_in-returns-in_ok-t-in-Var-clause-known
build_in-returns-in_ok-t-in-Var-clause-known t c =
    λ n b k o. c.in_ok-t-in-Var.ensures.known n (c.variable_operand-variable.ensures.known n b) o

pub build_in-returns-in_err-t-in-Const-clause-known : goal.build_in-returns-in_err-t-in-Const-clause-known
build_in-returns-in_err-t-in-Const-clause-known t c =
    λ n b k o. c.in_err-t-in-Const.ensures.known n (known_const n c.args.heap.now c.args.core.now _ c.in-Const.is k) o

pub build_in-returns-in_ok-t-in-Const-clause-known : goal.build_in-returns-in_ok-t-in-Const-clause-known
build_in-returns-in_ok-t-in-Const-clause-known t c =
    λ n b k o. c.in_ok-t-in-Const.ensures.known n (known_const n c.args.heap.now c.args.core.now _ c.in-Const.is k) o

pub build_in-returns-in_err-test-in-If-clause-known : goal.build_in-returns-in_err-test-in-If-clause-known
build_in-returns-in_err-test-in-If-clause-known t c =
    λ n b k o. c.in_err-test-in-If.ensures.known n b (known_test n c.args.heap.now c.args.core.now _ _ _ _ c.in-If.is c.get.ensures k) o

pub build_in-returns-in_err-then-in-If-clause-known : goal.build_in-returns-in_err-then-in-If-clause-known
build_in-returns-in_err-then-in-If-clause-known t c =
    λ n b k o. c.in_err-then-in-If.ensures.known n b (known_then n c.args.heap.now c.args.core.now _ _ _ _ c.in-If.is c.get-in-If.ensures k) (c.in_ok-test-in-If.ensures.known n b (known_test n c.args.heap.now c.args.core.now _ _ _ _ c.in-If.is c.get.ensures k) o)

pub build_in-returns-in_err-other-in-If-clause-known : goal.build_in-returns-in_err-other-in-If-clause-known
build_in-returns-in_err-other-in-If-clause-known t c =
    λ n b k o. c.in_err-other-in-If.ensures.known n b (known_other n c.args.heap.now c.args.core.now _ _ _ _ c.in-If.is c.get-in-If-2.ensures k) (c.in_ok-then-in-If.ensures.known n b (known_then n c.args.heap.now c.args.core.now _ _ _ _ c.in-If.is c.get-in-If.ensures k) (c.in_ok-test-in-If.ensures.known n b (known_test n c.args.heap.now c.args.core.now _ _ _ _ c.in-If.is c.get.ensures k) o))

pub build_in-returns-in_err-t-in-If-clause-known : goal.build_in-returns-in_err-t-in-If-clause-known
build_in-returns-in_err-t-in-If-clause-known t c =
    λ n b k o. c.in_err-t-in-If.ensures.known n (c.in_ok-other-in-If.ensures.known n b (known_other n c.args.heap.now c.args.core.now _ _ _ _ c.in-If.is c.get-in-If-2.ensures k) (c.in_ok-then-in-If.ensures.known n b (known_then n c.args.heap.now c.args.core.now _ _ _ _ c.in-If.is c.get-in-If.ensures k) (c.in_ok-test-in-If.ensures.known n b (known_test n c.args.heap.now c.args.core.now _ _ _ _ c.in-If.is c.get.ensures k) o)))

pub build_in-returns-in_ok-t-in-If-clause-known : goal.build_in-returns-in_ok-t-in-If-clause-known
build_in-returns-in_ok-t-in-If-clause-known t c =
    λ n b k o. c.in_ok-t-in-If.ensures.known n (c.in_ok-other-in-If.ensures.known n b (known_other n c.args.heap.now c.args.core.now _ _ _ _ c.in-If.is c.get-in-If-2.ensures k) (c.in_ok-then-in-If.ensures.known n b (known_then n c.args.heap.now c.args.core.now _ _ _ _ c.in-If.is c.get-in-If.ensures k) (c.in_ok-test-in-If.ensures.known n b (known_test n c.args.heap.now c.args.core.now _ _ _ _ c.in-If.is c.get.ensures k) o)))

pub build_in-returns-in_err-parts-in-Let-clause-known : goal.build_in-returns-in_err-parts-in-Let-clause-known
build_in-returns-in_err-parts-in-Let-clause-known t c =
    λ n b k o. c.in_err-parts-in-Let.ensures.known n b (known_let_bound n c.args.heap.now c.args.core.now _ _ _ c.in-Let.is c.as_slice-bound.ensures k) o

pub build_in-returns-in_err-names-in-Let-clause-known : goal.build_in-returns-in_err-names-in-Let-clause-known
build_in-returns-in_err-names-in-Let-clause-known t c =
    λ n b k o. c.in_ok-parts-in-Let.ensures.known n b (known_let_bound n c.args.heap.now c.args.core.now _ _ _ c.in-Let.is c.as_slice-bound.ensures k) o

pub build_in-returns-in_err-body-in-Let-clause-known : goal.build_in-returns-in_err-body-in-Let-clause-known
build_in-returns-in_err-body-in-Let-clause-known t c =
    λ n b k o. c.in_err-body-in-Let.ensures.known n b (known_let_body n c.args.heap.now c.args.core.now _ _ _ c.in-Let.is c.get-body.ensures k) (c.in_ok-parts-in-Let.ensures.known n b (known_let_bound n c.args.heap.now c.args.core.now _ _ _ c.in-Let.is c.as_slice-bound.ensures k) o)

pub build_in-returns-in_err-t-in-Let-clause-known : goal.build_in-returns-in_err-t-in-Let-clause-known
build_in-returns-in_err-t-in-Let-clause-known t c =
    λ n b k o. c.in_err-t-in-Let.ensures.known n (c.in_ok-body-in-Let.ensures.known n b (known_let_body n c.args.heap.now c.args.core.now _ _ _ c.in-Let.is c.get-body.ensures k) (c.in_ok-parts-in-Let.ensures.known n b (known_let_bound n c.args.heap.now c.args.core.now _ _ _ c.in-Let.is c.as_slice-bound.ensures k) o))

pub build_in-returns-in_ok-t-in-Let-clause-known : goal.build_in-returns-in_ok-t-in-Let-clause-known
build_in-returns-in_ok-t-in-Let-clause-known t c =
    λ n b k o. c.in_ok-t-in-Let.ensures.known n (c.in_ok-body-in-Let.ensures.known n b (known_let_body n c.args.heap.now c.args.core.now _ _ _ c.in-Let.is c.get-body.ensures k) (c.in_ok-parts-in-Let.ensures.known n b (known_let_bound n c.args.heap.now c.args.core.now _ _ _ c.in-Let.is c.as_slice-bound.ensures k) o))

pub build_in-returns-in_err-parts-in-Mv-clause-known : goal.build_in-returns-in_err-parts-in-Mv-clause-known
build_in-returns-in_err-parts-in-Mv-clause-known t c =
    λ n b k o. c.in_err-parts-in-Mv.ensures.known n b (known_mv_parts n c.args.heap.now c.args.core.now _ _ c.in-Mv.is c.as_slice-parts.ensures k) o

pub build_in-returns-in_err-t-in-Mv-clause-known : goal.build_in-returns-in_err-t-in-Mv-clause-known
build_in-returns-in_err-t-in-Mv-clause-known t c =
    λ n b k o. c.in_err-t-in-Mv.ensures.known n (c.in_ok-parts-in-Mv.ensures.known n b (known_mv_parts n c.args.heap.now c.args.core.now _ _ c.in-Mv.is c.as_slice-parts.ensures k) o)

pub build_in-returns-in_ok-t-in-Mv-clause-known : goal.build_in-returns-in_ok-t-in-Mv-clause-known
build_in-returns-in_ok-t-in-Mv-clause-known t c =
    λ n b k o. c.in_ok-t-in-Mv.ensures.known n (c.in_ok-parts-in-Mv.ensures.known n b (known_mv_parts n c.args.heap.now c.args.core.now _ _ c.in-Mv.is c.as_slice-parts.ensures k) o)

pub build_in-returns-in_err-bound-in-MvLet-clause-known : goal.build_in-returns-in_err-bound-in-MvLet-clause-known
build_in-returns-in_err-bound-in-MvLet-clause-known t c =
    λ n b k o. c.in_err-bound-in-MvLet.ensures.known n b (known_mv_let_bound n c.args.heap.now c.args.core.now _ _ _ _ c.in-MvLet.is c.get-in-MvLet.ensures k) o

pub build_in-returns-in_err-body-in-MvLet-clause-known : goal.build_in-returns-in_err-body-in-MvLet-clause-known
build_in-returns-in_err-body-in-MvLet-clause-known t c =
    λ n b k o. c.in_err-body-in-MvLet.ensures.known n b (known_mv_let_body n c.args.heap.now c.args.core.now _ _ _ _ c.in-MvLet.is c.get-body-in-MvLet.ensures k) (c.in_ok-bound-in-MvLet.ensures.known n b (known_mv_let_bound n c.args.heap.now c.args.core.now _ _ _ _ c.in-MvLet.is c.get-in-MvLet.ensures k) o)

pub build_in-returns-in_err-t-in-MvLet-clause-known : goal.build_in-returns-in_err-t-in-MvLet-clause-known
build_in-returns-in_err-t-in-MvLet-clause-known t c =
    λ n b k o. c.in_err-t-in-MvLet.ensures.known n (c.in_ok-body-in-MvLet.ensures.known n b (known_mv_let_body n c.args.heap.now c.args.core.now _ _ _ _ c.in-MvLet.is c.get-body-in-MvLet.ensures k) (c.in_ok-bound-in-MvLet.ensures.known n b (known_mv_let_bound n c.args.heap.now c.args.core.now _ _ _ _ c.in-MvLet.is c.get-in-MvLet.ensures k) o))

pub build_in-returns-in_ok-t-in-MvLet-clause-known : goal.build_in-returns-in_ok-t-in-MvLet-clause-known
build_in-returns-in_ok-t-in-MvLet-clause-known t c =
    λ n b k o. c.in_ok-t-in-MvLet.ensures.known n (c.in_ok-body-in-MvLet.ensures.known n b (known_mv_let_body n c.args.heap.now c.args.core.now _ _ _ _ c.in-MvLet.is c.get-body-in-MvLet.ensures k) (c.in_ok-bound-in-MvLet.ensures.known n b (known_mv_let_bound n c.args.heap.now c.args.core.now _ _ _ _ c.in-MvLet.is c.get-in-MvLet.ensures k) o))

pub build_in-returns-in_err-made-in-StobjLet-clause-known : goal.build_in-returns-in_err-made-in-StobjLet-clause-known
build_in-returns-in_err-made-in-StobjLet-clause-known t c =
    λ n b k o. c.in_err-made-in-StobjLet.ensures.known n b (known_lent_producer n c.args.heap.now c.args.core.now _ _ _ _ _ c.in-StobjLet.is c.get-made.ensures k) o

pub build_in-returns-in_err-used-in-StobjLet-clause-known : goal.build_in-returns-in_err-used-in-StobjLet-clause-known
build_in-returns-in_err-used-in-StobjLet-clause-known t c =
    λ n b k o. c.in_err-used-in-StobjLet.ensures.known n b (known_consumer n c.args.heap.now c.args.core.now _ _ _ _ _ c.in-StobjLet.is c.get-used.ensures k) (c.in_ok-made-in-StobjLet.ensures.known n b (known_lent_producer n c.args.heap.now c.args.core.now _ _ _ _ _ c.in-StobjLet.is c.get-made.ensures k) o)

pub build_in-returns-in_err-t-in-StobjLet-clause-known : goal.build_in-returns-in_err-t-in-StobjLet-clause-known
build_in-returns-in_err-t-in-StobjLet-clause-known t c =
    λ n b k o. c.in_err-t-in-StobjLet.ensures.known n (c.in_ok-lent-in-StobjLet.ensures.known n b (known_lent n c.args.heap.now c.args.core.now _ _ _ _ _ c.in-StobjLet.is c.as_slice-bound-in-StobjLet.ensures k)) (c.in_ok-used-in-StobjLet.ensures.known n b (known_consumer n c.args.heap.now c.args.core.now _ _ _ _ _ c.in-StobjLet.is c.get-used.ensures k) (c.in_ok-made-in-StobjLet.ensures.known n b (known_lent_producer n c.args.heap.now c.args.core.now _ _ _ _ _ c.in-StobjLet.is c.get-made.ensures k) o))

pub build_in-returns-in_ok-t-in-StobjLet-clause-known : goal.build_in-returns-in_ok-t-in-StobjLet-clause-known
build_in-returns-in_ok-t-in-StobjLet-clause-known t c =
    λ n b k o. c.in_ok-t-in-StobjLet.ensures.known n (c.in_ok-lent-in-StobjLet.ensures.known n b (known_lent n c.args.heap.now c.args.core.now _ _ _ _ _ c.in-StobjLet.is c.as_slice-bound-in-StobjLet.ensures k)) (c.in_ok-used-in-StobjLet.ensures.known n b (known_consumer n c.args.heap.now c.args.core.now _ _ _ _ _ c.in-StobjLet.is c.get-used.ensures k) (c.in_ok-made-in-StobjLet.ensures.known n b (known_lent_producer n c.args.heap.now c.args.core.now _ _ _ _ _ c.in-StobjLet.is c.get-made.ensures k) o))

pub build_in-returns-in_err-made-in-WithLocal-clause-known : goal.build_in-returns-in_err-made-in-WithLocal-clause-known
build_in-returns-in_err-made-in-WithLocal-clause-known t c =
    λ n b k o. c.in_err-made-in-WithLocal.ensures.known n b (known_local_producer n c.args.heap.now c.args.core.now _ _ _ _ _ c.in-WithLocal.is c.get-made-in-WithLocal.ensures k) o

pub build_in-returns-in_err-body-in-WithLocal-clause-known : goal.build_in-returns-in_err-body-in-WithLocal-clause-known
build_in-returns-in_err-body-in-WithLocal-clause-known t c =
    λ n b k o. c.in_err-body-in-WithLocal.ensures.known n b (known_local_body n c.args.heap.now c.args.core.now _ _ _ _ _ c.in-WithLocal.is c.get-body-in-WithLocal.ensures k) (c.in_ok-made-in-WithLocal.ensures.known n b (known_local_producer n c.args.heap.now c.args.core.now _ _ _ _ _ c.in-WithLocal.is c.get-made-in-WithLocal.ensures k) o)

pub build_in-returns-in_err-t-in-WithLocal-clause-known : goal.build_in-returns-in_err-t-in-WithLocal-clause-known
build_in-returns-in_err-t-in-WithLocal-clause-known t c =
    λ n b k o. c.in_err-t-in-WithLocal.ensures.known n (c.in_ok-body-in-WithLocal.ensures.known n b (known_local_body n c.args.heap.now c.args.core.now _ _ _ _ _ c.in-WithLocal.is c.get-body-in-WithLocal.ensures k) (c.in_ok-made-in-WithLocal.ensures.known n b (known_local_producer n c.args.heap.now c.args.core.now _ _ _ _ _ c.in-WithLocal.is c.get-made-in-WithLocal.ensures k) o))

pub build_in-returns-in_ok-t-in-WithLocal-clause-known : goal.build_in-returns-in_ok-t-in-WithLocal-clause-known
build_in-returns-in_ok-t-in-WithLocal-clause-known t c =
    λ n b k o. c.in_ok-t-in-WithLocal.ensures.known n (c.in_ok-body-in-WithLocal.ensures.known n b (known_local_body n c.args.heap.now c.args.core.now _ _ _ _ _ c.in-WithLocal.is c.get-body-in-WithLocal.ensures k) (c.in_ok-made-in-WithLocal.ensures.known n b (known_local_producer n c.args.heap.now c.args.core.now _ _ _ _ _ c.in-WithLocal.is c.get-made-in-WithLocal.ensures k) o))

pub build_in-returns-in_err-logic-in-MustBeEqual-clause-known : goal.build_in-returns-in_err-logic-in-MustBeEqual-clause-known
build_in-returns-in_err-logic-in-MustBeEqual-clause-known t c =
    λ n b k o. c.in_err-logic-in-MustBeEqual.ensures.known n b (known_logic n c.args.heap.now c.args.core.now _ _ _ c.in-MustBeEqual.is c.get-in-MustBeEqual.ensures k) o

pub build_in-returns-in_err-t-in-MustBeEqual-clause-known : goal.build_in-returns-in_err-t-in-MustBeEqual-clause-known
build_in-returns-in_err-t-in-MustBeEqual-clause-known t c =
    λ n b k o. c.in_err-t-in-MustBeEqual.ensures.known n (c.in_ok-logic-in-MustBeEqual.ensures.known n b (known_logic n c.args.heap.now c.args.core.now _ _ _ c.in-MustBeEqual.is c.get-in-MustBeEqual.ensures k) o)

pub build_in-returns-in_ok-t-in-MustBeEqual-clause-known : goal.build_in-returns-in_ok-t-in-MustBeEqual-clause-known
build_in-returns-in_ok-t-in-MustBeEqual-clause-known t c =
    λ n b k o. c.in_ok-t-in-MustBeEqual.ensures.known n (c.in_ok-logic-in-MustBeEqual.ensures.known n b (known_logic n c.args.heap.now c.args.core.now _ _ _ c.in-MustBeEqual.is c.get-in-MustBeEqual.ensures k) o)

pub build_in-returns-in_err-actuals-in-Call-clause-known : goal.build_in-returns-in_err-actuals-in-Call-clause-known
build_in-returns-in_err-actuals-in-Call-clause-known t c =
    λ n b k o. c.in_err-actuals-in-Call.ensures.known n b (known_actuals n c.args.heap.now c.args.core.now _ _ _ c.in-Call.is c.as_slice-actuals.ensures k) o

pub build_in-returns-in_err-t-in-Call-clause-known : goal.build_in-returns-in_err-t-in-Call-clause-known
build_in-returns-in_err-t-in-Call-clause-known t c =
    λ n b k o. c.in_err-t-in-Call.ensures.known n (c.in_ok-actuals-in-Call.ensures.known n b (known_actuals n c.args.heap.now c.args.core.now _ _ _ c.in-Call.is c.as_slice-actuals.ensures k) o)

pub build_in-returns-in_ok-t-in-Call-clause-known : goal.build_in-returns-in_ok-t-in-Call-clause-known
build_in-returns-in_ok-t-in-Call-clause-known t c =
    λ n b k o. c.in_ok-t-in-Call.ensures.known n (c.in_ok-actuals-in-Call.ensures.known n b (known_actuals n c.args.heap.now c.args.core.now _ _ _ c.in-Call.is c.as_slice-actuals.ensures k) o)

pub build_in-returns-in_err-lent-in-StobjLet-clause-known : goal.build_in-returns-in_err-lent-in-StobjLet-clause-known
build_in-returns-in_err-lent-in-StobjLet-clause-known t c =
    λ n b k o. o

pub build_in-returns-in_err-names-in-StobjLet-clause-known : goal.build_in-returns-in_err-names-in-StobjLet-clause-known
build_in-returns-in_err-names-in-StobjLet-clause-known t c =
    λ n b k o. o

pub build_under-returns-in_err-inner-clause-known : goal.build_under-returns-in_err-inner-clause-known
build_under-returns-in_err-inner-clause-known t c =
    λ n b k o. o

pub build_under-returns-in_err-t-clause-known : goal.build_under-returns-in_err-t-clause-known
build_under-returns-in_err-t-clause-known t c =
    c.in_err-t.ensures.known

pub build_under-returns-clause-known : goal.build_under-returns-clause-known
build_under-returns-clause-known t c =
    c.in_ok-t.ensures.known

pub build_inside-returns-in_err-inner-clause-known : goal.build_inside-returns-in_err-inner-clause-known
build_inside-returns-in_err-inner-clause-known t c =
    λ n b k o. o

pub build_inside-returns-in_err-t-clause-known : goal.build_inside-returns-in_err-t-clause-known
build_inside-returns-in_err-t-clause-known t c =
    c.in_err-t.ensures.known

pub build_inside-returns-clause-known : goal.build_inside-returns-clause-known
build_inside-returns-clause-known t c =
    c.in_ok-t.ensures.known

pub build_parts-returns-in_err-t-clause-known : goal.build_parts-returns-in_err-t-clause-known
build_parts-returns-in_err-t-clause-known t c =
    λ n b k o. c.in_err-t.ensures.known n b (part_known n c.args.heap.now c.args.parts.now c.loop-i.i _ c.index-parts-i.result c.loop-i-test.true c.index-parts-i.is k) (c.loop-i.invariant.known n b k o)

pub build_parts-returns-in_err-push-in-Some-clause-known : goal.build_parts-returns-in_err-push-in-Some-clause-known
build_parts-returns-in_err-push-in-Some-clause-known t c =
    λ n b k o. c.in_ok-t.ensures.known n b (part_known n c.args.heap.now c.args.parts.now c.loop-i.i _ c.index-parts-i.result c.loop-i-test.true c.index-parts-i.is k) (c.loop-i.invariant.known n b k o)

pub build_parts-returns-in-None-clause-known : goal.build_parts-returns-in-None-clause-known
build_parts-returns-in-None-clause-known t c =
    λ n b k o. c.in_ok-t.ensures.known n b (part_known n c.args.heap.now c.args.parts.now c.loop-i.i _ c.index-parts-i.result c.loop-i-test.true c.index-parts-i.is k) (c.loop-i.invariant.known n b k o)

pub build_parts-returns-clause-known : goal.build_parts-returns-clause-known
build_parts-returns-clause-known t c =
    c.loop-i.invariant.known

pub build_bound-returns-in_err-t-clause-known : goal.build_bound-returns-in_err-t-clause-known
build_bound-returns-in_err-t-clause-known t c =
    λ n b k o. c.in_err-t.ensures.known n b (binding_known n c.args.heap.now c.args.bindings.now c.loop-i.i _ c.index-bindings-i.result c.loop-i-test.true c.index-bindings-i.is k) (c.loop-i.invariant.known n b k o)

pub build_bound-returns-in_err-push-in-Some-clause-known : goal.build_bound-returns-in_err-push-in-Some-clause-known
build_bound-returns-in_err-push-in-Some-clause-known t c =
    λ n b k o. c.in_ok-t.ensures.known n b (binding_known n c.args.heap.now c.args.bindings.now c.loop-i.i _ c.index-bindings-i.result c.loop-i-test.true c.index-bindings-i.is k) (c.loop-i.invariant.known n b k o)

pub build_bound-returns-in-None-clause-known : goal.build_bound-returns-in-None-clause-known
build_bound-returns-in-None-clause-known t c =
    λ n b k o. c.in_ok-t.ensures.known n b (binding_known n c.args.heap.now c.args.bindings.now c.loop-i.i _ c.index-bindings-i.result c.loop-i-test.true c.index-bindings-i.is k) (c.loop-i.invariant.known n b k o)

pub build_bound-returns-clause-known : goal.build_bound-returns-clause-known
build_bound-returns-clause-known t c =
    c.loop-i.invariant.known
