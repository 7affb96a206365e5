use Rattle.std.specs.Prelude.{◌≡◌, true}
use Rattle.std.proofs.Common.{rules, ◌∙◌}
use Rattle.model_prims.specs.Kinds.{by_number}
use Rattle.model_prims.specs.Lists.{is_true_list}
use Rattle.acl_heap.specs.Objects.{object_of}
use Rattle.acl_terms.specs.Definitions.{seen_formals}
use Rattle.acl_engine.specs.Outcomes.{seen_body}
use Rattle.acl_expand.specs.Looks.{setting_at}
use Rattle.acl_expand.specs.Progresses.{seen_progress}
use Rattle.acl_expand.proofs.EndLemmas.{with_values}
use Rattle.acl_expand.proofs.KnownLemmas.{actuals_whole}
use Rattle.acl_expand.proofs.entering.entered.Goals as goal

pub evaluated-requires-clause-values : goal.evaluated-requires-clause-values
evaluated-requires-clause-values g c =
    let values = rw c.in-Some.is at c.in_ok-macro_values.ensures.values in
    rw c.as_slice.ensures (actuals_whole c.args.syms.now c.args.heap.now (seen_formals c.args.heap.now c.args.definition.now.formals) (object_of c.args.heap.now c.args.d) _ c.requires.enough c.requires.defaults c.requires.known values.0 values.1)

pub returns-in-Err-clause-ends : goal.returns-in-Err-clause-ends
returns-in-Err-clause-ends g c = λ known.
    let list : is_true_list by_number (object_of c.args.heap.now c.args.d) ≡ true = search rules in
    let values = rw c.in-Some.is at c.in_ok-macro_values.ensures.values in
    let made = rw c.as_slice.ensures at c.in-Err.ensures.ends in
    with_values (setting_at c.args.heap.now c.args.world.now c.args.syms.now c.args.limits.steps c.args.limits.depth) c.args.head.0
    (seen_formals c.args.heap.now c.args.definition.now.formals) (seen_body c.args.heap.now c.args.definition.now) (seen_progress c.args.syms.now.symbols c.args.progress.now)
    (object_of c.args.heap.now c.args.d) _ list values.0 ∙ made known

pub returns-clause-ends : goal.returns-clause-ends
returns-clause-ends g c =
    let list : is_true_list by_number (object_of c.args.heap.now c.args.d) ≡ true = search rules in
    let values = rw c.in-Some.is at c.in_ok-macro_values.ensures.values in
    let made = rw c.as_slice.ensures at c.in-Ok.ensures.ends in (
      with_values (setting_at c.args.heap.now c.args.world.now c.args.syms.now c.args.limits.steps c.args.limits.depth) c.args.head.0
          (seen_formals c.args.heap.now c.args.definition.now.formals) (seen_body c.args.heap.now c.args.definition.now) (seen_progress c.args.syms.now.symbols c.args.progress.now)
          (object_of c.args.heap.now c.args.d) _ list values.0 ∙ made.0,
      made.1,
      made.2,
    )
