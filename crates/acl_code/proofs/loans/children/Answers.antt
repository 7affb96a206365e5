use Rattle.std.specs.Prelude.{length}
use Rattle.std.proofs.Common.{ap, ◌∙◌}
use Rattle.model_terms.specs.Cores.{reached}
use Rattle.model_slots.specs.Resolved.{child_in}
use Rattle.acl_base.specs.declared.SymId.{SymId}
use Rattle.acl_terms.specs.declared.form.Core.{Core}
use Rattle.acl_terms.specs.Forms.{numbers, seen_core}
use Rattle.acl_worlds.specs.Contents.{seen_world}
use Rattle.acl_code.specs.Environments.{seen_environment}
use Rattle.acl_code.proofs.ChildLemmas.{found_step}
use Rattle.acl_code.proofs.ConstantLemmas.{indices_push, binding_known}
use Rattle.acl_code.proofs.SizeLemmas.{children_push}
use Rattle.acl_code.proofs.loans.children.Goals as goal

pub loop-binding-preserved : goal.loop-binding-preserved
loop-binding-preserved c =
    let w = seen_world c.args.heap.now c.args.world.now in
    let env = seen_environment c.args.environment.now in
    let vars = numbers c.args.vars.now in
    let h = c.args.heap.now in
    let s = found_step w env vars h c.args.bindings.now c.loop-binding.binding-index c.loop-binding.found c.loop-binding.invariant.0 c.binding-item.result c.in-Some.child c.loop-binding-test.true
    (c.in-Some.ensures.is ∙ ap (λ (b : SymId × Core). child_in w env vars b.0.0 (reached (seen_core h b.1))) c.binding-item.is) in
    let p = children_push (length h) c.loop-binding.found c.in-Some.child c.loop-binding.invariant.1 c.in-Some.ensures.word in (
      rw c.in_ok-push-in-Some.ensures.ok s,
      rw c.in_ok-push-in-Some.ensures.ok p,
      λ n b k. rw c.in_ok-push-in-Some.ensures.ok (indices_push n h c.loop-binding.found c.in-Some.child (c.loop-binding.invariant.2 n b k)
          (c.in-Some.ensures.known n b (binding_known n h c.args.bindings.now c.loop-binding.binding-index c.binding-item.result c.binding-item.result c.loop-binding-test.true c.binding-item.is k))),
    )
