use Rattle.std.proofs.Common.{ap, ◌∙◌}
use Rattle.model_terms.specs.Scopes.{binding, without}
use Rattle.acl_terms.specs.Forms.{numbers, bound_names}
use Rattle.acl_terms.specs.Signatures.{seen_scope}
use Rattle.acl_worlds.specs.Contents.{seen_world}
use Rattle.acl_outputs.proofs.ScopeLemmas.{consumer_made}
use Rattle.acl_outputs.proofs.scopes.consumer_scope.Goals as goal

pub returns : goal.returns
returns c =
    consumer_made (seen_world c.args.heap.now c.args.world.now) (seen_scope c.args.scope.now) (bound_names c.args.bindings.now) (numbers c.args.vars.now) (seen_scope c.in_ok-inner.inner) (seen_scope c.bind.new.scope)
    (numbers c.in_ok-ordinary.ordinary)
    (c.in_ok-inner.ensures ∙ ap (λ ns. without ns (seen_scope c.args.scope.now)) (ap numbers c.as_slice.ensures ∙ c.in_ok-children.ensures))
    c.in_ok-ordinary.ensures
    (c.in_ok-bind.ensures.binds ∙ ap (λ ns. binding (seen_world c.args.heap.now c.args.world.now) (seen_scope c.in_ok-inner.inner) (numbers ns)) c.as_slice-2.ensures)
