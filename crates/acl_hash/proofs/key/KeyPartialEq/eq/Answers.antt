use Rattle.std.proofs.Common.{ap, sym, ◌∙◌}
use Rattle.std.proofs.lemmas.Slice.Eq.{bytes_eq-Decides}
use Rattle.model_prims.proofs.Same.{same_objects}
use Rattle.acl_hash.specs.Bytes.{key_bytes, object_in}
use Rattle.acl_hash.proofs.key.KeyPartialEq.eq.Goals as goal

pub returns : goal.returns
returns c =
    let a = c.self.inside.bytes.items in
    let b = c.other.inside.bytes.items in
    let d = bytes_eq-Decides a b in
    same_objects c.args.self.now c.args.other.now c.eq.result (
      λ t. sym c.self.view_is ∙ (ap object_in (d.0 (sym c.eq.ensures ∙ t)) ∙ c.other.view_is),
      λ e. c.eq.ensures ∙ d.1 (sym c.self.invariant ∙ (ap key_bytes (c.self.view_is ∙ (e ∙ sym c.other.view_is)) ∙ c.other.invariant)),
    )
