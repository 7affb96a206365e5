-- What is ready, and one thing that a guard asks.
use Rattle.std.specs.Prelude.{◌≡◌, ℕ, zero, suc, Some, None}
use Rattle.std.proofs.Common.{ap, sym, ◌∙◌, arith}
use Rattle.model_terms.specs.Cores as cores
use Rattle.model_expansion.specs.Faults.{ExpandFault}
use Rattle.model_expansion.specs.Layers as layers
use Rattle.model_expansion.specs.Expansion.{Setting, Progress, Makes, Fails, grown, ready_fault, ready_found}
use Rattle.acl_growing.proofs.ReadyLemmas.{no_room}
use Rattle.acl_growing.proofs.GrowLemmas.{grown_end, grown_fails, grown_leaf}

none_some : {f : ExpandFault} → None ≡ Some f → ⊥
none_some e = cc

some_is : {f g : ExpandFault} → Some f ≡ Some g → f ≡ g
some_is e = cc

module _ (x : Setting) where
  pub ready_stands : (left : ℕ) (f : cores.Core) (p : Progress) → None ≡ ready_fault x f left → grown x left (layers.Ready f) p ≡ Makes f p
  ready_stands zero f p e = absurd (none_some (e ∙ no_room x f))
  ready_stands (suc left) f p e = grown_leaf x (suc left) (layers.Ready f) p p f (omega arith) (ap (λ r. ready_found x f r p) (sym e))

  pub ready_fails : (left : ℕ) (f : cores.Core) (p : Progress) (e : ExpandFault) → Some e ≡ ready_fault x f left → grown x left (layers.Ready f) p ≡ Fails e p
  ready_fails zero f p e k = grown_end x (layers.Ready f) p ∙ ap (λ y. Fails y p) (sym (some_is (k ∙ no_room x f)))
  ready_fails (suc left) f p e k = grown_fails x (suc left) (layers.Ready f) p p e (omega arith) (ap (λ r. ready_found x f r p) (sym k))
