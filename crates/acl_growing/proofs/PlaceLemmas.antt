-- What is ready at a place.
use Rattle.std.specs.Prelude.{◌≡◌, ℕ, Option, Some, None, refl}
use Rattle.std.proofs.Common.{ap, sym, subst}
use Rattle.model_symbols.specs.Symbols.{Table}
use Rattle.model_terms.specs.Cores as cores
use Rattle.model_expansion.specs.Faults.{ExpandFault}
use Rattle.model_expansion.specs.Layers as layers
use Rattle.model_expansion.specs.Expansion.{Setting, Progress, Makes, Fails, ready, ready_found, ready_fault}
use Rattle.acl_heap.specs.Objects.{Objects, Extends}
use Rattle.acl_worlds.specs.Contents.{Content, WorldLies}
use Rattle.acl_expand.specs.Looks.{setting_at}
use Rattle.acl_expand.proofs.SettleLemmas.{setting_later}

module _ {h h' : Objects} (e : Extends h h') (w : Content) (t : Table) (steps depth : ℕ) (l : WorldLies h w) (left : ℕ) (c o : cores.Core) (p : Progress) (s : c ≡ o) where
  fault_there : (r : Option ExpandFault) → r ≡ ready_fault (setting_at h' w t steps depth) c left → ready_fault (setting_at h w t steps depth) c left ≡ r
  fault_there r k = sym (subst (λ (y : Setting). r ≡ ready_fault y c left) (setting_later e w t t steps depth l refl) k)

  pub leaf_stands : None ≡ ready_fault (setting_at h' w t steps depth) c left → ready (setting_at h w t steps depth) left o p ≡ Makes (layers.Leaf c) p
  leaf_stands k = subst (λ (d : cores.Core). ready (setting_at h w t steps depth) left d p ≡ Makes (layers.Leaf c) p) s (ap (λ r. ready_found (setting_at h w t steps depth) c r p) (fault_there None k))

  pub leaf_fails : (f : ExpandFault) → Some f ≡ ready_fault (setting_at h' w t steps depth) c left → ready (setting_at h w t steps depth) left o p ≡ Fails f p
  leaf_fails f k = subst (λ (d : cores.Core). ready (setting_at h w t steps depth) left d p ≡ Fails f p) s (ap (λ r. ready_found (setting_at h w t steps depth) c r p) (fault_there (Some f) k))
