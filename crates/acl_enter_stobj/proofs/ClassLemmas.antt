-- The class of a new stobj.
use Rattle.std.specs.Prelude.{◌≡◌, ℕ, Option, Some, None, refl}
use Rattle.std.proofs.Common.{ap, sym, ◌∙◌}
use Rattle.model_terms.specs.Worlds.{World}
use Rattle.model_terms.specs.Classes.{class_of}
use Rattle.model_stobjs.specs.Entries.{class_for}
use Rattle.acl_base.specs.declared.SymId.{SymId}
use Rattle.acl_heap.specs.Objects.{Objects}
use Rattle.acl_terms.specs.declared.stobj.Descriptor.{Descriptor}
use Rattle.acl_terms.specs.Definitions.{seen_descriptor}
use Rattle.acl_terms.specs.Signatures.{seen_name}

module _ (w : World) (h : Objects) (d : Descriptor) where
  pub of_its_own : d.congruent_to ≡ None → d.name.0 ≡ class_for w (seen_descriptor h d)
  of_its_own e = rw e refl

  pub of_another : (old first : SymId) (found : Option SymId) → d.congruent_to ≡ Some old → found ≡ Some first → seen_name found ≡ class_of w old.0 → first.0 ≡ class_for w (seen_descriptor h d)
  of_another old first found e f g = let k : class_of w old.0 ≡ Some first.0 = sym g ∙ ap seen_name f in rw (e, k) refl

  pub of_none : (old : SymId) (found : Option SymId) → d.congruent_to ≡ Some old → found ≡ None → seen_name found ≡ class_of w old.0 → old.0 ≡ class_for w (seen_descriptor h d)
  of_none old found e f g = let k : class_of w old.0 ≡ None = sym g ∙ ap seen_name f in rw (e, k) refl
