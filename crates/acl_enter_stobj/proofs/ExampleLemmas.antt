-- A stobj without fields in a world without definitions.
use Rattle.std.specs.Prelude.{◌≡◌, ℕ, List, [], ◌∷◌, ◌++◌, map, nat_eq, refl}
use Rattle.std.specs.List.{IsDistinct}
use Rattle.std.proofs.Common.{ap, sym, subst, ◌∙◌}
use Rattle.model_terms.specs.Worlds.{World, HasDistinctNames, definition_name}
use Rattle.model_stobjs.specs.Entries.{stobj_entries}
use Rattle.acl_heap.specs.Objects.{Objects}
use Rattle.acl_terms.specs.declared.stobj.Descriptor.{Descriptor}
use Rattle.acl_terms.specs.Definitions.{seen_descriptor}
use Rattle.acl_worlds.specs.Contents.{Content, seen_world, primitives_world}
use Rattle.acl_enter_stobj.specs.Examples.{IsBare}

three : IsDistinct nat_eq (5 ∷ (6 ∷ (7 ∷ [])))
unfolding IsDistinct
three = ((refl, (refl, tt)), ((refl, tt), (tt, tt)))

pub bare_fresh : (h : Objects) (w : Content) (d : Descriptor) → w ≡ primitives_world [] → IsBare d → HasDistinctNames (seen_world h w ++ stobj_entries (seen_world h w) (seen_descriptor h d))
bare_fresh h w d e b =
    let names : map definition_name (seen_world h w ++ stobj_entries (seen_world h w) (seen_descriptor h d)) ≡ 5 ∷ (6 ∷ (7 ∷ [])) = rw (e, b.fields, b.name, b.recognizer, b.creator) refl in
    subst (λ ns. IsDistinct nat_eq ns) (sym names) three
