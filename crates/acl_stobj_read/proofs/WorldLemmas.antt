-- What is found in a world.
use Rattle.std.specs.Prelude.{◌≡◌, ℕ, zero, suc, ◌≤◌, List, [], ◌∷◌, map, max, Option, Some, None, slice_get, option_map, option_and_then, refl}
use Rattle.std.proofs.Common.{sym, ap, ◌∙◌, subst, arith}
use Rattle.model_objects.specs.Object.{Object}
use Rattle.model_terms.specs.Worlds as worlds
use Rattle.model_terms.specs.Accessors.{descriptor_in, descriptor_of}
use Rattle.model_stobjs.specs.Descriptors.{constant_in}
use Rattle.acl_heap.specs.Objects.{Objects}
use Rattle.acl_terms.specs.declared.definition.Definition.{Definition}
use Rattle.acl_terms.specs.Definitions.{seen_definition, definition_reach, definitions_reach}
use Rattle.acl_worlds.specs.Contents.{Content, seen_world, number_of}
use Rattle.acl_worlds.proofs.WorldLemmas.{definition_at}

pub lies_at : (ds : List Definition) (n : ℕ) (d : Definition) → slice_get ds n ≡ Some d → definition_reach d ≤ definitions_reach ds
lies_at [] n d e = cc
lies_at (x ∷ ds) zero d e = let q : x ≡ d = cc in subst (λ y. definition_reach y ≤ max (definition_reach x) (definitions_reach ds)) q (omega arith)
lies_at (x ∷ ds) (suc n) d e = let l : definition_reach d ≤ definitions_reach ds = lies_at ds n d e in omega (arith, l)

pub found_none : (h : Objects) (w : Content) (x : ℕ) → None ≡ number_of w x → worlds.definition (seen_world h w) x ≡ None
found_none h w x e = definition_at h w x ∙ ap (λ o. option_map (seen_definition h) (option_and_then (slice_get w.definitions) o)) (sym e)

pub found_some : (h : Objects) (w : Content) (x n : ℕ) (d : Definition) → Some n ≡ number_of w x → slice_get w.definitions n ≡ Some d → worlds.definition (seen_world h w) x ≡ Some (seen_definition h d)
found_some h w x n d e g =
    definition_at h w x ∙ (ap (λ o. option_map (seen_definition h) (option_and_then (slice_get w.definitions) o)) (sym e)
    ∙ ap (λ o. option_map (seen_definition h) o) g)

pub descriptor_none : (w : worlds.World) (x : ℕ) → worlds.definition w x ≡ None → descriptor_of w x ≡ None
descriptor_none w x e = rw e refl

pub descriptor_some : (w : worlds.World) (x : ℕ) (d : worlds.Definition) (o : Option worlds.Descriptor) → worlds.definition w x ≡ Some d → descriptor_in d ≡ o → descriptor_of w x ≡ o
descriptor_some w x d o e f = rw e f

pub constant_none : (w : worlds.World) (x : ℕ) → worlds.definition w x ≡ None → constant_in (worlds.definition w x) ≡ None
constant_none w x e = rw e refl

pub constant_some : (w : worlds.World) (x : ℕ) (d : worlds.Definition) (o : Option (Object ℕ)) → worlds.definition w x ≡ Some d → constant_in (Some d) ≡ o → constant_in (worlds.definition w x) ≡ o
constant_some w x d o e f = rw e f
