-- Definitions of a world, and what is seen of forms.
use Rattle.std.specs.Prelude.{◌≡◌, ℕ, zero, suc, ◌<◌, ◌≤◌, List, [], ◌∷◌, length, map, max, Some, None, slice_get, option_map, option_and_then}
use Rattle.std.specs.List.{All, Contains}
use Rattle.std.proofs.Common.{sym, ap, ◌∙◌, subst, arith}
use Rattle.std.proofs.lemmas.Option.{get_or_from_slice_get}
use Rattle.std.proofs.lemmas.List.{length-map}
use Rattle.model_objects.specs.Object.{Object}
use Rattle.model_expansion.specs.Layers as layers
use Rattle.acl_heap.specs.Objects.{Objects}
use Rattle.acl_layers.specs.declared.layer.Part.{Part}
use Rattle.acl_layers.specs.declared.layer.Left.{Left}
use Rattle.acl_layers.specs.declared.rows.Row.{Row}
use Rattle.acl_layers.specs.declared.rows.Row.TheVariants as row
use Rattle.acl_layers.specs.Layers.{seen_part, seen_parts, IsWhole, RestFits}
use Rattle.acl_terms.specs.declared.definition.Definition.{Definition}
use Rattle.acl_terms.specs.Definitions.{seen_definition, definition_reach, definitions_reach, FitsTable}
use Rattle.model_terms.specs.Worlds as worlds
use Rattle.acl_worlds.specs.Contents.{Content, seen_world, number_of}
use Rattle.acl_worlds.proofs.WorldLemmas.{definition_at}

pub within_at : (ds : List Definition) (n : ℕ) (d : Definition) → slice_get ds n ≡ Some d → n < length ds
within_at [] n d e = cc
within_at (x ∷ ds) zero d e = omega arith
within_at (x ∷ ds) (suc n) d e = let l : n < length ds = within_at ds n d e in omega (arith, l)

pub lies_at : (ds : List Definition) (n : ℕ) (d : Definition) → slice_get ds n ≡ Some d → definition_reach d ≤ definitions_reach ds
lies_at [] n d e = cc
lies_at (x ∷ ds) zero d e = let q : x ≡ d = cc in subst (λ y. definition_reach y ≤ max (definition_reach x) (definitions_reach ds)) q (omega arith)
lies_at (x ∷ ds) (suc n) d e = let l : definition_reach d ≤ definitions_reach ds = lies_at ds n d e in omega (arith, l)

pub contains_at : (ds : List Definition) (n : ℕ) (d : Definition) → slice_get ds n ≡ Some d → Contains ds d
contains_at ds n d e = (n, within_at ds n d e, get_or_from_slice_get ds n d d e)

pub fits_at : (ds : List Definition) (n : ℕ) (d : Definition) → All FitsTable ds → slice_get ds n ≡ Some d → FitsTable d
fits_at ds n d a e = subst FitsTable (get_or_from_slice_get ds n d d e) (a n d (within_at ds n d e))

pub found_none : (h : Objects) (w : Content) (x : ℕ) → None ≡ number_of w x → None ≡ worlds.definition (seen_world h w) x
found_none h w x e = sym (definition_at h w x ∙ ap (λ o. option_map (seen_definition h) (option_and_then (slice_get w.definitions) o)) (sym e))

pub found_some : (h : Objects) (w : Content) (x n : ℕ) (d : Definition) → Some n ≡ number_of w x → slice_get w.definitions n ≡ Some d → Some (seen_definition h d) ≡ worlds.definition (seen_world h w) x
found_some h w x n d e g =
    sym (definition_at h w x ∙ (ap (λ o. option_map (seen_definition h) (option_and_then (slice_get w.definitions) o)) (sym e)
    ∙ ap (λ o. option_map (seen_definition h) o) g))

pub parts_count : (h : Objects) (ps : List Part) (os : List (Object ℕ)) → seen_parts h ps ≡ map layers.Form os → length ps ≡ length os
parts_count h ps os e = sym (length-map ps (seen_part h)) ∙ (ap (λ xs. length xs) e ∙ length-map os layers.Form)

-- a whole row asks nothing of what stands behind its head
pub whole_fits : (h : Objects) (m : Row) (l : Left) → IsWhole m → RestFits h m l
whole_fits h row.CondTest l w = absurd w
whole_fits h row.CondRest l w = absurd w
whole_fits h m l w = tt
