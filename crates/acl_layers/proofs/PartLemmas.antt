-- Parts at the end of others.
use Rattle.std.specs.Prelude.{◌≡◌, ℕ, ◌<◌, List, [], ◌∷◌, ◌++◌, length, map, max}
use Rattle.std.proofs.Common.{sym, ap, ◌∙◌, append_assoc, arith}
use Rattle.std.proofs.lemmas.List.{append-nil, map-append}
use Rattle.model_objects.specs.Object.{Object}
use Rattle.model_expansion.specs.Layers as layers
use Rattle.acl_base.specs.declared.Word.{Word}
use Rattle.acl_heap.specs.Objects.{Objects, object_of, reach}
use Rattle.acl_terms.specs.Forms.{most}
use Rattle.acl_layers.specs.declared.layer.Part.{Part}
use Rattle.acl_layers.specs.declared.layer.Part.TheVariants as part
use Rattle.acl_layers.specs.Layers.{seen_part, seen_parts, part_reach, parts_reach, PartsFit}
use Rattle.acl_layers.proofs.BindingLemmas.{most_append}

pub form_pushed : (h : Objects) (ps : List Part) (w : Word) → seen_parts h (ps ++ part.Form w ∷ []) ≡ seen_parts h ps ++ layers.Form (object_of h w) ∷ []
form_pushed h ps w = map-append (seen_part h) ps (part.Form w ∷ [])

pub reach_pushed : (ps : List Part) (w : Word) → parts_reach (ps ++ part.Form w ∷ []) ≡ max (parts_reach ps) (reach w)
reach_pushed ps w = ap most (map-append part_reach ps (part.Form w ∷ [])) ∙ most_append (map part_reach ps) (reach w)

pub fits_pushed : (h : Objects) (ps : List Part) (w : Word) → PartsFit h ps → PartsFit h (ps ++ part.Form w ∷ [])
fits_pushed h [] w f = (tt, tt)
fits_pushed h (p ∷ ps) w f = (f.0, fits_pushed h ps w f.1)

pub forms_step : (done : List layers.Part) (o : Object ℕ) (os rest : List (Object ℕ)) → os ≡ o ∷ rest
    → done ++ map layers.Form os ≡ (done ++ layers.Form o ∷ []) ++ map layers.Form rest
forms_step done o os rest e = ap (λ xs. done ++ map layers.Form xs) e ∙ sym (append_assoc done (layers.Form o ∷ []) (map layers.Form rest))

pub forms_end : (done : List layers.Part) (os : List (Object ℕ)) → os ≡ [] → done ++ map layers.Form os ≡ done
forms_end done os e = ap (λ xs. done ++ map layers.Form xs) e ∙ append-nil done

pub shorter : (o : Object ℕ) (os rest : List (Object ℕ)) → os ≡ o ∷ rest → length rest < length os
shorter o os rest e = let l : length os ≡ length (o ∷ rest) = ap (λ xs. length xs) e in omega arith
