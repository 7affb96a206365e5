-- What stands between the marks of formals.
use Rattle.std.specs.Prelude.{◌≡◌, ℕ, List, [], ◌∷◌, ◌++◌, map, max, Bool, true, false, Option, Some, None, option_map, refl}
use Rattle.std.proofs.Common.{sym, ap, ◌∙◌, subst, append_assoc}
use Rattle.std.proofs.lemmas.List.{append-nil, map-append}
use Rattle.model_objects.specs.Object.{Object, Pair}
use Rattle.model_expansion.specs.Forms.{is, each}
use Rattle.model_stobjs.specs.Descriptors.{before_first, from_first}
use Rattle.model_events.specs.Macros as written
use Rattle.model_events.specs.Macros.{is_rest_mark, is_mark, written_optional, marked_section, rest_section}
use Rattle.acl_base.specs.declared.Word.{Word}
use Rattle.acl_heap.specs.Objects.{Objects}
use Rattle.acl_terms.specs.Forms.{most}
use Rattle.acl_layers.specs.Lists.{items_along}
use Rattle.acl_layers.proofs.BindingLemmas.{most_append}
use Rattle.acl_layers.proofs.EachLemmas.{after}
use Rattle.acl_macros.specs.declared.written.WrittenOptional.{WrittenOptional}
use Rattle.acl_macros.specs.Written.{seen_optional, seen_optionals, optional_reach, optionals_reach}
use Rattle.acl_macros.specs.Sections.{SeenRest}

pub optional_pushed : (h : Objects) (fs : List WrittenOptional) (f : WrittenOptional) → seen_optionals h (fs ++ f ∷ []) ≡ seen_optionals h fs ++ seen_optional h f ∷ []
optional_pushed h fs f = map-append (seen_optional h) fs (f ∷ [])

pub reach_pushed : (fs : List WrittenOptional) (f : WrittenOptional) → optionals_reach (fs ++ f ∷ []) ≡ max (optionals_reach fs) (optional_reach f)
reach_pushed fs f = ap most (map-append optional_reach fs (f ∷ [])) ∙ most_append (map optional_reach fs) (optional_reach f)

-- ---- words up to a mark

pub before_more : (done : List (Object ℕ)) (o a d : Object ℕ) → o ≡ Pair a d → is_mark a ≡ false → done ++ before_first is_mark (items_along o) ≡ (done ++ a ∷ []) ++ before_first is_mark (items_along d)
before_more done o a d e k = rw (e, k) (sym (append_assoc done (a ∷ []) (before_first is_mark (items_along d))))

pub before_mark : (done : List (Object ℕ)) (o a d : Object ℕ) → o ≡ Pair a d → is_mark a ≡ true → done ++ before_first is_mark (items_along o) ≡ done
before_mark done o a d e k = rw (e, k) (append-nil done)

pub before_end : (done os : List (Object ℕ)) → os ≡ [] → done ++ before_first is_mark os ≡ done
before_end done os e = rw e (append-nil done)

abbrev pub behind : Object ℕ → List (Object ℕ)
behind o = from_first is_mark (items_along o)

pub behind_more : (o a d : Object ℕ) → o ≡ Pair a d → is_mark a ≡ false → behind o ≡ behind d
behind_more o a d e k = rw (e, k) refl

pub behind_mark : (o a d : Object ℕ) → o ≡ Pair a d → is_mark a ≡ true → behind o ≡ items_along o
behind_mark o a d e k = rw (e, k) refl

pub behind_end : (o : Object ℕ) → items_along o ≡ [] → behind o ≡ items_along o
behind_end o e = rw e refl

-- ---- formals up to a mark

abbrev each_in : Object ℕ → Option (List written.WrittenOptional)
each_in o = each written_optional (before_first is_mark (items_along o))

pushed : (done : List written.WrittenOptional) (y : written.WrittenOptional) (more : Option (List written.WrittenOptional)) → after done (option_map (λ ys. y ∷ ys) more) ≡ after (done ++ y ∷ []) more
pushed done y None = refl
pushed done y (Some ys) = ap (λ xs. Some xs) (sym (append_assoc done (y ∷ []) ys))

pub each_more : (done : List written.WrittenOptional) (o a d : Object ℕ) (y : written.WrittenOptional) → o ≡ Pair a d → is_mark a ≡ false → written_optional a ≡ Some y → after done (each_in o) ≡ after (done ++ y ∷ []) (each_in d)
each_more done o a d y e k f = rw (e, k, f) (pushed done y (each_in d))

pub each_bad : (done : List written.WrittenOptional) (o a d : Object ℕ) → o ≡ Pair a d → is_mark a ≡ false → written_optional a ≡ None → after done (each_in o) ≡ None
each_bad done o a d e k f = rw (e, k, f) refl

pub each_mark : (done : List written.WrittenOptional) (o a d : Object ℕ) → o ≡ Pair a d → is_mark a ≡ true → after done (each_in o) ≡ Some done
each_mark done o a d e k = rw (e, k) (ap (λ xs. Some xs) (append-nil done))

pub each_end : (done : List written.WrittenOptional) (o : Object ℕ) → items_along o ≡ [] → after done (each_in o) ≡ Some done
each_end done o e = rw e (ap (λ xs. Some xs) (append-nil done))

pub start : (o : Option (List written.WrittenOptional)) → after [] o ≡ o
start None = refl
start (Some xs) = refl

-- ---- behind a mark

module _ (mark : ℕ) where
  pub no_mark : (o a d : Object ℕ) → o ≡ Pair a d → is mark a ≡ false → marked_section mark (items_along o) ≡ Some (None, items_along o)
  no_mark o a d e k = rw (e, k) refl

  pub mark_bad : (o a d : Object ℕ) → o ≡ Pair a d → is mark a ≡ true → each_in d ≡ None → marked_section mark (items_along o) ≡ None
  mark_bad o a d e k f = rw (e, k) (ap (option_map (λ fs. (Some fs, behind d))) f)

  pub mark_found : (o a d : Object ℕ) (fs : List written.WrittenOptional) (os : List (Object ℕ)) → o ≡ Pair a d → is mark a ≡ true → each_in d ≡ Some fs → behind d ≡ os
      → marked_section mark (items_along o) ≡ Some (Some fs, os)
  mark_found o a d fs os e k f g = rw (e, k) (ap (option_map (λ fs. (Some fs, behind d))) f ∙ ap (λ xs. Some (Some fs, xs)) g)

  pub mark_end : (o : Object ℕ) → items_along o ≡ [] → marked_section mark (items_along o) ≡ Some (None, items_along o)
  mark_end o e = rw e refl

-- ---- the rest

pub rest_wrong : (m o v d : Object ℕ) → is_rest_mark m ≡ true → o ≡ Pair v d → is_mark v ≡ true → rest_section (m ∷ items_along o) ≡ None
rest_wrong m o v d e f g = rw (e, f, g) refl

pub rest_found : (m o v d : Object ℕ) → is_rest_mark m ≡ true → o ≡ Pair v d → is_mark v ≡ false → rest_section (m ∷ items_along o) ≡ Some (Some v, items_along d)
rest_found m o v d e f g = rw (e, f, g) refl

pub rest_missing : (m : Object ℕ) (os : List (Object ℕ)) → is_rest_mark m ≡ true → os ≡ [] → rest_section (m ∷ os) ≡ None
rest_missing m os e f = rw (e, f) refl

pub rest_none : (o m d : Object ℕ) → o ≡ Pair m d → is_rest_mark m ≡ false → rest_section (items_along o) ≡ Some (None, items_along o)
rest_none o m d e f = rw (e, f) refl

pub rest_more : (h : Objects) (r : Option (Option Word × Word)) (o m d : Object ℕ) → o ≡ Pair m d → SeenRest h r (rest_section (m ∷ items_along d)) → SeenRest h r (rest_section (items_along o))
rest_more h r o m d e s = subst (λ x. SeenRest h r (rest_section (items_along x))) (sym e) s

pub rest_end : (o : Object ℕ) → items_along o ≡ [] → rest_section (items_along o) ≡ Some (None, items_along o)
rest_end o e = rw e refl
