-- Keys with their values, by the first of them.
use Rattle.std.specs.Prelude.{◌≡◌, ℕ, ◌+◌, List, [], ◌∷◌, ◌++◌, map, max, true, false, ◌||◌, ◌&&◌, nat_le, Option, Some, None, option_map, refl}
use Rattle.std.proofs.Common.{sym, ap, ◌∙◌, append_assoc, arith}
use Rattle.std.proofs.lemmas.Bool.Decides.{nat_tests}
use Rattle.std.proofs.lemmas.List.{append-nil, map-append}
use Rattle.model_objects.specs.Object.{Object, Pair}
use Rattle.model_symbols.specs.Symbols.{QualifiedName}
use Rattle.model_terms.specs.Worlds as worlds
use Rattle.model_expansion.specs.Expansion.{key_pairs, names_formal, is_known_key, key_count, actual_of_key, all_key_values, optional_values}
use Rattle.acl_base.specs.declared.Word.{Word}
use Rattle.acl_heap.specs.Objects.{Objects, object_of, reach}
use Rattle.acl_terms.specs.declared.definition.OptionalFormal.{OptionalFormal}
use Rattle.acl_terms.specs.Forms.{most}
use Rattle.acl_terms.specs.Definitions.{seen_optional}
use Rattle.acl_layers.specs.Lists.{items_along}
use Rattle.acl_layers.proofs.BindingLemmas.{most_append}
use Rattle.acl_layers.proofs.EachLemmas.{after}
use Rattle.acl_actuals.specs.Values.{pair_at, pairs_at, pairs_reach, optionals_at, all_known, all_once}

-- ---- pairs

pub pair_pushed : (h : Objects) (ps : List (Word × Word)) (p : Word × Word) → pairs_at h (ps ++ p ∷ []) ≡ pairs_at h ps ++ pair_at h p ∷ []
pair_pushed h ps p = map-append (pair_at h) ps (p ∷ [])

abbrev reach_in : Word × Word → ℕ
reach_in p = max (reach p.0) (reach p.1)

pub reach_pushed : (ps : List (Word × Word)) (p : Word × Word) → pairs_reach (ps ++ p ∷ []) ≡ max (pairs_reach ps) (max (reach p.0) (reach p.1))
reach_pushed ps p = ap most (map-append reach_in ps (p ∷ [])) ∙ most_append (map reach_in ps) (reach_in p)

joined : (done : List (Object ℕ × Object ℕ)) (p : Object ℕ × Object ℕ) (more : Option (List (Object ℕ × Object ℕ))) → after done (option_map (λ ps. p ∷ ps) more) ≡ after (done ++ p ∷ []) more
joined done p None = refl
joined done p (Some ps) = ap (λ xs. Some xs) (sym (append_assoc done (p ∷ []) ps))

pub pairs_more : (done : List (Object ℕ × Object ℕ)) (o a d v e : Object ℕ) → o ≡ Pair a d → d ≡ Pair v e → after done (key_pairs (items_along o)) ≡ after (done ++ (a, v) ∷ []) (key_pairs (items_along e))
pairs_more done o a d v e f g = rw (f, g) (joined done (a, v) (key_pairs (items_along e)))

pub pairs_odd : (done : List (Object ℕ × Object ℕ)) (o a d : Object ℕ) → o ≡ Pair a d → items_along d ≡ [] → after done (key_pairs (items_along o)) ≡ None
pairs_odd done o a d f g = rw (f, g) refl

pub pairs_end : (done : List (Object ℕ × Object ℕ)) (os : List (Object ℕ)) → os ≡ [] → after done (key_pairs os) ≡ Some done
pairs_end done os e = rw e (ap (λ xs. Some xs) (append-nil done))

pub start : (more : Option (List (Object ℕ × Object ℕ))) → after [] more ≡ more
start None = refl
start (Some ps) = refl

module _ (sy : List QualifiedName) (h : Objects) where
  -- ---- known keys

  pub known_step : (f : OptionalFormal) (rest others : List OptionalFormal) (key : Object ℕ) → rest ≡ f ∷ others
      → is_known_key sy (optionals_at h rest) key ≡ (names_formal sy key (seen_optional h f) || is_known_key sy (optionals_at h others) key)
  known_step f rest others key e = rw e refl

  pub known_end : (rest : List OptionalFormal) (key : Object ℕ) → rest ≡ [] → is_known_key sy (optionals_at h rest) key ≡ false
  known_end rest key e = rw e refl

  pub all_known_step : (fs : List worlds.OptionalFormal) (p : Word × Word) (rest others : List (Word × Word)) → rest ≡ p ∷ others
      → all_known sy fs (pairs_at h rest) ≡ (is_known_key sy fs (object_of h p.0) && all_known sy fs (pairs_at h others))
  all_known_step fs p rest others e = rw e refl

  pub all_known_end : (fs : List worlds.OptionalFormal) (rest : List (Word × Word)) → rest ≡ [] → all_known sy fs (pairs_at h rest) ≡ true
  all_known_end fs rest e = rw e refl

  -- ---- keys that stand twice

  pub count_other : (f : worlds.OptionalFormal) (p : Word × Word) (rest others : List (Word × Word)) → rest ≡ p ∷ others → names_formal sy (object_of h p.0) f ≡ false
      → key_count sy f (pairs_at h rest) ≡ key_count sy f (pairs_at h others)
  count_other f p rest others e g = rw (e, g) (omega arith)

  pub count_first : (f : worlds.OptionalFormal) (p : Word × Word) (rest others : List (Word × Word)) → rest ≡ p ∷ others → names_formal sy (object_of h p.0) f ≡ true
      → key_count sy f (pairs_at h rest) ≡ key_count sy f (pairs_at h others) + 1
  count_first f p rest others e g = rw (e, g) refl

  pub count_second : (n k : ℕ) → n ≡ 1 + (k + 1) → nat_le n 1 ≡ false
  count_second n k e = grind (arith, nat_tests)

  pub count_end : (f : worlds.OptionalFormal) (rest : List (Word × Word)) → rest ≡ [] → key_count sy f (pairs_at h rest) ≡ 0
  count_end f rest e = rw e refl

  pub all_once_step : (f : OptionalFormal) (rest others : List OptionalFormal) (ps : List (Object ℕ × Object ℕ)) → rest ≡ f ∷ others
      → all_once sy (optionals_at h rest) ps ≡ (nat_le (key_count sy (seen_optional h f) ps) 1 && all_once sy (optionals_at h others) ps)
  all_once_step f rest others ps e = rw e refl

  pub all_once_end : (rest : List OptionalFormal) (ps : List (Object ℕ × Object ℕ)) → rest ≡ [] → all_once sy (optionals_at h rest) ps ≡ true
  all_once_end rest ps e = rw e refl

  -- ---- values of keys

  pub actual_found : (f : worlds.OptionalFormal) (p : Word × Word) (rest others : List (Word × Word)) → rest ≡ p ∷ others → names_formal sy (object_of h p.0) f ≡ true
      → actual_of_key sy (pairs_at h rest) f ≡ Some (object_of h p.1)
  actual_found f p rest others e g = rw (e, g) refl

  pub actual_step : (f : worlds.OptionalFormal) (p : Word × Word) (rest others : List (Word × Word)) → rest ≡ p ∷ others → names_formal sy (object_of h p.0) f ≡ false
      → actual_of_key sy (pairs_at h rest) f ≡ actual_of_key sy (pairs_at h others) f
  actual_step f p rest others e g = rw (e, g) refl

  pub actual_end : (f : worlds.OptionalFormal) (rest : List (Word × Word)) → rest ≡ [] → actual_of_key sy (pairs_at h rest) f ≡ None
  actual_end f rest e = rw e refl

  pub values_step : (done : List (Object ℕ)) (f : OptionalFormal) (rest others : List OptionalFormal) (ps : List (Object ℕ × Object ℕ)) (actual : Option (Object ℕ)) → rest ≡ f ∷ others
      → actual ≡ actual_of_key sy ps (seen_optional h f)
      → done ++ all_key_values sy (optionals_at h rest) ps ≡ (done ++ optional_values (seen_optional h f) actual) ++ all_key_values sy (optionals_at h others) ps
  values_step done f rest others ps actual e g =
      rw (e, g) (sym (append_assoc done (optional_values (seen_optional h f) (actual_of_key sy ps (seen_optional h f))) (all_key_values sy (optionals_at h others) ps)))

  pub values_end : (done : List (Object ℕ)) (rest : List OptionalFormal) (ps : List (Object ℕ × Object ℕ)) → rest ≡ [] → done ++ all_key_values sy (optionals_at h rest) ps ≡ done
  values_end done rest ps e = rw e (append-nil done)
