-- Steps of the loops over lists: what is left at i is the item there and what is left after it.
use Rattle.std.specs.Prelude.{◌≡◌, ℕ, ◌+◌, ◌<◌, ◌≤◌, List, [], ◌∷◌, ◌++◌, length, map, drop, true, false, ◌&&◌, ◌||◌, nat_eq, refl}
use Rattle.std.specs.List.{zip}
use Rattle.std.proofs.Common.{sym, ap, ◌∙◌, get_or, drop-cons, add-one, append_assoc}
use Rattle.std.proofs.Math.ListN.{drop_of_length-le}
use Rattle.std.proofs.lemmas.List.{append-nil, map-append}
use Rattle.acl_base.specs.declared.SymId.{SymId}
use Rattle.model_terms.specs.Worlds as worlds
use Rattle.model_terms.specs.Classes.{has, repeats, stobjs, all_congruent, congruent, actual_of, renamed_out}
use Rattle.acl_terms.specs.declared.signature.Out.{Out}
use Rattle.acl_terms.specs.Forms.{numbers}
use Rattle.acl_terms.specs.Signatures.{seen_out, seen_outs}

pub left_at : {X : Type 0} (xs : List X) (i : ℕ) (d : X) → i < length xs → drop i xs ≡ get_or xs i d ∷ drop (i + 1) xs
left_at xs i d l = rw (add-one i, drop-cons xs i d l) refl

pub numbers_push : (xs : List SymId) (x : SymId) → numbers (xs ++ x ∷ []) ≡ numbers xs ++ x.0 ∷ []
numbers_push xs x = map-append (λ (s : SymId). s.0) xs (x ∷ [])

pub numbers_same : (xs : List ℕ) → xs ≡ xs ++ []
numbers_same xs = sym (append-nil xs)

-- ---- names

pub has_step : (ns : List SymId) (i x : ℕ) (d : SymId) → i < length ns → has (numbers (drop i ns)) x ≡ (nat_eq x (get_or ns i d).0 || has (numbers (drop (i + 1) ns)) x)
has_step ns i x d l = rw (left_at ns i d l) refl

pub has_end : (ns : List SymId) (i x : ℕ) → length ns ≤ i → has (numbers (drop i ns)) x ≡ false
has_end ns i x l = rw (drop_of_length-le ns l) refl

pub repeats_step : (ns : List SymId) (i : ℕ) (d : SymId) → i < length ns
    → repeats (numbers (drop i ns)) ≡ (has (numbers (drop (i + 1) ns)) (get_or ns i d).0 || repeats (numbers (drop (i + 1) ns)))
repeats_step ns i d l = rw (left_at ns i d l) refl

pub repeats_end : (ns : List SymId) (i : ℕ) → length ns ≤ i → repeats (numbers (drop i ns)) ≡ false
repeats_end ns i l = rw (drop_of_length-le ns l) refl

-- ---- kinds

objects_apart : (o : worlds.Out) (os : List worlds.Out) → stobjs (o ∷ os) ≡ stobjs (o ∷ []) ++ stobjs os
objects_apart worlds.Ordinary os = refl
objects_apart (worlds.Stobj x) os = refl

pub objects_step : (done : List ℕ) (os : List Out) (i : ℕ) (d : Out) → i < length os
    → done ++ stobjs (seen_outs (drop i os)) ≡ (done ++ stobjs (seen_out (get_or os i d) ∷ [])) ++ stobjs (seen_outs (drop (i + 1) os))
objects_step done os i d l =
    ap (λ ks. done ++ stobjs (seen_outs ks)) (left_at os i d l)
    ∙ (ap (λ xs. done ++ xs) (objects_apart (seen_out (get_or os i d)) (seen_outs (drop (i + 1) os)))
    ∙ sym (append_assoc done (stobjs (seen_out (get_or os i d) ∷ [])) (stobjs (seen_outs (drop (i + 1) os)))))

pub objects_end : (done : List ℕ) (os : List Out) (i : ℕ) → length os ≤ i → done ++ stobjs (seen_outs (drop i os)) ≡ done
objects_end done os i l = rw (drop_of_length-le os l) (append-nil done)

pub outs_push : (os : List Out) (o : Out) → seen_outs (os ++ o ∷ []) ≡ seen_outs os ++ seen_out o ∷ []
outs_push os o = map-append seen_out os (o ∷ [])

-- ---- actuals

module _ (w : worlds.World) where
  pub congruent_step : (fs xs : List SymId) (i : ℕ) (d e : SymId) → i < length fs → i < length xs
      → all_congruent w (numbers (drop i fs)) (numbers (drop i xs)) ≡ (congruent w (get_or fs i d).0 (get_or xs i e).0 && all_congruent w (numbers (drop (i + 1) fs)) (numbers (drop (i + 1) xs)))
  congruent_step fs xs i d e l m = rw (left_at fs i d l, left_at xs i e m) refl

  pub congruent_short : (fs xs : List SymId) (i : ℕ) (d : SymId) → i < length fs → length xs ≤ i → all_congruent w (numbers (drop i fs)) (numbers (drop i xs)) ≡ false
  congruent_short fs xs i d l m = rw (left_at fs i d l, drop_of_length-le xs m) refl

  pub congruent_end : (fs xs : List SymId) (i : ℕ) → length fs ≤ i → length xs ≤ i → all_congruent w (numbers (drop i fs)) (numbers (drop i xs)) ≡ true
  congruent_end fs xs i l m = rw (drop_of_length-le fs l, drop_of_length-le xs m) refl

  pub congruent_long : (fs xs : List SymId) (i : ℕ) (d : SymId) → length fs ≤ i → i < length xs → all_congruent w (numbers (drop i fs)) (numbers (drop i xs)) ≡ false
  congruent_long fs xs i d l m = rw (drop_of_length-le fs l, left_at xs i d m) refl

abbrev pub actual_left : List SymId → List SymId → ℕ → ℕ → ℕ
actual_left fs xs i x = actual_of (zip (numbers (drop i fs)) (numbers (drop i xs))) x

pub actual_here : (fs xs : List SymId) (i x : ℕ) (d e : SymId) → i < length fs → i < length xs → nat_eq x (get_or fs i d).0 ≡ true → actual_left fs xs i x ≡ (get_or xs i e).0
actual_here fs xs i x d e l m h = rw (left_at fs i d l, left_at xs i e m, h) refl

pub actual_step : (fs xs : List SymId) (i x : ℕ) (d e : SymId) → i < length fs → i < length xs → nat_eq x (get_or fs i d).0 ≡ false → actual_left fs xs i x ≡ actual_left fs xs (i + 1) x
actual_step fs xs i x d e l m h = rw (left_at fs i d l, left_at xs i e m, h) refl

pub actual_short : (fs xs : List SymId) (i x : ℕ) (d : SymId) → i < length fs → length xs ≤ i → actual_left fs xs i x ≡ x
actual_short fs xs i x d l m = rw (left_at fs i d l, drop_of_length-le xs m) refl

pub actual_end : (fs xs : List SymId) (i x : ℕ) → length fs ≤ i → actual_left fs xs i x ≡ x
actual_end fs xs i x l = rw (drop_of_length-le fs l) refl

module _ (pairs : List (ℕ × ℕ)) where
  pub renamed_step : (done : List worlds.Out) (os : List Out) (i : ℕ) (d : Out) → i < length os
      → done ++ map (renamed_out pairs) (seen_outs (drop i os)) ≡ (done ++ renamed_out pairs (seen_out (get_or os i d)) ∷ []) ++ map (renamed_out pairs) (seen_outs (drop (i + 1) os))
  renamed_step done os i d l =
      ap (λ ks. done ++ map (renamed_out pairs) (seen_outs ks)) (left_at os i d l)
      ∙ sym (append_assoc done (renamed_out pairs (seen_out (get_or os i d)) ∷ []) (map (renamed_out pairs) (seen_outs (drop (i + 1) os))))

  pub renamed_end : (done : List worlds.Out) (os : List Out) (i : ℕ) → length os ≤ i → done ++ map (renamed_out pairs) (seen_outs (drop i os)) ≡ done
  renamed_end done os i l = rw (drop_of_length-le os l) (append-nil done)
