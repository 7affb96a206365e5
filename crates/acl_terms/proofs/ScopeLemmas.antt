-- The kind of a name by its last place, and names as they come and go.
use Rattle.std.specs.Prelude.{◌≡◌, ℕ, zero, suc, ◌+◌, ◌<◌, ◌≤◌, List, [], ◌∷◌, ◌++◌, length, take, drop, Bool, true, false, Option, Some, None, nat_eq, option_map, refl, if◌then◌else◌}
use Rattle.std.specs.Option.{option_or}
use Rattle.std.proofs.Common.{sym, ap, ◌∙◌, arith, get_or, drop-cons, add-one, append_assoc}
use Rattle.std.proofs.Math.ListN.{drop_of_length-le}
use Rattle.std.proofs.lemmas.List.{length-map, map-append, append-nil}
use Rattle.model_terms.specs.Scopes.{kind_in}
use Rattle.acl_names.specs.Places.{last_place}
use Rattle.acl_terms.specs.declared.signature.Entry.{Entry}
use Rattle.acl_terms.specs.Signatures.{seen_out, seen_scope, entry_names}

-- the kind of a name is that of the last entry that has it
kind_by : (d : Entry) (es : List Entry) (x : ℕ) → kind_in (seen_scope es) x ≡ option_map (λ i. seen_out (get_or es i d).kind) (last_place x (entry_names es))
kind_by d [] x = refl
kind_by d (e ∷ es) x =
    ap (λ o. option_or o (if nat_eq x e.name.0 then Some (seen_out e.kind) else None)) (kind_by d es x) ∙ go (last_place x (entry_names es)) (nat_eq x e.name.0)
  where
    go : (o : Option ℕ) (t : Bool) → option_or (option_map (λ i. seen_out (get_or es i d).kind) o) (if t then Some (seen_out e.kind) else None)
        ≡ option_map (λ i. seen_out (get_or (e ∷ es) i d).kind) (option_or (option_map suc o) (if t then Some 0 else None))
    go (Some i) t = refl
    go None true = refl
    go None false = refl

pub found_there : (es : List Entry) (names : List ℕ) (x i : ℕ) (d : Entry) → names ≡ entry_names es → Some i ≡ last_place x names → Some (seen_out (get_or es i d).kind) ≡ kind_in (seen_scope es) x
found_there es names x i d e f = ap (option_map (λ j. seen_out (get_or es j d).kind)) (f ∙ ap (last_place x) e) ∙ sym (kind_by d es x)

pub found_nowhere : (es : List Entry) (names : List ℕ) (x : ℕ) → names ≡ entry_names es → None ≡ last_place x names → None ≡ kind_in (seen_scope es) x
found_nowhere es names x e f = no_kind es (sym (f ∙ ap (last_place x) e))
  where
    no_kind : (es : List Entry) → last_place x (entry_names es) ≡ None → None ≡ kind_in (seen_scope es) x
    no_kind [] g = refl
    no_kind (e ∷ es) g = sym (kind_by e (e ∷ es) x ∙ ap (option_map (λ j. seen_out (get_or (e ∷ es) j e).kind)) g)

place_within : (x : ℕ) (ys : List ℕ) (i : ℕ) → last_place x ys ≡ Some i → i < length ys
place_within x [] i e = cc
place_within x (y ∷ ys) i e = go (last_place x ys) (nat_eq x y) refl e (place_within x ys)
  where
    go : (o : Option ℕ) (t : Bool) → last_place x ys ≡ o → option_or (option_map suc o) (if t then Some 0 else None) ≡ Some i → ((j : ℕ) → last_place x ys ≡ Some j → j < length ys) → i < suc (length ys)
    go (Some j) t f e rest = let l : j < length ys = rest j f in let d : suc j ≡ i = cc in omega (arith, l, d)
    go None true f e rest = let d : 0 ≡ i = cc in omega (arith, d)
    go None false f e rest = cc

pub found_within : (es : List Entry) (names : List ℕ) (x i : ℕ) → names ≡ entry_names es → Some i ≡ last_place x names → i < length es
found_within es names x i e f = let l : i < length (entry_names es) = place_within x (entry_names es) i (sym (f ∙ ap (last_place x) e)) in omega (arith, l, length-map es (λ (e : Entry). e.name.0))

-- ---- names that come and go

pub names_push : (old : List Entry) (e : Entry) → entry_names (old ++ e ∷ []) ≡ entry_names old ++ e.name.0 ∷ []
names_push old e = map-append _ old (e ∷ [])

pub names_take : (n : ℕ) (es : List Entry) → take n (entry_names es) ≡ entry_names (take n es)
names_take zero es = refl
names_take (suc n) [] = refl
names_take (suc n) (e ∷ es) = ap (λ ns. e.name.0 ∷ ns) (names_take n es)

pub take_push : (old : List Entry) (e : Entry) → take (length old) (old ++ e ∷ []) ≡ old
take_push [] e = refl
take_push (o ∷ old) e = ap (λ es. o ∷ es) (take_push old e)

-- ---- a copy

pub copy_step : (done es : List Entry) (i : ℕ) (d : Entry) → i < length es → done ++ drop i es ≡ es → (done ++ get_or es i d ∷ []) ++ drop (i + 1) es ≡ es
copy_step done es i d l h =
    append_assoc done (get_or es i d ∷ []) (drop (i + 1) es) ∙ (ap (λ ys. done ++ ys) (sym left) ∙ h)
  where
    left : drop i es ≡ get_or es i d ∷ drop (i + 1) es
    left = rw (add-one i, drop-cons es i d l) refl

pub copy_end : (done es : List Entry) (i : ℕ) → length es ≤ i → done ++ drop i es ≡ es → done ≡ es
copy_end done es i l h = sym (append-nil done) ∙ (ap (λ ys. done ++ ys) (sym (drop_of_length-le es l)) ∙ h)
