-- Looking a name up from the outermost binding inwards, and binding names.
use Rattle.std.specs.Prelude.{◌≡◌, ℕ, zero, suc, ◌+◌, ◌<◌, ◌≤◌, List, [], ◌∷◌, ◌++◌, length, take, get_or, Bool, true, false, Option, Some, None, nat_eq, option_map, refl, cond, if◌then◌else◌}
use Rattle.std.specs.Option.{option_or}
use Rattle.std.proofs.Common.{sym, ap, ◌∙◌, arith}
use Rattle.std.proofs.lemmas.List.{length-map, map-append}
use Rattle.model_slots.specs.Environments as slots
use Rattle.model_slots.specs.Environments.{slot_in}
use Rattle.acl_names.specs.Places.{last_place}
use Rattle.acl_code.specs.declared.environment.Binding.{Binding}
use Rattle.acl_code.specs.Environments.{seen_environment, binding_names}

slot_join : (xs ys : slots.Environment) (x : ℕ) → slot_in (xs ++ ys) x ≡ option_or (slot_in xs x) (slot_in ys x)
slot_join [] ys x = refl
slot_join (e ∷ xs) ys x = go (nat_eq x e.0) (slot_join xs ys x)
  where
    go : (b : Bool) → slot_in (xs ++ ys) x ≡ option_or (slot_in xs x) (slot_in ys x) → cond b (Some e.1) (slot_in (xs ++ ys) x) ≡ option_or (cond b (Some e.1) (slot_in xs x)) (slot_in ys x)
    go true h = refl
    go false h = h

-- the slot of a name is that of the last binding that has it
slot_by : (d : Binding) (bs : List Binding) (x : ℕ) → slot_in (seen_environment bs) x ≡ option_map (λ i. (get_or bs i d).slot) (last_place x (binding_names bs))
slot_by d [] x = refl
slot_by d (b ∷ bs) x =
    slot_join (seen_environment bs) ((b.name.0, b.slot) ∷ []) x
    ∙ (ap (λ o. option_or o (if nat_eq x b.name.0 then Some b.slot else None)) (slot_by d bs x) ∙ go (last_place x (binding_names bs)) (nat_eq x b.name.0))
  where
    go : (o : Option ℕ) (t : Bool) → option_or (option_map (λ i. (get_or bs i d).slot) o) (if t then Some b.slot else None)
        ≡ option_map (λ i. (get_or (b ∷ bs) i d).slot) (option_or (option_map suc o) (if t then Some 0 else None))
    go (Some i) t = refl
    go None true = refl
    go None false = refl

pub found_there : (bs : List Binding) (names : List ℕ) (x i : ℕ) (d : Binding) → names ≡ binding_names bs → Some i ≡ last_place x names → Some (get_or bs i d).slot ≡ slot_in (seen_environment bs) x
found_there bs names x i d e f = ap (option_map (λ j. (get_or bs j d).slot)) (f ∙ ap (last_place x) e) ∙ sym (slot_by d bs x)

pub found_nowhere : (bs : List Binding) (names : List ℕ) (x : ℕ) → names ≡ binding_names bs → None ≡ last_place x names → None ≡ slot_in (seen_environment bs) x
found_nowhere bs names x e f = no_slot bs x (sym (f ∙ ap (last_place x) e))
  where
    no_slot : (bs : List Binding) (x : ℕ) → last_place x (binding_names bs) ≡ None → None ≡ slot_in (seen_environment bs) x
    no_slot [] x g = refl
    no_slot (b ∷ bs) x g = sym (slot_by b (b ∷ bs) x ∙ ap (option_map (λ j. (get_or (b ∷ bs) j b).slot)) g)

place_within : (x : ℕ) (ys : List ℕ) (i : ℕ) → last_place x ys ≡ Some i → i < length ys
place_within x [] i e = cc
place_within x (y ∷ ys) i e = go (last_place x ys) (nat_eq x y) refl e (place_within x ys)
  where
    go : (o : Option ℕ) (t : Bool) → last_place x ys ≡ o → option_or (option_map suc o) (if t then Some 0 else None) ≡ Some i → ((j : ℕ) → last_place x ys ≡ Some j → j < length ys) → i < suc (length ys)
    go (Some j) t f e rest = let l : j < length ys = rest j f in let d : suc j ≡ i = cc in omega (arith, l, d)
    go None true f e rest = let d : 0 ≡ i = cc in omega (arith, d)
    go None false f e rest = cc

pub found_within : (bs : List Binding) (names : List ℕ) (x i : ℕ) → names ≡ binding_names bs → Some i ≡ last_place x names → i < length bs
found_within bs names x i e f = let l : i < length (binding_names bs) = place_within x (binding_names bs) i (sym (f ∙ ap (last_place x) e)) in omega (arith, l, length-map bs (λ (b : Binding). b.name.0))

-- ---- binding

pub seen_push : (bs : List Binding) (b : Binding) → seen_environment (bs ++ b ∷ []) ≡ (b.name.0, b.slot) ∷ seen_environment bs
seen_push [] b = refl
seen_push (c ∷ bs) b = ap (λ es. es ++ (c.name.0, c.slot) ∷ []) (seen_push bs b)

take_left : {X : Type 0} (n : ℕ) (xs ys : List X) → n ≤ length xs → take n (xs ++ ys) ≡ take n xs
take_left zero xs ys l = refl
take_left (suc n) [] ys l = absurd (omega arith)
take_left (suc n) (x ∷ xs) ys l = ap (λ zs. x ∷ zs) (take_left n xs ys (omega arith))

pub take_all : {X : Type 0} (xs : List X) → take (length xs) xs ≡ xs
take_all [] = refl
take_all (x ∷ xs) = ap (λ ys. x ∷ ys) (take_all xs)

pub take_push : (old : List Binding) (b : Binding) → take (length old) (old ++ b ∷ []) ≡ old
take_push old b = take_left (length old) old (b ∷ []) (omega arith) ∙ take_all old

-- ---- names

pub names_push : (old : List Binding) (b : Binding) → binding_names (old ++ b ∷ []) ≡ binding_names old ++ b.name.0 ∷ []
names_push old b = map-append _ old (b ∷ [])

pub names_take : (n : ℕ) (bs : List Binding) → take n (binding_names bs) ≡ binding_names (take n bs)
names_take zero bs = refl
names_take (suc n) [] = refl
names_take (suc n) (b ∷ bs) = ap (λ ns. b.name.0 ∷ ns) (names_take n bs)
