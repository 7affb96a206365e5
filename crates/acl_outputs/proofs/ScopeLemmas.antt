-- Steps of the loops that make scopes.
use Rattle.std.specs.Prelude.{◌≡◌, ℕ, zero, suc, ◌+◌, ◌<◌, ◌≤◌, List, [], ◌∷◌, ◌++◌, length, map, drop, take, Bool, true, false, not, nat_eq, refl, cond}
use Rattle.std.specs.List.{filter}
use Rattle.std.proofs.Common.{sym, ap, ◌∙◌, arith, get_or, append_assoc}
use Rattle.std.proofs.Math.ListN.{drop_of_length-le}
use Rattle.std.proofs.lemmas.List.{append-nil, map-append}
use Rattle.acl_base.specs.declared.SymId.{SymId}
use Rattle.model_terms.specs.Worlds as worlds
use Rattle.model_terms.specs.Classes.{has, is_stobj_name}
use Rattle.model_terms.specs.Scopes.{entry, binding, without, ordinary_names, other_names, consumer_scope}
use Rattle.acl_terms.specs.declared.form.Core.{Core}
use Rattle.acl_terms.specs.declared.signature.Entry.{Entry}
use Rattle.acl_terms.specs.Forms.{numbers, bound_names}
use Rattle.acl_terms.specs.Signatures.{seen_entry, seen_scope}
use Rattle.acl_outputs.proofs.ListLemmas.{left_at}

-- what is done, then all that is left, one step on: for any function of lists that goes element by element
step : {X Y : Type 0} (f : List X → List Y) → ((x : X) (xs : List X) → f (x ∷ xs) ≡ f (x ∷ []) ++ f xs) → (done : List Y) (xs : List X) (i : ℕ) (d : X) → i < length xs
    → done ++ f (drop i xs) ≡ (done ++ f (get_or xs i d ∷ [])) ++ f (drop (i + 1) xs)
step f apart done xs i d l =
    ap (λ ys. done ++ f ys) (left_at xs i d l)
    ∙ (ap (λ ys. done ++ ys) (apart (get_or xs i d) (drop (i + 1) xs)) ∙ sym (append_assoc done (f (get_or xs i d ∷ [])) (f (drop (i + 1) xs))))

filter_apart : {X : Type 0} (p : X → Bool) (x : X) (xs : List X) → filter p (x ∷ xs) ≡ filter p (x ∷ []) ++ filter p xs
filter_apart p x xs = go (p x)
  where
    go : (b : Bool) → cond b (x ∷ filter p xs) (filter p xs) ≡ cond b (x ∷ []) [] ++ filter p xs
    go true = refl
    go false = refl

-- ---- names

pub names_step : (done : List ℕ) (bs : List (SymId × Core)) (i : ℕ) (d : SymId × Core) → i < length bs
    → done ++ bound_names (drop i bs) ≡ (done ++ (get_or bs i d).0.0 ∷ []) ++ bound_names (drop (i + 1) bs)
names_step done bs i d l = step bound_names (λ x xs. refl) done bs i d l

pub names_end : (done : List ℕ) (bs : List (SymId × Core)) (i : ℕ) → length bs ≤ i → done ++ bound_names (drop i bs) ≡ done
names_end done bs i l = rw (drop_of_length-le bs l) (append-nil done)

module _ (w : worlds.World) where
  pub bind_step : (done : worlds.Scope) (ns : List SymId) (i : ℕ) (d : SymId) → i < length ns
      → done ++ map (entry w) (numbers (drop i ns)) ≡ (done ++ entry w (get_or ns i d).0 ∷ []) ++ map (entry w) (numbers (drop (i + 1) ns))
  bind_step done ns i d l = step (λ (xs : List SymId). map (entry w) (numbers xs)) (λ x xs. refl) done ns i d l

  pub bind_end : (done : worlds.Scope) (ns : List SymId) (i : ℕ) → length ns ≤ i → done ++ map (entry w) (numbers (drop i ns)) ≡ done
  bind_end done ns i l = rw (drop_of_length-le ns l) (append-nil done)

  pub ordinary_step : (done : List ℕ) (ns : List SymId) (i : ℕ) (d : SymId) → i < length ns
      → done ++ ordinary_names w (numbers (drop i ns)) ≡ (done ++ ordinary_names w ((get_or ns i d).0 ∷ [])) ++ ordinary_names w (numbers (drop (i + 1) ns))
  ordinary_step done ns i d l = step (λ (xs : List SymId). ordinary_names w (numbers xs)) (λ x xs. filter_apart (λ x. not (is_stobj_name w x)) x.0 (numbers xs)) done ns i d l

  pub ordinary_end : (done : List ℕ) (ns : List SymId) (i : ℕ) → length ns ≤ i → done ++ ordinary_names w (numbers (drop i ns)) ≡ done
  ordinary_end done ns i l = rw (drop_of_length-le ns l) (append-nil done)

pub other_step : (stobj : ℕ) (done : List ℕ) (ns : List SymId) (i : ℕ) (d : SymId) → i < length ns
    → done ++ other_names stobj (numbers (drop i ns)) ≡ (done ++ other_names stobj ((get_or ns i d).0 ∷ [])) ++ other_names stobj (numbers (drop (i + 1) ns))
other_step stobj done ns i d l = step (λ (xs : List SymId). other_names stobj (numbers xs)) (λ x xs. filter_apart (λ x. not (nat_eq x stobj)) x.0 (numbers xs)) done ns i d l

pub other_end : (stobj : ℕ) (done : List ℕ) (ns : List SymId) (i : ℕ) → length ns ≤ i → done ++ other_names stobj (numbers (drop i ns)) ≡ done
other_end stobj done ns i l = rw (drop_of_length-le ns l) (append-nil done)

-- ---- entries

pub scope_push : (es : List Entry) (e : Entry) → seen_scope (es ++ e ∷ []) ≡ seen_scope es ++ seen_entry e ∷ []
scope_push es e = map-append seen_entry es (e ∷ [])

-- what stood first stands first after one more
pub take_push : (n : ℕ) (old es : List Entry) (e : Entry) → n ≤ length es → take n es ≡ old → take n (es ++ e ∷ []) ≡ old
take_push n old es e l h = take_left n es (e ∷ []) l ∙ h
  where
    take_left : (n : ℕ) (xs ys : List Entry) → n ≤ length xs → take n (xs ++ ys) ≡ take n xs
    take_left zero xs ys l = refl
    take_left (suc n) [] ys l = absurd (omega arith)
    take_left (suc n) (x ∷ xs) ys l = ap (λ zs. x ∷ zs) (take_left n xs ys (omega arith))

module _ (ns : List ℕ) where
  pub keep_not : (done : worlds.Scope) (e : worlds.Entry) → has ns e.name ≡ true → done ++ without ns (e ∷ []) ≡ done
  keep_not done e h = rw h (append-nil done)

  pub keep_here : (done : worlds.Scope) (e : worlds.Entry) → has ns e.name ≡ false → done ++ without ns (e ∷ []) ≡ done ++ e ∷ []
  keep_here done e h = rw h refl

  pub without_step : (done : worlds.Scope) (es : List Entry) (i : ℕ) (d : Entry) → i < length es
      → done ++ without ns (seen_scope (drop i es)) ≡ (done ++ without ns (seen_entry (get_or es i d) ∷ [])) ++ without ns (seen_scope (drop (i + 1) es))
  without_step done es i d l = step (λ (xs : List Entry). without ns (seen_scope xs)) (λ x xs. filter_apart (λ (e : worlds.Entry). not (has ns e.name)) (seen_entry x) (seen_scope xs)) done es i d l

  pub without_end : (done : worlds.Scope) (es : List Entry) (i : ℕ) → length es ≤ i → done ++ without ns (seen_scope (drop i es)) ≡ done
  without_end done es i l = rw (drop_of_length-le es l) (append-nil done)

-- ---- the consumer of a `STOBJ-LET`

pub consumer_made : (w : worlds.World) (scope : worlds.Scope) (children vars : List ℕ) (inner last : worlds.Scope) (ordinary : List ℕ) → inner ≡ without children scope
    → ordinary ≡ ordinary_names w vars → last ≡ binding w inner ordinary → last ≡ consumer_scope w scope children vars
consumer_made w scope children vars inner last ordinary i o l = l ∙ (ap (λ s. binding w s ordinary) i ∙ ap (binding w (without children scope)) o)
