-- Numbers of functions, and trees as a world grows.
use Rattle.std.specs.Prelude.{◌≡◌, ℕ, zero, suc, ◌+◌, List, [], ◌∷◌, ◌++◌, map, length, Bool, true, false, Option, Some, None, nat_eq, slice_get, position, refl, cond, option_map, option_and_then}
use Rattle.std.specs.List.{find, position_from}
use Rattle.std.specs.Option.{option_or}
use Rattle.std.proofs.Common.{sym, ap, ◌∙◌, arith, subst}
use Rattle.std.proofs.lemmas.List.{map-append}
use Rattle.std.proofs.lemmas.Iterator.Adapters.{position_from-zero}
use Rattle.model_terms.specs.Cores as cores
use Rattle.model_terms.specs.Cores.{Core, Cores, Reached, reached}
use Rattle.model_terms.specs.Worlds.{World, Definition, definition, definition_name}
use Rattle.model_terms.specs.Classes.{is_stobj_name}
use Rattle.model_slots.specs.Trees.{Tree, Trees, Child}
use Rattle.model_slots.specs.Trees as trees
use Rattle.model_slots.specs.Environments.{Environment, all_bound, ordinary_bound}
use Rattle.model_slots.specs.Resolved.{both, all_three, number_in, child_in, children_in, resolved, all_resolved}
use Rattle.model_slots.specs.Laws.{SameNames, AllSameNames, AreSame, KeepsNumbers}

-- ---- what stands at the place of a name

module _ {X : Type 0} (name : X → ℕ) (x : ℕ) where
  found_from : (i : ℕ) (all ds : List X) → ((k : ℕ) → slice_get all (i + k) ≡ slice_get ds k)
      → find (λ d. nat_eq x (name d)) ds ≡ option_and_then (slice_get all) (position_from (nat_eq x) i (map name ds))
  found_from i all [] at = refl
  found_from i all (d ∷ ds) at = go (nat_eq x (name d)) (found_from (i + 1) all ds (λ k. let e : (i + 1) + k ≡ i + (suc k) = omega arith in ap (slice_get all) e ∙ at (suc k)))
    where
      go : (b : Bool) → find (λ d. nat_eq x (name d)) ds ≡ option_and_then (slice_get all) (position_from (nat_eq x) (i + 1) (map name ds))
          → cond b (Some d) (find (λ d. nat_eq x (name d)) ds) ≡ option_and_then (slice_get all) (cond b (Some i) (position_from (nat_eq x) (i + 1) (map name ds)))
      go true h = let e : i ≡ i + 0 = omega arith in sym (ap (slice_get all) e ∙ at 0)
      go false h = h

  found_at : (ds : List X) → find (λ d. nat_eq x (name d)) ds ≡ option_and_then (slice_get ds) (position (nat_eq x) (map name ds))
  found_at ds =
      found_from 0 ds ds (λ k. let e : 0 + k ≡ k = omega arith in ap (slice_get ds) e)
      ∙ ap (option_and_then (slice_get ds)) (sym (position_from-zero (nat_eq x) (map name ds)))

finds : (w : World) (f n : ℕ) → number_in w f ≡ Some n → definition w f ≡ slice_get w n
finds w f n h = found_at definition_name f w ∙ ap (option_and_then (slice_get w)) h

nowhere : (w : World) (f : ℕ) → number_in w f ≡ None → definition w f ≡ None
nowhere w f h = found_at definition_name f w ∙ ap (option_and_then (slice_get w)) h

-- ---- more definitions

first_from : (p : ℕ → Bool) (i n : ℕ) (xs ys : List ℕ) → position_from p i xs ≡ Some n → position_from p i (xs ++ ys) ≡ Some n
first_from p i n [] ys h = cc
first_from p i n (x ∷ xs) ys h = go (p x) h (first_from p (i + 1) n xs ys)
  where
    go : (b : Bool) → cond b (Some i) (position_from p (i + 1) xs) ≡ Some n → (position_from p (i + 1) xs ≡ Some n → position_from p (i + 1) (xs ++ ys) ≡ Some n)
        → cond b (Some i) (position_from p (i + 1) (xs ++ ys)) ≡ Some n
    go true h rest = h
    go false h rest = rest h

number_later : (w added : World) (f n : ℕ) → number_in w f ≡ Some n → number_in (w ++ added) f ≡ Some n
number_later w added f n h =
    ap (position (nat_eq f)) (map-append definition_name w added)
    ∙ (position_from-zero (nat_eq f) (map definition_name w ++ map definition_name added)
    ∙ first_from (nat_eq f) 0 n (map definition_name w) (map definition_name added) (sym (position_from-zero (nat_eq f) (map definition_name w)) ∙ h))

-- what is there in the world is there, and the same, in the later one
abbrev Stays : {A : Type 0} → Option A → Option A → Type 0
Stays {A} a b = (x : A) → a ≡ Some x → b ≡ Some x

stays : {A : Type 0} (a b : Option A) → a ≡ b → Stays b a
stays a b e x h = e ∙ h

both_stay : {A B C : Type 0} (f : A → B → C) (a a' : Option A) (b b' : Option B) → Stays a a' → Stays b b' → Stays (both f a b) (both f a' b')
both_stay f None a' b b' p q x h = cc
both_stay f (Some a) a' None b' p q x h = cc
both_stay f (Some a) a' (Some b) b' p q x h = rw (p a refl, q b refl) h

all_stay : {A B C D : Type 0} (f : A → B → C → D) (a a' : Option A) (b b' : Option B) (c c' : Option C) → Stays a a' → Stays b b' → Stays c c' → Stays (all_three f a b c) (all_three f a' b' c')
all_stay f None a' b b' c c' p q r x h = cc
all_stay f (Some a) a' None b' c c' p q r x h = cc
all_stay f (Some a) a' (Some b) b' None c' p q r x h = cc
all_stay f (Some a) a' (Some b) b' (Some c) c' p q r x h = rw (p a refl, q b refl, r c refl) h

map_stays : {A B : Type 0} (f : A → B) (a a' : Option A) → Stays a a' → Stays (option_map f a) (option_map f a')
map_stays f None a' p x h = cc
map_stays f (Some a) a' p x h = rw (p a refl) h

module _ (w added : World) where
  same_bound : (s : ℕ) (env : Environment) (names : List ℕ) → AreSame w (w ++ added) names → ordinary_bound (w ++ added) s names env ≡ ordinary_bound w s names env
  same_bound s env [] a = refl
  same_bound s env (x ∷ xs) a = rw (a.0, same_bound (s + 1) env xs a.1) refl

  child_later : (env : Environment) (vars : List ℕ) (x : ℕ) (by : Option Reached) → Stays (child_in w env vars x by) (child_in (w ++ added) env vars x by)
  child_later env vars x None = λ c h. h
  child_later env vars x (Some by) =
      map_stays _ (number_in w by.accessor) (number_in (w ++ added) by.accessor) (λ n h. number_later w added by.accessor n h)

  children_later : (env : Environment) (vars names : List ℕ) (forms : Cores) → Stays (children_in w env vars names forms) (children_in (w ++ added) env vars names forms)
  children_later env vars names cores.none = λ c h. h
  children_later env vars [] (cores.more form forms) = λ c h. h
  children_later env vars (x ∷ xs) (cores.more form forms) =
      both_stay _ (child_in w env vars x (reached form)) (child_in (w ++ added) env vars x (reached form)) (children_in w env vars xs forms) (children_in (w ++ added) env vars xs forms)
      (child_later env vars x (reached form)) (children_later env vars xs forms)

mutual
  unfolding SameNames resolved

  tree_later : (w added : World) (env : Environment) (s : ℕ) (form : Core) → SameNames w (w ++ added) form → Stays (resolved w env s form) (resolved (w ++ added) env s form)
  tree_later w added env s (cores.Var x) a = λ t h. h
  tree_later w added env s (cores.Const o) a = λ t h. h
  tree_later w added env s (cores.If b c d) a =
      all_stay _ _ _ _ _ _ _ (tree_later w added env s b a.0) (tree_later w added env s c a.1) (tree_later w added env s d a.2)
  tree_later w added env s (cores.Let names bound body) a =
      rw (same_bound w added s env names a.0)
      (both_stay _ _ _ _ _ (trees_later w added env s bound a.1) (tree_later w added (ordinary_bound w s names env) (s + length names) body a.2))
  tree_later w added env s (cores.Mv parts) a = map_stays _ _ _ (trees_later w added env s parts a)
  tree_later w added env s (cores.MvLet names bound body) a =
      rw (same_bound w added s env names a.0)
      (both_stay _ _ _ _ _ (tree_later w added env s bound a.1) (tree_later w added (ordinary_bound w s names env) (s + length names) body a.2))
  tree_later w added env s (cores.StobjLet names bound vars producer consumer) a =
      rw (same_bound w added s env vars a.0)
      (all_stay _ _ _ _ _ _ _ (children_later w added env vars names bound) (tree_later w added (all_bound s names env) (s + length names) producer a.1)
      (tree_later w added (ordinary_bound w s vars env) (s + length vars) consumer a.2))
  tree_later w added env s (cores.WithLocal stobj names producer body) a =
      rw (same_bound w added s env names a.0)
      (both_stay _ _ _ _ _ (tree_later w added (all_bound s (stobj ∷ []) env) (s + 1) producer a.1) (tree_later w added (ordinary_bound w s names env) (s + length names) body a.2))
  tree_later w added env s (cores.MustBeEqual logic exec) a = map_stays _ _ _ (tree_later w added env s logic a)
  tree_later w added env s (cores.Call f actuals) a =
      both_stay _ (number_in w f) (number_in (w ++ added) f) _ _ (λ n h. number_later w added f n h) (trees_later w added env s actuals a)

  trees_later : (w added : World) (env : Environment) (s : ℕ) (forms : Cores) → AllSameNames w (w ++ added) forms → Stays (all_resolved w env s forms) (all_resolved (w ++ added) env s forms)
  trees_later w added env s cores.none a = λ t h. h
  trees_later w added env s (cores.more f fs) a = both_stay _ _ _ _ _ (tree_later w added env s f a.0) (trees_later w added env (s + 1) fs a.1)

pub keeps_numbers : KeepsNumbers
keeps_numbers = record {
  finds = finds;
  nowhere = nowhere;
  number = number_later;
  tree = λ w added env s form t a h. tree_later w added env s form a t h;
}
