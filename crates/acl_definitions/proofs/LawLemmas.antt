-- Definitions that enter a world together: what the world is then, and that their names are new.
use Rattle.std.specs.Prelude.{◌≡◌, ℕ, ◌+◌, List, [], ◌∷◌, ◌++◌, map, Bool, true, false, ◌||◌, Option, Some, None, nat_eq, position, is_some, refl, cond, if◌then◌else◌}
use Rattle.std.specs.List.{AllByRecursion, IsDistinct, list_any, position_from, find}
use Rattle.std.proofs.Common.{sym, ap, ◌∙◌, subst, arith}
use Rattle.std.proofs.lemmas.Bool.Decides.{nat_tests}
use Rattle.std.proofs.lemmas.List.{map-append}
use Rattle.std.proofs.lemmas.Iterator.Adapters.{position_from-zero}
use Rattle.model_terms.specs.Classes.{has}
use Rattle.model_terms.specs.Worlds as worlds
use Rattle.model_expansion.specs.Faults.{Refusal, NameInUse}
use Rattle.model_stobjs.specs.Heads.{is_reserved, is_in_use, name_in_use}
use Rattle.model_symbols.proofs.Positions.{unfound, none_later}
use Rattle.acl_heap.specs.Objects.{Objects}
use Rattle.acl_terms.specs.declared.definition.Definition.{Definition}
use Rattle.acl_terms.specs.Definitions.{seen_definition, name_in}
use Rattle.acl_worlds.specs.Contents.{Content, IsWorld, seen_world, names_in}
use Rattle.acl_worlds.proofs.WorldLemmas.{seen_names}
use Rattle.acl_definitions.specs.Laws.{AreAdded}

-- ---- lists of different numbers

all_with : {X : Type 0} (P Q : X → Type 0) (xs : List X) → ((x : X) → P x → Q x) → AllByRecursion P xs → AllByRecursion Q xs
all_with P Q [] f a = tt
all_with P Q (x ∷ xs) f a = (f x a.0, all_with P Q xs f a.1)

all_join : {X : Type 0} (P : X → Type 0) (xs ys : List X) → AllByRecursion P xs → AllByRecursion P ys → AllByRecursion P (xs ++ ys)
all_join P [] ys a b = b
all_join P (x ∷ xs) ys a b = (a.0, all_join P xs ys a.1 b)

eq_swap : (a b : ℕ) → nat_eq a b ≡ nat_eq b a
eq_swap a b = grind (arith, nat_tests)

distinct_join : (xs ys : List ℕ) → IsDistinct nat_eq xs → IsDistinct nat_eq ys → AllByRecursion (λ y. position (nat_eq y) xs ≡ None) ys → IsDistinct nat_eq (xs ++ ys)
unfolding IsDistinct
distinct_join [] ys d e a = e
distinct_join (x ∷ xs) ys d e a =
    let apart : (y : ℕ) → position (nat_eq y) (x ∷ xs) ≡ None → nat_eq y x ≡ false = λ y h. unfound (nat_eq y) (x ∷ xs) 0 x h refl in (
      all_join (λ z. nat_eq x z ≡ false) xs ys d.0 (all_with (λ y. position (nat_eq y) (x ∷ xs) ≡ None) (λ z. nat_eq x z ≡ false) ys (λ y h. eq_swap x y ∙ apart y h) a),
      distinct_join xs ys d.1 e (all_with (λ y. position (nat_eq y) (x ∷ xs) ≡ None) (λ y. position (nat_eq y) xs ≡ None) ys (λ y h. none_later (nat_eq y) x xs (apart y h) h) a),
    )

all_apart : (s : ℕ) (ss : List ℕ) → has ss s ≡ false → AllByRecursion (λ z. nat_eq s z ≡ false) ss
all_apart s [] h = tt
all_apart s (x ∷ ss) h = go (λ k. all_apart s ss k) (nat_eq s x) refl h where
  go : (has ss s ≡ false → AllByRecursion (λ z. nat_eq s z ≡ false) ss) → (b : Bool) → nat_eq s x ≡ b → (b || has ss s) ≡ false → AllByRecursion (λ z. nat_eq s z ≡ false) (x ∷ ss)
  go f true e k = absurd (cc)
  go f false e k = (e, f k)

-- ---- names that may be used

opened : (w : worlds.World) (s : ℕ) (ss : List ℕ) → name_in_use w (s ∷ ss) ≡ (if is_in_use w ss s then Some (NameInUse s) else name_in_use w ss)
unfolding name_in_use
opened w s ss = refl

record Free (w : worlds.World) (s : ℕ) (ss : List ℕ) : Type 0 where
  pub undefined : is_some (worlds.definition w s) ≡ false
  pub once : has ss s ≡ false
  pub later : name_in_use w ss ≡ None

parted : (a b c : Bool) (s : ℕ) (later : Option Refusal) → (if (a || (b || c)) then Some (NameInUse s) else later) ≡ None → (a ≡ false) × ((c ≡ false) × (later ≡ None))
parted true b c s later e = absurd (cc)
parted false true c s later e = absurd (cc)
parted false false true s later e = absurd (cc)
parted false false false s later e = (refl, (refl, e))

free : (w : worlds.World) (s : ℕ) (ss : List ℕ) → name_in_use w (s ∷ ss) ≡ None → Free w s ss
free w s ss e =
    let p = parted (is_some (worlds.definition w s)) (is_reserved s) (has ss s) s (name_in_use w ss) (sym (opened w s ss) ∙ e) in
    record { undefined = p.0; once = p.1.0; later = p.1.1 }

distinct_names : (w : worlds.World) (ss : List ℕ) → name_in_use w ss ≡ None → IsDistinct nat_eq ss
unfolding IsDistinct
distinct_names w [] e = tt
distinct_names w (s ∷ ss) e = let f = free w s ss e in (all_apart s ss f.once, distinct_names w ss f.later)

none_from : (x i : ℕ) (ds : worlds.World) → is_some (find (λ d. nat_eq x (worlds.definition_name d)) ds) ≡ false → position_from (nat_eq x) i (map worlds.definition_name ds) ≡ None
none_from x i [] e = refl
none_from x i (d ∷ ds) e = go (λ k. none_from x (i + 1) ds k) (nat_eq x (worlds.definition_name d)) e where
  go : (is_some (find (λ d. nat_eq x (worlds.definition_name d)) ds) ≡ false → position_from (nat_eq x) (i + 1) (map worlds.definition_name ds) ≡ None) → (b : Bool) → is_some (cond b (Some d) (find (λ d. nat_eq x (worlds.definition_name d)) ds)) ≡ false → cond b (Some i) (position_from (nat_eq x) (i + 1) (map worlds.definition_name ds)) ≡ None
  go f true k = absurd (cc)
  go f false k = f k

new_names : (h : Objects) (w : Content) (ss : List ℕ) → name_in_use (seen_world h w) ss ≡ None → AllByRecursion (λ y. position (nat_eq y) (names_in w.definitions) ≡ None) ss
new_names h w [] e = tt
new_names h w (s ∷ ss) e =
    let f = free (seen_world h w) s ss e in (
      ap (position (nat_eq s)) (sym (seen_names h w.definitions)) ∙ (position_from-zero (nat_eq s) (map worlds.definition_name (seen_world h w)) ∙ none_from s 0 (seen_world h w) f.undefined),
      new_names h w ss f.later,
    )

pub are_added : AreAdded
are_added = record {
  seen = λ h w ds. map-append (seen_definition h) w.definitions ds;
  fresh = λ h w ds i e.
      subst (λ ns. IsDistinct nat_eq ns) (sym (map-append name_in w.definitions ds))
      (distinct_join (names_in w.definitions) (names_in ds) i.distinct (distinct_names (seen_world h w) (names_in ds) e) (new_names h w (names_in ds) e));
}
