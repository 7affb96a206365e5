-- Values from the front of the actuals.
use Rattle.std.specs.Prelude.{◌≡◌, ℕ, zero, suc, List, [], ◌∷◌, ◌++◌, length, map, max, drop, Bool, true, false, nat_le, Option, Some, None, refl}
use Rattle.std.proofs.Common.{sym, ap, ◌∙◌, append_assoc, arith}
use Rattle.std.proofs.lemmas.Bool.Decides.{nat_tests}
use Rattle.std.proofs.lemmas.List.{append-nil, map-append}
use Rattle.model_objects.specs.Object.{Object, Pair}
use Rattle.model_expansion.specs.Expansion.{Taken, required_taken, optional_values, all_optional_values}
use Rattle.acl_base.specs.declared.SymId.{SymId}
use Rattle.acl_base.specs.declared.Word.{Word}
use Rattle.acl_heap.specs.Objects.{Objects, object_of, reach}
use Rattle.acl_terms.specs.declared.definition.OptionalFormal.{OptionalFormal}
use Rattle.acl_terms.specs.Forms.{most, numbers}
use Rattle.acl_terms.specs.Definitions.{seen_optional}
use Rattle.acl_layers.specs.Lists.{items_along}
use Rattle.acl_layers.proofs.BindingLemmas.{most_append}
use Rattle.acl_actuals.specs.Values.{words_at, words_reach, optionals_at, prefixed}

pub pushed : (h : Objects) (ws : List Word) (w : Word) → words_at h (ws ++ w ∷ []) ≡ words_at h ws ++ object_of h w ∷ []
pushed h ws w = map-append (object_of h) ws (w ∷ [])

pub reach_pushed : (ws : List Word) (w : Word) → words_reach (ws ++ w ∷ []) ≡ max (words_reach ws) (reach w)
reach_pushed ws w = ap most (map-append reach ws (w ∷ [])) ∙ most_append (map reach ws) (reach w)

-- ---- required formals

taken_more : (x : ℕ) (xs : List ℕ) (o : Object ℕ) (os : List (Object ℕ)) → required_taken (x ∷ xs) (o ∷ os) ≡ prefixed (o ∷ []) (required_taken xs os)
taken_more x xs o os = by (nat_le (length xs) (length os)) refl
  where
    by : (b : Bool) → nat_le (length xs) (length os) ≡ b → required_taken (x ∷ xs) (o ∷ os) ≡ prefixed (o ∷ []) (required_taken xs os)
    by true e = let g : nat_le (length (x ∷ xs)) (length (o ∷ os)) ≡ true = grind (arith, nat_tests) in rw (e, g) refl
    by false e = let g : nat_le (length (x ∷ xs)) (length (o ∷ os)) ≡ false = grind (arith, nat_tests) in rw (e, g) refl

prefixed_twice : (done : List (Object ℕ)) (o : Object ℕ) (t : Option Taken) → prefixed done (prefixed (o ∷ []) t) ≡ prefixed (done ++ o ∷ []) t
prefixed_twice done o None = refl
prefixed_twice done o (Some t) = ap (λ os. Some (os, t.1)) (sym (append_assoc done (o ∷ []) t.0))

pub required_more : (done : List (Object ℕ)) (x : SymId) (rest others : List SymId) (o a d : Object ℕ) → rest ≡ x ∷ others → o ≡ Pair a d
    → prefixed done (required_taken (numbers rest) (items_along o)) ≡ prefixed (done ++ a ∷ []) (required_taken (numbers others) (items_along d))
required_more done x rest others o a d e f = rw (e, f) (ap (prefixed done) (taken_more x.0 (numbers others) a (items_along d)) ∙ prefixed_twice done a (required_taken (numbers others) (items_along d)))

taken_few : (x : ℕ) (xs : List ℕ) → required_taken (x ∷ xs) [] ≡ None
taken_few x xs = let g : nat_le (length (x ∷ xs)) 0 ≡ false = grind (arith, nat_tests) in rw g refl

pub required_few : (done : List (Object ℕ)) (x : SymId) (rest others : List SymId) (os : List (Object ℕ)) → rest ≡ x ∷ others → os ≡ []
    → prefixed done (required_taken (numbers rest) os) ≡ None
required_few done x rest others os e f = rw (e, f) (ap (prefixed done) (taken_few x.0 (numbers others)))

taken_end : (os : List (Object ℕ)) → required_taken [] os ≡ Some ([], os)
taken_end os = let g : nat_le 0 (length os) ≡ true = grind (arith, nat_tests) in rw g refl

pub required_end : (done : List (Object ℕ)) (rest : List SymId) (os : List (Object ℕ)) → rest ≡ [] → prefixed done (required_taken (numbers rest) os) ≡ Some (done, os)
required_end done rest os e = rw e (ap (prefixed done) (taken_end os) ∙ ap (λ xs. Some (xs, os)) (append-nil done))

pub no_names : (rest : List SymId) → length rest ≡ 0 → rest ≡ []
no_names [] e = refl
no_names (x ∷ xs) e = absurd (omega arith)

pub none_before : (t : Option Taken) → prefixed [] t ≡ t
none_before None = refl
none_before (Some t) = refl

-- ---- optional formals

pub one_behind : (os : List (Object ℕ)) (o : Object ℕ) → os ++ o ∷ [] ≡ os ++ (o ∷ [] ++ [])
one_behind os o = refl

pub two_behind : (os : List (Object ℕ)) (a b : Object ℕ) → (os ++ a ∷ []) ++ b ∷ [] ≡ os ++ (a ∷ (b ∷ []))
two_behind os a b = append_assoc os (a ∷ []) (b ∷ [])

pub optional_some : (h : Objects) (done : List (Object ℕ)) (f : OptionalFormal) (rest others : List OptionalFormal) (os left : List (Object ℕ)) (a : Word)
    → rest ≡ f ∷ others → os ≡ object_of h a ∷ left
    → done ++ all_optional_values (optionals_at h rest) os ≡ (done ++ optional_values (seen_optional h f) (Some (object_of h a))) ++ all_optional_values (optionals_at h others) left
optional_some h done f rest others os left a e g =
    rw (e, g) (sym (append_assoc done (optional_values (seen_optional h f) (Some (object_of h a))) (all_optional_values (optionals_at h others) left)))

pub optional_none : (h : Objects) (done : List (Object ℕ)) (f : OptionalFormal) (rest others : List OptionalFormal) (os left : List (Object ℕ))
    → rest ≡ f ∷ others → os ≡ [] → left ≡ []
    → done ++ all_optional_values (optionals_at h rest) os ≡ (done ++ optional_values (seen_optional h f) None) ++ all_optional_values (optionals_at h others) left
optional_none h done f rest others os left e g i =
    rw (e, g, i) (sym (append_assoc done (optional_values (seen_optional h f) None) (all_optional_values (optionals_at h others) [])))

pub left_some : (f : OptionalFormal) (rest others : List OptionalFormal) (o : Object ℕ) (os left : List (Object ℕ)) → rest ≡ f ∷ others → os ≡ o ∷ left → drop (length rest) os ≡ drop (length others) left
left_some f rest others o os left e g = rw (e, g) refl

abbrev none : List (Object ℕ)
none = []

none_left : (n : ℕ) → drop n none ≡ none
none_left zero = refl
none_left (suc n) = refl

pub left_none : (f : OptionalFormal) (rest others : List OptionalFormal) (os left : List (Object ℕ)) → rest ≡ f ∷ others → os ≡ [] → left ≡ [] → drop (length rest) os ≡ drop (length others) left
left_none f rest others os left e g i = rw (g, i) (none_left (length rest) ∙ sym (none_left (length others)))

pub nothing_behind : (h : Objects) (done : List (Object ℕ)) (rest : List OptionalFormal) (os : List (Object ℕ)) → rest ≡ [] → done ++ all_optional_values (optionals_at h rest) os ≡ done
nothing_behind h done rest os e = rw e (append-nil done)
