-- Steps of the loops over a list of which each element is to give something.
use Rattle.std.specs.Prelude.{◌≡◌, ℕ, ℤ, List, [], ◌∷◌, ◌++◌, Option, Some, None, false, nat_eq, option_map, option_and_then, refl}
use Rattle.std.proofs.Common.{sym, ap, ◌∙◌, append_assoc}
use Rattle.std.proofs.lemmas.List.{append-nil}
use Rattle.model_objects.specs.Object.{Object, Integer, Symbol, Text, Pair}
use Rattle.model_expansion.specs.Forms.{elements, each, each_of}

-- what was found, and what is found behind it
abbrev pub after : {A : Type 0} → List A → Option (List A) → Option (List A)
after done None = None
after done (Some more) = Some (done ++ more)

module _ {A : Type 0} (f : Object ℕ → Option A) where
  joined : (y : Option A) (es : Option (List (Object ℕ))) → option_and_then (λ os. option_and_then (λ y. option_map (λ ys. y ∷ ys) (each f os)) y) es ≡ option_and_then (λ y. option_map (λ ys. y ∷ ys) (option_and_then (each f) es)) y
  joined None None = refl
  joined None (Some os) = refl
  joined (Some y) None = refl
  joined (Some y) (Some os) = refl

  opened : (a : Object ℕ) (es : Option (List (Object ℕ))) → option_and_then (each f) (option_map (λ os. a ∷ os) es) ≡ option_and_then (λ os. option_and_then (λ y. option_map (λ ys. y ∷ ys) (each f os)) (f a)) es
  opened a None = refl
  opened a (Some os) = refl

  each_pair : (a d : Object ℕ) → each_of f (Pair a d) ≡ option_and_then (λ y. option_map (λ ys. y ∷ ys) (each_of f d)) (f a)
  each_pair a d = opened a (elements d) ∙ joined (f a) (elements d)

  pushed : (done : List A) (y : A) (more : Option (List A)) → after done (option_map (λ ys. y ∷ ys) more) ≡ after (done ++ y ∷ []) more
  pushed done y None = refl
  pushed done y (Some ys) = ap (λ xs. Some xs) (sym (append_assoc done (y ∷ []) ys))

  pub step_some : (done : List A) (a d : Object ℕ) (y : A) → f a ≡ Some y → after done (each_of f (Pair a d)) ≡ after (done ++ y ∷ []) (each_of f d)
  step_some done a d y e = ap (after done) (each_pair a d ∙ rw e refl) ∙ pushed done y (each_of f d)

  pub step_none : (done : List A) (a d : Object ℕ) → f a ≡ None → after done (each_of f (Pair a d)) ≡ None
  step_none done a d e = ap (after done) (each_pair a d) ∙ rw e refl

  pub start : (o : Object ℕ) → after [] (each_of f o) ≡ each_of f o
  start o = began (each_of f o)
    where
      began : (x : Option (List A)) → after [] x ≡ x
      began None = refl
      began (Some xs) = refl

  pub end_nil : (done : List A) (s : ℕ) → s ≡ 1 → after done (each_of f (Symbol s)) ≡ Some done
  end_nil done s e = rw e (ap (λ xs. Some xs) (append-nil done))

  pub end_symbol : (done : List A) (s : ℕ) → nat_eq s 1 ≡ false → after done (each_of f (Symbol s)) ≡ None
  end_symbol done s e = rw e refl

  pub end_integer : (done : List A) (n : ℤ) → after done (each_of f (Integer n)) ≡ None
  end_integer done n = refl

  pub end_text : (done : List A) (bytes : List ℕ) → after done (each_of f (Text bytes)) ≡ None
  end_text done bytes = refl
