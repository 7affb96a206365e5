-- What is read out of a form has the form's symbols.
use Rattle.std.proofs.Common.{◌≡◌, ℕ, ◌≤◌, List, [], ◌∷◌, ◌++◌, length, Bool, true, false, Option, Some, None, refl, arith}
use Rattle.std.specs.Prelude.{if◌then◌else◌, option_map, option_and_then, ◌&&◌, nat_le, nat_eq}
use Rattle.std.proofs.lemmas.Bool.Decides.{nat_tests}
use Rattle.model_objects.specs.Object.{Object, Integer, Symbol, Text, Pair}
use Rattle.model_objects.specs.Named.{Symbols}
use Rattle.model_symbols.specs.Symbols.{QualifiedName}
use Rattle.model_symbols.specs.Opening.{nil}
use Rattle.model_expansion.specs.Words.{declare_word, mv_let_word}
use Rattle.model_expansion.specs.Forms.{elements, list, each, is, has_head, are_different, variable_name}
use Rattle.model_expansion.specs.Layers.{binding_in, binding, bindings, variables, body_of, mv_names, mv_let_parts, written_mv_let}

module _ (P : ℕ → Type 0) where
  abbrev pub AllHave : List (Object ℕ) → Type 0
  AllHave [] = Unit {0}
  AllHave (o ∷ os) = Symbols P o × AllHave os

  abbrev pub AllHaveIfAny : Option (List (Object ℕ)) → Type 0
  AllHaveIfAny None = Unit {0}
  AllHaveIfAny (Some os) = AllHave os

  abbrev pub HasIfAny : Option (Object ℕ) → Type 0
  HasIfAny None = Unit {0}
  HasIfAny (Some o) = Symbols P o

  pub elements_have : (d : Object ℕ) → Symbols P d → AllHaveIfAny (elements d)
  elements_have (Integer n) h = tt
  elements_have (Symbol s) h = go (nat_eq s nil)
    where
      go : (b : Bool) → AllHaveIfAny (if b then Some [] else None)
      go true = tt
      go false = tt
  elements_have (Text bytes) h = tt
  elements_have (Pair a d) h = go (elements d) (elements_have d h.1)
    where
      go : (os : Option (List (Object ℕ))) → AllHaveIfAny os → AllHaveIfAny (option_map (λ os. a ∷ os) os)
      go None k = tt
      go (Some os) k = (h.0, k)

  pub list_has : P nil → (os : List (Object ℕ)) → AllHave os → Symbols P (list os)
  list_has n [] h = n
  list_has n (o ∷ os) h = (h.0, list_has n os h.1)

  pub both_have : (os ps : List (Object ℕ)) → AllHave os → AllHave ps → AllHave (os ++ ps)
  both_have [] ps h k = k
  both_have (o ∷ os) ps h k = (h.0, both_have os ps h.1 k)

  pub body_has : (symbols : List QualifiedName) (os : List (Object ℕ)) → AllHave os → HasIfAny (body_of symbols os)
  body_has symbols [] h = tt
  body_has symbols (b ∷ []) h = h.0
  body_has symbols (d ∷ (e ∷ os)) h = go (has_head declare_word d) (body_has symbols (e ∷ os) h.1)
    where
      go : (b : Bool) → HasIfAny (body_of symbols (e ∷ os)) → HasIfAny (if b then body_of symbols (e ∷ os) else None)
      go true k = k
      go false k = tt

  -- ---- bindings

  abbrev pub BoundHave : List (ℕ × Object ℕ) → Type 0
  BoundHave [] = Unit {0}
  BoundHave (b ∷ bs) = Symbols P b.1 × BoundHave bs

  abbrev pub BoundHaveIfAny : Option (List (ℕ × Object ℕ)) → Type 0
  BoundHaveIfAny None = Unit {0}
  BoundHaveIfAny (Some bs) = BoundHave bs

  abbrev pub BoundHasIfAny : Option (ℕ × Object ℕ) → Type 0
  BoundHasIfAny None = Unit {0}
  BoundHasIfAny (Some b) = Symbols P b.1

  bound_in : (symbols : List QualifiedName) (os : List (Object ℕ)) → AllHave os → BoundHasIfAny (binding_in symbols os)
  bound_in symbols [] h = tt
  bound_in symbols (x ∷ []) h = tt
  bound_in symbols (x ∷ (f ∷ [])) h = go (variable_name symbols x)
    where
      go : (v : Option ℕ) → BoundHasIfAny (option_map (λ s. (s, f)) v)
      go None = tt
      go (Some s) = h.1.0
  bound_in symbols (x ∷ (f ∷ (o ∷ os))) h = tt

  pub binding_has : (symbols : List QualifiedName) (o : Object ℕ) → Symbols P o → BoundHasIfAny (binding symbols o)
  binding_has symbols o h = go (elements o) (elements_have o h)
    where
      go : (os : Option (List (Object ℕ))) → AllHaveIfAny os → BoundHasIfAny (option_and_then (binding_in symbols) os)
      go None k = tt
      go (Some os) k = bound_in symbols os k

  each_bound : (symbols : List QualifiedName) (os : List (Object ℕ)) → AllHave os → BoundHaveIfAny (each (binding symbols) os)
  each_bound symbols [] h = tt
  each_bound symbols (o ∷ os) h = go (binding symbols o) (binding_has symbols o h.0) (each (binding symbols) os) (each_bound symbols os h.1)
    where
      go : (b : Option (ℕ × Object ℕ)) → BoundHasIfAny b → (bs : Option (List (ℕ × Object ℕ))) → BoundHaveIfAny bs → BoundHaveIfAny (option_and_then (λ y. option_map (λ ys. y ∷ ys) bs) b)
      go None k bs l = tt
      go (Some b) k None l = tt
      go (Some b) k (Some bs) l = (k, l)

  pub bindings_have : (symbols : List QualifiedName) (o : Object ℕ) → Symbols P o → BoundHaveIfAny (bindings symbols o)
  bindings_have symbols o h = go (elements o) (elements_have o h)
    where
      go : (os : Option (List (Object ℕ))) → AllHaveIfAny os → BoundHaveIfAny (option_and_then (each (binding symbols)) os)
      go None k = tt
      go (Some os) k = each_bound symbols os k

  -- ---- names, a form and a body

  -- two names at least
  abbrev pub IsMvLet : List ℕ × Object ℕ × Object ℕ → Type 0
  IsMvLet p = (2 ≤ length p.0) × Symbols P p.1 × Symbols P p.2

  abbrev pub IsMvLetIfAny : Option (List ℕ × Object ℕ × Object ℕ) → Type 0
  IsMvLetIfAny None = Unit {0}
  IsMvLetIfAny (Some p) = IsMvLet p

  abbrev AreTwo : Option (List ℕ) → Type 0
  AreTwo None = Unit {0}
  AreTwo (Some xs) = 2 ≤ length xs

  two_names : (symbols : List QualifiedName) (o : Object ℕ) → AreTwo (mv_names symbols o)
  two_names symbols o = go (variables symbols o)
    where
      by_test : (xs : List ℕ) (b c : Bool) → nat_le 2 (length xs) ≡ b → AreTwo (if b && c then Some xs else None)
      by_test xs true true e = grind (arith, nat_tests)
      by_test xs true false e = tt
      by_test xs false c e = tt

      go : (v : Option (List ℕ)) → AreTwo (option_and_then (λ xs. if nat_le 2 (length xs) && are_different xs then Some xs else None) v)
      go None = tt
      go (Some xs) = by_test xs (nat_le 2 (length xs)) (are_different xs) refl

  pub mv_let_has : (symbols : List QualifiedName) (os : List (Object ℕ)) → AllHave os → IsMvLetIfAny (mv_let_parts symbols os)
  mv_let_has symbols [] h = tt
  mv_let_has symbols (xs ∷ []) h = tt
  mv_let_has symbols (xs ∷ (f ∷ os)) h = go (mv_names symbols xs) (two_names symbols xs) (body_of symbols os) (body_has symbols os h.1.1)
    where
      go : (v : Option (List ℕ)) → AreTwo v → (b : Option (Object ℕ)) → HasIfAny b → IsMvLetIfAny (option_and_then (λ names. option_map (λ body. (names, f, body)) b) v)
      go None two b k = tt
      go (Some names) two None k = tt
      go (Some names) two (Some body) k = (two, h.1.0, k)

  pub written_has : (symbols : List QualifiedName) (f : Object ℕ) → Symbols P f → IsMvLetIfAny (option_and_then (mv_let_parts symbols) (written_mv_let symbols f))
  written_has symbols (Integer n) h = tt
  written_has symbols (Symbol s) h = tt
  written_has symbols (Text bytes) h = tt
  written_has symbols (Pair a d) h = by_test (is mv_let_word a)
    where
      go : (os : Option (List (Object ℕ))) → AllHaveIfAny os → IsMvLetIfAny (option_and_then (mv_let_parts symbols) os)
      go None k = tt
      go (Some os) k = mv_let_has symbols os k

      by_test : (b : Bool) → IsMvLetIfAny (option_and_then (mv_let_parts symbols) (if b then elements d else None))
      by_test true = go (elements d) (elements_have d h.1)
      by_test false = tt
