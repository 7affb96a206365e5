-- What the rows of THE make, and the tests of types.
use Rattle.std.specs.Prelude.{◌≡◌, ℕ, List, [], ◌∷◌, Option, Some, None, true, false, is_some, unwrap_or, option_map, refl}
use Rattle.std.proofs.Common.{ap, ◌∙◌}
use Rattle.model_objects.specs.Object.{Object}
use Rattle.model_lists.specs.Types.{ValueType}
use Rattle.model_symbols.specs.Symbols.{QualifiedName}
use Rattle.model_terms.specs.Cores.{Core, Var}
use Rattle.model_expansion.specs.Words.{hidden_variable_word}
use Rattle.model_expansion.specs.TypeTerms.{false_core, test_of, accepted_type, type_term}
use Rattle.model_expansion.specs.Layers.{The, Checked, Rest, hidden_let, checked_made, made_of}
use Rattle.acl_layers.specs.Layers.{hidden_test}
use Rattle.acl_layers.proofs.RowLemmas.{the_two, checked_one}

-- ---- tests of types

type_some : (o : Object ℕ) → is_some (accepted_type o) ≡ true → type_term o (Var hidden_variable_word) ≡ Some (hidden_test o)
type_some o e = go (accepted_type o) e
  where
    go : (t : Option (ValueType ℕ)) → is_some t ≡ true → option_map (test_of (Var hidden_variable_word)) t ≡ Some (unwrap_or (option_map (test_of (Var hidden_variable_word)) t) false_core)
    go None e = cc
    go (Some t) e = refl

type_none : (o : Object ℕ) → is_some (accepted_type o) ≡ false → type_term o (Var hidden_variable_word) ≡ None
type_none o e = go (accepted_type o) e
  where
    go : (t : Option (ValueType ℕ)) → is_some t ≡ false → option_map (test_of (Var hidden_variable_word)) t ≡ None
    go None e = refl
    go (Some t) e = cc

pub hidden_some : (o : Object ℕ) (f : Core) → Some f ≡ type_term o (Var hidden_variable_word) → f ≡ hidden_test o
hidden_some o f e = ap (λ t. unwrap_or t false_core) e

pub hidden_none : (o : Object ℕ) → None ≡ type_term o (Var hidden_variable_word) → false_core ≡ hidden_test o
hidden_none o e = ap (λ t. unwrap_or t false_core) e

-- ---- rows

module _ (sy : List QualifiedName) where
  pub the_is : (t x : Object ℕ) (os : List (Object ℕ)) → os ≡ t ∷ (x ∷ []) → is_some (accepted_type t) ≡ true → made_of sy The os ≡ Some (hidden_let x (Rest Checked (t ∷ [])))
  the_is t x os e f = the_two sy t x os e ∙ rw (type_some t f) refl

  pub the_bad : (t x : Object ℕ) (os : List (Object ℕ)) → os ≡ t ∷ (x ∷ []) → is_some (accepted_type t) ≡ false → made_of sy The os ≡ None
  the_bad t x os e f = the_two sy t x os e ∙ rw (type_none t f) refl

  pub checked_is : (t : Object ℕ) (os : List (Object ℕ)) → os ≡ t ∷ [] → is_some (accepted_type t) ≡ true → made_of sy Checked os ≡ Some (checked_made sy t (hidden_test t))
  checked_is t os e f = checked_one sy t os e ∙ rw (type_some t f) refl

  pub checked_bad : (t : Object ℕ) (os : List (Object ℕ)) → os ≡ t ∷ [] → is_some (accepted_type t) ≡ false → made_of sy Checked os ≡ None
  checked_bad t os e f = checked_one sy t os e ∙ rw (type_none t f) refl
