-- Keys with values, in the definitions of stobjs (ACL2's manual, topic DEFSTOBJ).
use Rattle.std.specs.Prelude.{ℕ, List, [], ◌∷◌, Bool, true, not, ◌&&◌, Option, Some, None, option_map, option_and_then, if◌then◌else◌}
use Rattle.std.specs.List.{list_any, find}
use Rattle.std.specs.Str.{bytes_eq}
use Rattle.model_objects.specs.Object.{Object}
use Rattle.model_symbols.specs.Symbols.{QualifiedName}
use Rattle.model_expansion.specs.Forms.{is_key}

-- the name of a key, and its value
abbrev pub Keyed : Type 0
Keyed = List ℕ × Object ℕ

abbrev pub is_given : List ℕ → List Keyed → Bool
is_given name ks = list_any (λ (key : Keyed). bytes_eq name key.0) ks

-- the value of a key
abbrev pub key_value : List ℕ → List Keyed → Option (Object ℕ)
key_value name ks = option_map (λ (key : Keyed). key.1) (find (λ (key : Keyed). bytes_eq name key.0) ks)

module _ (symbols : List QualifiedName) (known : List (List ℕ)) where
  -- which of the keys that are known an object is
  abbrev pub known_key : Object ℕ → Option (List ℕ)
  known_key o = find (λ name. is_key symbols name o) known

  abbrev pub with_key : Option (List ℕ) → Object ℕ → List Keyed → Option (List Keyed)
  with_key None value ks = None
  with_key (Some name) value ks = if is_given name ks then None else Some ((name, value) ∷ ks)

  -- pairs of a key that is known and an object, no key twice
  abbrev pub keys_in : List (Object ℕ) → Option (List Keyed)
  keys_in [] = Some []
  keys_in (key ∷ []) = None
  keys_in (key ∷ (value ∷ os)) = option_and_then (with_key (known_key key) value) (keys_in os)
