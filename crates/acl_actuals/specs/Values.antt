-- Words that are values of formals.
use Rattle.std.specs.Prelude.{◌≡◌, ℕ, ◌≤◌, List, [], ◌∷◌, ◌++◌, length, map, max, nat_le, true, false, Bool, Option, Some, None, option_map}
use Rattle.std.specs.List.{list_all}
use Rattle.model_objects.specs.Object.{Object}
use Rattle.model_symbols.specs.Symbols.{QualifiedName}
use Rattle.model_prims.specs.Kinds.{by_number}
use Rattle.model_prims.specs.Lists.{is_true_list}
use Rattle.model_terms.specs.Worlds as worlds
use Rattle.model_expansion.specs.Expansion.{Taken, is_known_key, key_count}
use Rattle.acl_base.specs.declared.Word.{Word}
use Rattle.acl_heap.specs.Objects.{Objects, object_of, Lies, reach}
use Rattle.acl_terms.specs.declared.definition.OptionalFormal.{OptionalFormal}
use Rattle.acl_terms.specs.Forms.{most}
use Rattle.acl_terms.specs.Definitions.{seen_optional}
use Rattle.acl_layers.specs.Lists.{items_along}

abbrev pub words_at : Objects → List Word → List (Object ℕ)
words_at h ws = map (object_of h) ws

abbrev pub words_reach : List Word → ℕ
words_reach ws = most (map reach ws)

-- the word is a list that ends in NIL
abbrev pub IsList : Objects → Word → Type 0
IsList h w = is_true_list by_number (object_of h w) ≡ true

-- what stands along the list of a word
abbrev pub items_at : Objects → Word → List (Object ℕ)
items_at h w = items_along (object_of h w)

abbrev pub optionals_at : Objects → List OptionalFormal → List worlds.OptionalFormal
optionals_at h fs = map (seen_optional h) fs

-- how far the defaults reach
abbrev pub defaults_reach : List OptionalFormal → ℕ
defaults_reach fs = most (map (λ (f : OptionalFormal). reach f.default) fs)

abbrev pub first_of : List (Object ℕ) → Option (Object ℕ)
first_of [] = None
first_of (o ∷ os) = Some o

abbrev pub rest_of : List (Object ℕ) → List (Object ℕ)
rest_of [] = []
rest_of (o ∷ os) = os

-- with values before
abbrev pub prefixed : List (Object ℕ) → Option Taken → Option Taken
prefixed done None = None
prefixed done (Some t) = Some (done ++ t.0, t.1)

-- values that were taken, and the list that is left
abbrev pub SeenTaken : Objects → List Word → Option Word → Option Taken → Type 0
SeenTaken h ws None o = o ≡ None
SeenTaken h ws (Some w) o = (o ≡ Some (words_at h ws, items_at h w)) × Lies h w × IsList h w

-- the first of a list and what is left
abbrev pub SeenNext : Objects → Option Word → Word → List (Object ℕ) → Type 0
SeenNext h None w os = (os ≡ []) × (items_at h w ≡ [])
SeenNext h (Some a) w os = (os ≡ object_of h a ∷ items_at h w) × Lies h a

abbrev pub pair_at : Objects → Word × Word → Object ℕ × Object ℕ
pair_at h p = (object_of h p.0, object_of h p.1)

abbrev pub pairs_at : Objects → List (Word × Word) → List (Object ℕ × Object ℕ)
pairs_at h ps = map (pair_at h) ps

abbrev pub pairs_reach : List (Word × Word) → ℕ
pairs_reach ps = most (map (λ (p : Word × Word). max (reach p.0) (reach p.1)) ps)

abbrev pub SeenPairs : Objects → Option (List (Word × Word)) → Option (List (Object ℕ × Object ℕ)) → Type 0
SeenPairs h None o = o ≡ None
SeenPairs h (Some ps) o = (o ≡ Some (pairs_at h ps)) × (pairs_reach ps ≤ length h)

-- values that are put behind others, where there are these
abbrev pub Puts : Objects → List Word → List Word → Bool → Option (List (Object ℕ)) → Type 0
Puts h old new false o = o ≡ None
Puts h old new true o = option_map (λ vs. words_at h old ++ vs) o ≡ Some (words_at h new)

abbrev pub SeenValues : Objects → Option (List Word) → Option (List (Object ℕ)) → Type 0
SeenValues h None o = o ≡ None
SeenValues h (Some ws) o = (o ≡ Some (words_at h ws)) × (words_reach ws ≤ length h)

module _ (symbols : List QualifiedName) where
  -- each key is that of a formal
  abbrev pub all_known : List worlds.OptionalFormal → List (Object ℕ × Object ℕ) → Bool
  all_known fs ps = list_all (λ (p : Object ℕ × Object ℕ). is_known_key symbols fs p.0) ps

  -- no formal has two keys
  abbrev pub all_once : List worlds.OptionalFormal → List (Object ℕ × Object ℕ) → Bool
  all_once fs ps = list_all (λ (f : worlds.OptionalFormal). nat_le (key_count symbols f ps) 1) fs
