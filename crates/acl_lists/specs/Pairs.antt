-- Pairs by the numbers of their keys and values.
use Rattle.std.specs.Prelude.{ℕ, ◌+◌, ◌<◌, Bool, true, false, if◌then◌else◌, List, [], ◌∷◌, length, map, Option, Some, None, option_map}
use Rattle.std.specs.List.{AllByRecursion}
use Rattle.model_objects.specs.Object.{Object}
use Rattle.model_prims.specs.Kinds.{by_number, same_object}
use Rattle.model_lists.specs.Lists.{scalar_of}
use Rattle.acl_lists.specs.declared.cell.ListId.{ListId}
use Rattle.acl_lists.specs.declared.cell.Cell.{Cell}
use Rattle.acl_lists.specs.declared.keys.Entry.{Entry}
use Rattle.acl_lists.specs.Tables.{list_at}

-- a number of the table, where there is one
abbrev pub Within : List Cell → Option ListId → Type 0
Within cs None = Unit {0}
Within cs (Some n) = n.0 < length cs

-- the object of a value
abbrev pub scalar_at : List Cell → ListId → Object ℕ
scalar_at cs n = scalar_of by_number (list_at cs n)

abbrev pub scalar_found : List Cell → Option ListId → Option (Object ℕ)
scalar_found cs n = option_map (scalar_at cs) n

abbrev pub pair_at : List Cell → Entry → Object ℕ × Object ℕ
pair_at cs e = (scalar_at cs e.key, scalar_at cs e.value)

abbrev pub pairs_at : List Cell → List Entry → List (Object ℕ × Object ℕ)
pairs_at cs es = map (pair_at cs) es

abbrev pub AllEntriesIn : List Cell → List Entry → Type 0
AllEntriesIn cs es = AllByRecursion (λ (e : Entry). (e.key.0 < length cs) × (e.value.0 < length cs)) es

abbrev pub keys_of : List (Object ℕ × Object ℕ) → List (Object ℕ)
keys_of ps = map (λ (p : Object ℕ × Object ℕ). p.0) ps

abbrev pub is_among : Object ℕ → List (Object ℕ) → Bool
is_among k [] = false
is_among k (x ∷ xs) = if same_object by_number k x then true else is_among k xs

-- how many different ones there are
abbrev pub different : List (Object ℕ) → ℕ
different [] = 0
different (k ∷ ks) = if is_among k ks then different ks else different ks + 1
