-- What is said of worlds, as laws.
use Rattle.std.specs.Prelude.{◌≡◌, ℕ, ◌++◌, ◌∷◌, [], length, Some, None, nat_eq, slice_get, set, take, option_map, option_and_then, if◌then◌else◌}
use Rattle.std.specs.Option.{option_or}
use Rattle.acl_heap.specs.Objects.{Objects, Extends}
use Rattle.model_terms.specs.Worlds as worlds
use Rattle.acl_terms.specs.declared.definition.Definition.{Definition}
use Rattle.acl_terms.specs.Definitions.{seen_definition, name_in}
use Rattle.acl_worlds.specs.Contents.{Content, IsWorld, WorldLies, seen_world, number_of, with_definition, settled, cut}

pub record AreWorlds : Type 0 where
  -- in every heap the definition of a name is the one that stands at the name's number
  pub definition : (h : Objects) (w : Content) (x : ℕ) → worlds.definition (seen_world h w) x ≡ option_map (seen_definition h) (option_and_then (slice_get w.definitions) (number_of w x))
  -- in every heap no two definitions have one name
  pub distinct : (h : Objects) (w : Content) → IsWorld w → worlds.HasDistinctNames (seen_world h w)
  -- as the heap grows, the world is what it was
  pub later : (h h' : Objects) (w : Content) → Extends h h' → WorldLies h w → seen_world h' w ≡ seen_world h w
  -- a world that took a definition keeps the numbers that it had, and has the new name at the last one
  pub added : (w : Content) (d : Definition) (x : ℕ) → number_of (with_definition w d) x ≡ option_or (number_of w x) (if nat_eq x (name_in d) then Some (length w.definitions) else None)
  -- in every heap what took a definition is the world with it, what was settled has it in its place, and what was cut is the first part
  pub seen_added : (h : Objects) (w : Content) (d : Definition) → seen_world h (with_definition w d) ≡ seen_world h w ++ seen_definition h d ∷ []
  pub seen_settled : (h : Objects) (w : Content) (n : ℕ) (d : Definition) → seen_world h (settled w n d) ≡ set (seen_world h w) n (seen_definition h d)
  pub seen_cut : (h : Objects) (w : Content) (n k : ℕ) → seen_world h (cut w n k) ≡ take n (seen_world h w)
