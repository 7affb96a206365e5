-- The bytes of an object as they are written, with a list of the words that are left.
use Rattle.std.specs.Prelude.{◌≡◌, ℕ, ◌+◌, ◌<◌, List, [], ◌∷◌, ◌++◌}
use Rattle.model_objects.specs.Object.{Object, weight}
use Rattle.acl_base.specs.declared.Word.{Word}
use Rattle.acl_heap.specs.Objects.{Objects, object_of, Lies}
use Rattle.acl_hash.specs.Bytes.{key_bytes, HasBytes}

-- the bytes of the words that are left, of which the last comes first
abbrev pub left_bytes : Objects → List Word → List ℕ
left_bytes h [] = []
left_bytes h (w ∷ ws) = left_bytes h ws ++ key_bytes (object_of h w)

abbrev pub LeftLies : Objects → List Word → Type 0
LeftLies h [] = Unit {0}
LeftLies h (w ∷ ws) = Lies h w × LeftLies h ws

abbrev pub LeftHasBytes : Objects → List Word → Type 0
LeftHasBytes h [] = Unit {0}
LeftHasBytes h (w ∷ ws) = HasBytes (object_of h w) × LeftHasBytes h ws

abbrev pub left_weight : Objects → List Word → ℕ
left_weight h [] = 0
left_weight h (w ∷ ws) = weight (object_of h w) + left_weight h ws

-- the object is written, or the part of it that is not is left
pub record Writes (h : Objects) (o : Object ℕ) (bytes bytes' : List ℕ) (left left' : List Word) : Type 0 where
  pub lies : LeftLies h left → LeftLies h left'
  pub same : bytes' ++ left_bytes h left' ≡ (bytes ++ key_bytes o) ++ left_bytes h left
  pub has : LeftHasBytes h left' → HasBytes o × LeftHasBytes h left
  pub less : left_weight h left' < weight o + left_weight h left

-- what is written and what is left are the bytes of the object
pub record IsPart (h : Objects) (o : Object ℕ) (bytes : List ℕ) (left : List Word) : Type 0 where
  pub lies : LeftLies h left
  pub whole : bytes ++ left_bytes h left ≡ key_bytes o
  pub has : LeftHasBytes h left → HasBytes o
