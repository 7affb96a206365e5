-- What is seen of an object, one level deep.
use Rattle.std.specs.Prelude.{◌≡◌, ℕ, true}
use Rattle.model_objects.specs.Object.{Object, Integer, Symbol, Text, Pair, fits_64}
use Rattle.acl_base.specs.declared.Word.{Word}
use Rattle.acl_base.specs.declared.Word.TheVariants.{Small}
use Rattle.acl_heap.specs.Objects.{Objects, object_of, Lies}
use Rattle.acl_heap.specs.declared.Seen.{Seen}
use Rattle.acl_heap.specs.declared.Seen.TheVariants as seen

-- what is seen of an object, with the words of its parts
abbrev pub Sees : Objects → Object ℕ → Seen → Type 0
Sees h o (seen.Integer n) = o ≡ Integer n
Sees h o (seen.Symbol s) = o ≡ Symbol s.0
Sees h o (seen.Text bytes) = o ≡ Text bytes.now
Sees h o (seen.Pair a d) = (o ≡ Pair (object_of h a) (object_of h d)) × Lies h a × Lies h d

-- a word that is seen as an integer of 64 bits is that small integer
abbrev pub IsSmallest : Word → Seen → Type 0
IsSmallest w (seen.Integer n) = fits_64 n ≡ true → w ≡ Small n
IsSmallest w (seen.Symbol s) = Unit {0}
IsSmallest w (seen.Text bytes) = Unit {0}
IsSmallest w (seen.Pair a d) = Unit {0}
