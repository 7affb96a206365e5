-- Words of new cells are whole.
use Rattle.std.specs.Prelude.{◌≡◌, ℕ, List, ℤ, length}
use Rattle.std.proofs.Common.{sym, subst}
use Rattle.model_objects.specs.Object.{Object, Integer, Text, Pair}
use Rattle.model_objects.specs.Named.{Knows}
use Rattle.model_symbols.specs.Symbols.{Table}
use Rattle.acl_base.specs.declared.Word.{Word}
use Rattle.acl_heap.specs.Objects.{Objects, object_of, Denotes}
use Rattle.acl_forms.specs.Forms.{IsWhole}

pub pair_whole : (t : Table) (h g : Objects) (w a d : Word) → Denotes g w (Pair (object_of h a) (object_of h d)) → IsWhole t h a → IsWhole t h d → IsWhole t g w
pair_whole t h g w a d x i j = let P : Object ℕ → Type 0 = λ o. Knows (length t.symbols) o in record { lies = x.lies; known = subst P (sym x.is) (i.known, j.known) }

pub integer_whole : (t : Table) (g : Objects) (w : Word) (n : ℤ) → Denotes g w (Integer n) → IsWhole t g w
integer_whole t g w n x = let P : Object ℕ → Type 0 = λ o. Knows (length t.symbols) o in record { lies = x.lies; known = subst P (sym x.is) tt }

pub text_whole : (t : Table) (g : Objects) (w : Word) (bytes : List ℕ) → Denotes g w (Text bytes) → IsWhole t g w
text_whole t g w bytes x = let P : Object ℕ → Type 0 = λ o. Knows (length t.symbols) o in record { lies = x.lies; known = subst P (sym x.is) tt }
