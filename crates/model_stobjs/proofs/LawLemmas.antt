-- The laws of functions of stobjs.
use Rattle.std.specs.Prelude.{◌≡◌, ℕ, List, length, refl}
use Rattle.model_terms.specs.Worlds.{Shape, Scalar, Array, Hash, Child, Children}
use Rattle.model_stobjs.specs.Descriptors.{field_texts, made_count}
use Rattle.model_stobjs.specs.Entries.{field_tasks}
use Rattle.model_stobjs.specs.Laws.{HasAName}

names : (stobj : ℕ) (f : List ℕ) (s : Shape) → length (field_texts f s) ≡ length (field_tasks stobj s)
names stobj f (Scalar t o) = refl
names stobj f (Array t o n resizable) = refl
names stobj f (Hash test) = refl
names stobj f (Child child) = refl
names stobj f (Children child n) = refl

count : (f : List ℕ) (s : Shape) → length (field_texts f s) ≡ made_count s
count f (Scalar t o) = refl
count f (Array t o n resizable) = refl
count f (Hash test) = refl
count f (Child child) = refl
count f (Children child n) = refl

pub each_has_a_name : HasAName
each_has_a_name = record { names = names; count = count }
