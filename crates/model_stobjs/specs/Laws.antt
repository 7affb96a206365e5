-- What is said of the functions of stobjs, as laws.
use Rattle.std.specs.Prelude.{◌≡◌, ℕ, List, length}
use Rattle.model_terms.specs.Worlds.{Shape}
use Rattle.model_stobjs.specs.Descriptors.{field_texts, made_count}
use Rattle.model_stobjs.specs.Entries.{field_tasks}

-- a field has as many functions as names are made for it, whatever its name is
pub record HasAName : Type 0 where
  pub names : (stobj : ℕ) (f : List ℕ) (s : Shape) → length (field_texts f s) ≡ length (field_tasks stobj s)
  pub count : (f : List ℕ) (s : Shape) → length (field_texts f s) ≡ made_count s
