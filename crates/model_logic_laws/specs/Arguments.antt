-- The values of an export's formals are its arguments, and those of its exec function's, as a law.
use Rattle.std.specs.Prelude.{◌≡◌, ◌≢◌, ℕ, List, [], ◌∷◌, map, length, false}
use Rattle.model_terms.specs.Worlds.{World, Out}
use Rattle.model_terms.specs.Classes.{stobjs, has, repeats}
use Rattle.model_logic.specs.Logic.{Thing, Values, value_in, bind}
use Rattle.model_stobjs.specs.Abstracts.{with_stobj_named, abstracted}
use Rattle.model_follows.specs.Abstract.{arguments_with}

-- the foundation with its list, and the export's formals with its arguments
abbrev pub export_values : World → ℕ → ℕ → List Out → List ℕ → List Thing → Thing → Thing → Values
export_values w name foundation ins xs os c a = (foundation, c) ∷ bind (with_stobj_named w name ins xs) (arguments_with (map (abstracted w name) ins) os a) []

pub record AreArgumentsOf (w : World) (name foundation : ℕ) (ins : List Out) (xs : List ℕ) (os : List Thing) (c a : Thing) : Type 0 where
  pub logic : map (value_in (export_values w name foundation ins xs os c a)) (with_stobj_named w name ins xs) ≡ arguments_with (map (abstracted w name) ins) os a
  pub exec : map (value_in (export_values w name foundation ins xs os c a)) (with_stobj_named w foundation ins xs) ≡ arguments_with (map (abstracted w name) ins) os c
  pub concrete : value_in (export_values w name foundation ins xs os c a) foundation ≡ c
  pub abstract : stobjs ins ≢ [] → value_in (export_values w name foundation ins xs os c a) name ≡ a

-- where the formals are different, none is named like the foundation, and there are as many arguments
pub record FormalsTellArguments : Type 0 where
  pub tell : (w : World) (name foundation : ℕ) (ins : List Out) (xs : List ℕ) (os : List Thing) (c a : Thing) → repeats (with_stobj_named w name ins xs) ≡ false → has (with_stobj_named w name ins xs) foundation ≡ false
      → length (arguments_with (map (abstracted w name) ins) os a) ≡ length (with_stobj_named w name ins xs) → length (with_stobj_named w name ins xs) ≡ length ins → AreArgumentsOf w name foundation ins xs os c a
