-- Where a form ends in the logic, its parts end, as a law.
use Rattle.std.specs.Prelude.{◌≡◌, ◌⊎◌, ℕ, List, [], ◌∷◌, true, false, Some}
use Rattle.model_prims.specs.Kinds.{by_name, is_nil}
use Rattle.model_prims.specs.Applied.{value_of}
use Rattle.model_prims.specs.Rows.{Row}
use Rattle.model_terms.specs.Cores.{Core, Cores, If, Call, none, more}
use Rattle.model_terms.specs.Worlds.{Primitive, definition}
use Rattle.model_logic.specs.Logic.{Theory, Thing, Values, EndsWith, CallEndsWith}

-- each form ends with its value
abbrev pub AllEnd : Theory → Cores → Values → List Thing → Type 0
AllEnd b none values [] = Unit {0}
AllEnd b none values (o ∷ os) = ⊥
AllEnd b (more form forms) values [] = ⊥
AllEnd b (more form forms) values (o ∷ os) = EndsWith b form values o × AllEnd b forms values os

pub record PartsEnd : Type 0 where
  pub calls : (b : Theory) (f : ℕ) (actuals : Cores) (values : Values) (v : Thing) → EndsWith b (Call f actuals) values v → (os : List Thing) × AllEnd b actuals values os × CallEndsWith b f os v
  pub ifs : (b : Theory) (test first other : Core) (values : Values) (v : Thing) → EndsWith b (If test first other) values v
      → (t : Thing) × EndsWith b test values t × (((is_nil by_name t ≡ false) × EndsWith b first values v) ⊎ ((is_nil by_name t ≡ true) × EndsWith b other values v))
  pub primitives : (b : Theory) (f name : ℕ) (row : Row) (os : List Thing) (v : Thing) → definition b.world f ≡ Some (Primitive name row) → CallEndsWith b f os v → v ≡ value_of b.packages row.prim os
