-- What is said of objects, as laws.
use Rattle.std.specs.Prelude.{◌≡◌, ℕ, ◌<◌}
use Rattle.std.specs.Ordering.{nat_cmp}
use Rattle.std.specs.Cmp.{IsTotalOrder}
use Rattle.std.specs.declared.cmp.Ordering.TheVariants.{Equal}
use Rattle.model_objects.specs.Object.{Object, weight, cells, object_cmp, named}

-- over numbered symbols the order is total, and objects that compare alike are equal
pub record IsOrder : Type 0 where
  pub total : IsTotalOrder (object_cmp nat_cmp)
  pub exact : (x y : Object ℕ) → object_cmp nat_cmp x y ≡ Equal → x ≡ y

-- an object has some weight, and another view of its symbols changes neither weight nor cells
pub record KeepsSize : Type 0 where
  pub some : (o : Object ℕ) → 0 < weight o
  pub weight : (name : ℕ → ℕ) (o : Object ℕ) → weight (named name o) ≡ weight o
  pub cells : (name : ℕ → ℕ) (o : Object ℕ) → cells (named name o) ≡ cells o
