-- How two words of a heap are compared, one step and a list of what is left.
use Rattle.std.specs.Prelude.{◌≡◌, ◌≢◌, ℕ, ◌+◌, List, [], ◌∷◌}
use Rattle.model_objects.specs.Object.{Pair, weight}
use Rattle.acl_base.specs.declared.Word.{Word}
use Rattle.acl_heap.specs.Objects.{Objects, object_of, Lies}
use Rattle.acl_heap.specs.declared.equality.Compared.{Compared}
use Rattle.acl_heap.specs.declared.equality.Compared.TheVariants.{Same, Apart, Parts}

pub record ArePairs (h : Objects) (x y a b d e : Word) : Type 0 where
  pub a_lies : Lies h a
  pub b_lies : Lies h b
  pub d_lies : Lies h d
  pub e_lies : Lies h e
  pub left : object_of h x ≡ Pair (object_of h a) (object_of h d)
  pub right : object_of h y ≡ Pair (object_of h b) (object_of h e)

abbrev pub Compares : Objects → Word → Word → Compared → Type 0
Compares h x y Same = object_of h x ≡ object_of h y
Compares h x y Apart = object_of h x ≢ object_of h y
Compares h x y (Parts cars cdrs) = ArePairs h x y cars.0 cars.1 cdrs.0 cdrs.1

-- the pairs of words stand for equal objects
abbrev pub AllSame : Objects → List (Word × Word) → Type 0
AllSame h [] = Unit {0}
AllSame h (p ∷ ps) = (object_of h p.0 ≡ object_of h p.1) × AllSame h ps

abbrev pub AllLie : Objects → List (Word × Word) → Type 0
AllLie h [] = Unit {0}
AllLie h (p ∷ ps) = Lies h p.0 × Lies h p.1 × AllLie h ps

-- what is left to compare
abbrev pub work_of : Objects → List (Word × Word) → ℕ
work_of h [] = 0
work_of h (p ∷ ps) = weight (object_of h p.0) + work_of h ps
