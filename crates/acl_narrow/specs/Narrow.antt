-- Forms that are at most so deep, and whose lists have few places.
use Rattle.std.specs.Prelude.{ℕ, ◌+◌, ◌^◌, max, length, Bool, ◌&&◌, nat_le}
use Rattle.model_terms.specs.Cores.{Core, Cores, none, more, Var, Const, If, Let, Mv, MvLet, StobjLet, WithLocal, MustBeEqual, Call, count}
use Rattle.acl_terms.specs.Depths.{depth_of, depth_of_all}

-- how many places the longest list of names or of children in a form has
abbrev mutual
  pub breadth_of : Core → ℕ
  breadth_of (Var x) = 0
  breadth_of (Const o) = 0
  breadth_of (If a b c) = max (breadth_of a) (max (breadth_of b) (breadth_of c))
  breadth_of (Let names bound body) = max (max (length names) (count bound + 1)) (max (breadth_of_all bound) (breadth_of body))
  breadth_of (Mv parts) = max (count parts) (breadth_of_all parts)
  breadth_of (MvLet names bound body) = max (length names) (max (breadth_of bound) (breadth_of body))
  breadth_of (StobjLet names bound vars producer consumer) =
      max (max (length names) (max (count bound + 1) (length vars))) (max (breadth_of_all bound) (max (breadth_of producer) (breadth_of consumer)))
  breadth_of (WithLocal stobj names producer body) = max (length names) (max (breadth_of producer) (breadth_of body))
  breadth_of (MustBeEqual logic exec) = max (breadth_of logic) (breadth_of exec)
  breadth_of (Call f actuals) = max (count actuals) (breadth_of_all actuals)

  pub breadth_of_all : Cores → ℕ
  breadth_of_all none = 0
  breadth_of_all (more f fs) = max (breadth_of f) (breadth_of_all fs)

-- the form is at most so deep, and a list in it has at most 2^32 places
abbrev pub is_narrow : ℕ → Core → Bool
is_narrow d f = nat_le (depth_of f) d && nat_le (breadth_of f) (2 ^ 32)

abbrev pub are_narrow : ℕ → Cores → Bool
are_narrow d fs = nat_le (depth_of_all fs) d && nat_le (breadth_of_all fs) (2 ^ 32)
