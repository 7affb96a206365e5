-- How deep a core form is: the nodes on the longest way down, with what a `STOBJ-LET` binds.
use Rattle.std.specs.Prelude.{ℕ, ◌+◌, max}
use Rattle.model_terms.specs.Cores.{Core, Cores, none, more, Var, Const, If, Let, Mv, MvLet, StobjLet, WithLocal, MustBeEqual, Call}

abbrev mutual
  pub depth_of : Core → ℕ
  depth_of (Var x) = 1
  depth_of (Const o) = 1
  depth_of (If a b c) = max (depth_of a) (max (depth_of b) (depth_of c)) + 1
  depth_of (Let names bound body) = max (depth_of_all bound) (depth_of body) + 1
  depth_of (Mv parts) = depth_of_all parts + 1
  depth_of (MvLet names bound body) = max (depth_of bound) (depth_of body) + 1
  depth_of (StobjLet names bound vars producer consumer) = max (depth_of_all bound) (max (depth_of producer) (depth_of consumer)) + 1
  depth_of (WithLocal stobj names producer body) = max (depth_of producer) (depth_of body) + 1
  depth_of (MustBeEqual logic exec) = max (depth_of logic) (depth_of exec) + 1
  depth_of (Call f actuals) = depth_of_all actuals + 1

  pub depth_of_all : Cores → ℕ
  depth_of_all none = 0
  depth_of_all (more f fs) = max (depth_of f) (depth_of_all fs)
