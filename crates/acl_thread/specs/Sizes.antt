-- How large a form may be that is checked: how deep it is, how many children its nodes have, and where its words lie.
use Rattle.std.specs.Prelude.{ℕ, ◌+◌, ◌^◌, ◌≤◌, List, max, map, length}
use Rattle.acl_base.specs.declared.SymId.{SymId}
use Rattle.acl_heap.specs.Objects.{Objects}
use Rattle.model_terms.specs.Cores as cores
use Rattle.model_terms.specs.Cores.{Cores, none, more, Var, Const, If, Let, Mv, MvLet, StobjLet, WithLocal, MustBeEqual, Call, count}
use Rattle.acl_terms.specs.declared.form.Core.{Core}
use Rattle.acl_terms.specs.Depths.{depth_of, depth_of_all}
use Rattle.acl_terms.specs.Forms.{core_reach, most, seen_core, seen_cores, seen_bound}

-- the most children that a node of a form has
abbrev mutual
  pub width_of : cores.Core → ℕ
  width_of (Var x) = 0
  width_of (Const o) = 0
  width_of (If a b c) = max 3 (max (width_of a) (max (width_of b) (width_of c)))
  width_of (Let names bound body) = max (count bound + 1) (max (width_of_all bound) (width_of body))
  width_of (Mv parts) = max (count parts) (width_of_all parts)
  width_of (MvLet names bound body) = max 2 (max (width_of bound) (width_of body))
  width_of (StobjLet names bound vars producer consumer) = max 2 (max (width_of producer) (width_of consumer))
  width_of (WithLocal stobj names producer body) = max 2 (max (width_of producer) (width_of body))
  width_of (MustBeEqual logic exec) = max 2 (max (width_of logic) (width_of exec))
  width_of (Call f actuals) = max (count actuals) (width_of_all actuals)

  pub width_of_all : Cores → ℕ
  width_of_all none = 0
  width_of_all (more f fs) = max (width_of f) (width_of_all fs)

-- the form is at most 2,048 deep, the number of each child fits 32 bits, and its words lie in the heap
pub record Fits (h : Objects) (f : Core) : Type 0 where
  pub deep : depth_of (seen_core h f) ≤ 2048
  pub wide : width_of (seen_core h f) ≤ 2 ^ 32
  pub lies : core_reach f ≤ length h

-- each of the parts of a form
pub record FitParts (h : Objects) (fs : List Core) : Type 0 where
  pub deep : depth_of_all (cores.cores (seen_cores h fs)) ≤ 2048
  pub wide : width_of_all (cores.cores (seen_cores h fs)) ≤ 2 ^ 32
  pub few : length fs ≤ 2 ^ 32
  pub lies : most (map core_reach fs) ≤ length h

-- each of the forms that are bound
pub record FitBound (h : Objects) (bs : List (SymId × Core)) : Type 0 where
  pub deep : depth_of_all (cores.cores (seen_bound h bs)) ≤ 2048
  pub wide : width_of_all (cores.cores (seen_bound h bs)) ≤ 2 ^ 32
  pub few : length bs + 1 ≤ 2 ^ 32
  pub lies : most (map (λ (b : SymId × Core). core_reach b.1) bs) ≤ length h
