-- How large a form may be whose term is made: how deep it is, how many slots its values take, and where its words lie.
use Rattle.std.specs.Prelude.{ℕ, ◌+◌, ◌^◌, ◌<◌, ◌≤◌, List, max, map, length}
use Rattle.acl_base.specs.declared.SymId.{SymId}
use Rattle.acl_heap.specs.Objects.{Objects}
use Rattle.model_terms.specs.Cores as cores
use Rattle.model_terms.specs.Cores.{Cores, none, more, Var, Const, If, Let, Mv, MvLet, StobjLet, WithLocal, MustBeEqual, Call, count}
use Rattle.acl_terms.specs.declared.form.Core.{Core}
use Rattle.acl_terms.specs.Depths.{depth_of, depth_of_all}
use Rattle.acl_terms.specs.Forms.{core_reach, most, seen_core, seen_cores, seen_bound}

-- how many slots the values within a form take that are under way at once
abbrev mutual
  pub slots_of : cores.Core → ℕ
  slots_of (Var x) = 0
  slots_of (Const o) = 0
  slots_of (If a b c) = max (slots_of a) (max (slots_of b) (slots_of c))
  slots_of (Let names bound body) = max (slots_of_all bound) (length names + slots_of body)
  slots_of (Mv parts) = slots_of_all parts
  slots_of (MvLet names bound body) = max (slots_of bound) (length names + slots_of body)
  slots_of (StobjLet names bound vars producer consumer) = max (length names + slots_of producer) (length vars + slots_of consumer)
  slots_of (WithLocal stobj names producer body) = max (1 + slots_of producer) (length names + slots_of body)
  slots_of (MustBeEqual logic exec) = slots_of logic
  slots_of (Call f actuals) = slots_of_all actuals

  pub slots_of_all : Cores → ℕ
  slots_of_all none = 0
  slots_of_all (more f fs) = max (slots_of f) (1 + slots_of_all fs)

-- the longest list of names or of parts that a form has
abbrev mutual
  pub longest_of : cores.Core → ℕ
  longest_of (Var x) = 0
  longest_of (Const o) = 0
  longest_of (If a b c) = max (longest_of a) (max (longest_of b) (longest_of c))
  longest_of (Let names bound body) = max (max (length names) (count bound)) (max (longest_of_all bound) (longest_of body))
  longest_of (Mv parts) = max (count parts) (longest_of_all parts)
  longest_of (MvLet names bound body) = max (length names) (max (longest_of bound) (longest_of body))
  longest_of (StobjLet names bound vars producer consumer) = max (max (length names) (length vars)) (max (longest_of producer) (longest_of consumer))
  longest_of (WithLocal stobj names producer body) = max (max 1 (length names)) (max (longest_of producer) (longest_of body))
  longest_of (MustBeEqual logic exec) = longest_of logic
  longest_of (Call f actuals) = max (count actuals) (longest_of_all actuals)

  pub longest_of_all : Cores → ℕ
  longest_of_all none = 0
  longest_of_all (more f fs) = max (longest_of f) (longest_of_all fs)

-- the form is at most 2,048 deep, the slots of its values fit 64 bits where they begin at this one, and its words lie in the heap
pub record Fits (h : Objects) (at : ℕ) (f : Core) : Type 0 where
  pub deep : depth_of (seen_core h f) ≤ 2048
  pub room : at + slots_of (seen_core h f) < 2 ^ 64
  pub lies : core_reach f ≤ length h

-- each of the parts of a form, each a slot further on
pub record FitParts (h : Objects) (at : ℕ) (fs : List Core) : Type 0 where
  pub deep : depth_of_all (cores.cores (seen_cores h fs)) ≤ 2048
  pub room : at + slots_of_all (cores.cores (seen_cores h fs)) < 2 ^ 64
  pub lies : most (map core_reach fs) ≤ length h

-- each of the forms that are bound, each a slot further on
pub record FitBound (h : Objects) (at : ℕ) (bs : List (SymId × Core)) : Type 0 where
  pub deep : depth_of_all (cores.cores (seen_bound h bs)) ≤ 2048
  pub room : at + slots_of_all (cores.cores (seen_bound h bs)) < 2 ^ 64
  pub lies : most (map (λ (b : SymId × Core). core_reach b.1) bs) ≤ length h
