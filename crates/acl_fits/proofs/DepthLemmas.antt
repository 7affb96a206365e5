-- The depth that the check asks and the one that an expansion keeps to are the same.
use Rattle.std.proofs.Common.{◌≡◌, ℕ, ◌≤◌, List, refl, arith}
use Rattle.model_objects.specs.Object.{Object}
use Rattle.model_terms.specs.Cores.{Core, Cores, Var, Const, If, Let, Mv, MvLet, StobjLet, WithLocal, MustBeEqual, Call, none, more}
use Rattle.model_expansion.specs.TypeTerms as expansion
use Rattle.model_expansion.specs.Layers.{GuardItem}
use Rattle.model_expansion.specs.Expansion.{Setting, Progress, Makes, expanded, expanded_guard}
use Rattle.model_expansion_laws.proofs.NestingLemmas.{cores_are_not_too_deep}
use Rattle.acl_terms.specs.Depths.{depth_of, depth_of_all}
use Rattle.acl_fits.specs.Laws.{DepthsAgree, ExpansionsAreShallow}

mutual
  same_depth : (f : Core) → depth_of f ≡ expansion.depth_of f
  same_depth (Var x) = refl
  same_depth (Const o) = refl
  same_depth (If a b c) = rw (same_depth a, same_depth b, same_depth c) refl
  same_depth (Let names bound body) = rw (same_depths bound, same_depth body) refl
  same_depth (Mv parts) = rw (same_depths parts) refl
  same_depth (MvLet names bound body) = rw (same_depth bound, same_depth body) refl
  same_depth (StobjLet names bound vars producer consumer) = rw (same_depths bound, same_depth producer, same_depth consumer) refl
  same_depth (WithLocal stobj names producer body) = rw (same_depth producer, same_depth body) refl
  same_depth (MustBeEqual logic exec) = rw (same_depth logic, same_depth exec) refl
  same_depth (Call f actuals) = rw (same_depths actuals) refl

  same_depths : (fs : Cores) → depth_of_all fs ≡ expansion.depth_of_all fs
  same_depths none = refl
  same_depths (more f fs) = rw (same_depth f, same_depths fs) refl

pub depths_agree : DepthsAgree
depths_agree = record { form = same_depth; parts = same_depths }

shallow_form : (x : Setting) (o : Object ℕ) (p q : Progress) (f : Core) → expanded x o p ≡ Makes f q → depth_of f ≤ 2048
shallow_form x o p q f e = omega (arith, cores_are_not_too_deep.form x o p q f e, same_depth f)

shallow_guard : (x : Setting) (gs : List GuardItem) (p q : Progress) (f : Core) → expanded_guard x gs p ≡ Makes f q → depth_of f ≤ 2048
shallow_guard x gs p q f e = omega (arith, cores_are_not_too_deep.guard x gs p q f e, same_depth f)

pub expansions_are_shallow : ExpansionsAreShallow
expansions_are_shallow = record { form = shallow_form; guard = shallow_guard }
