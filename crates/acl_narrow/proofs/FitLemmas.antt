-- What narrow forms fit.
use Rattle.std.specs.Prelude.{◌≤◌, max}
use Rattle.std.proofs.Common.{arith}
use Rattle.model_terms.specs.Cores as cores
use Rattle.acl_terms.specs.Forms.{seen_core}
use Rattle.acl_thread.specs.Sizes.{width_of, width_of_all}
use Rattle.acl_code.specs.Sizes.{longest_of, longest_of_all}
use Rattle.acl_code.proofs.SizeLemmas.{few_fit}
use Rattle.acl_narrow.specs.Narrow.{breadth_of, breadth_of_all}
use Rattle.acl_narrow.specs.Laws.{NarrowFit}
use Rattle.acl_narrow.proofs.NarrowLemmas.{narrow}

mutual
  width_few : (f : cores.Core) → width_of f ≤ max 3 (breadth_of f)
  width_few (cores.Var x) = omega arith
  width_few (cores.Const o) = omega arith
  width_few (cores.If a b c) = omega (arith, width_few a, width_few b, width_few c)
  width_few (cores.Let names bound body) = omega (arith, width_all bound, width_few body)
  width_few (cores.Mv parts) = omega (arith, width_all parts)
  width_few (cores.MvLet names bound body) = omega (arith, width_few bound, width_few body)
  width_few (cores.StobjLet names bound vars producer consumer) = omega (arith, width_few producer, width_few consumer)
  width_few (cores.WithLocal stobj names producer body) = omega (arith, width_few producer, width_few body)
  width_few (cores.MustBeEqual logic exec) = omega (arith, width_few logic, width_few exec)
  width_few (cores.Call f actuals) = omega (arith, width_all actuals)

  width_all : (fs : cores.Cores) → width_of_all fs ≤ max 3 (breadth_of_all fs)
  width_all cores.none = omega arith
  width_all (cores.more f fs) = omega (arith, width_few f, width_all fs)

mutual
  longest_few : (f : cores.Core) → longest_of f ≤ max 1 (breadth_of f)
  longest_few (cores.Var x) = omega arith
  longest_few (cores.Const o) = omega arith
  longest_few (cores.If a b c) = omega (arith, longest_few a, longest_few b, longest_few c)
  longest_few (cores.Let names bound body) = omega (arith, longest_all bound, longest_few body)
  longest_few (cores.Mv parts) = omega (arith, longest_all parts)
  longest_few (cores.MvLet names bound body) = omega (arith, longest_few bound, longest_few body)
  longest_few (cores.StobjLet names bound vars producer consumer) = omega (arith, longest_few producer, longest_few consumer)
  longest_few (cores.WithLocal stobj names producer body) = omega (arith, longest_few producer, longest_few body)
  longest_few (cores.MustBeEqual logic exec) = omega (arith, longest_few logic)
  longest_few (cores.Call f actuals) = omega (arith, longest_all actuals)

  longest_all : (fs : cores.Cores) → longest_of_all fs ≤ max 1 (breadth_of_all fs)
  longest_all cores.none = omega arith
  longest_all (cores.more f fs) = omega (arith, longest_few f, longest_all fs)

pub narrow_fit : NarrowFit
narrow_fit = record {
  checked = λ h f e l. let n = narrow 2048 (seen_core h f) e in record { deep = n.deep; wide = omega (arith, n.wide, width_few (seen_core h f)); lies = l };
  made = λ h at f a e l. let n = narrow 2048 (seen_core h f) e in few_fit h at f a n.deep (omega (arith, n.wide, longest_few (seen_core h f))) l;
}
