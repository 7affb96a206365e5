-- What is said of evaluation on stobjs that are alike, as laws.
use Rattle.std.specs.Prelude.{◌≡◌, ℕ, List}
use Rattle.std.specs.Ordering.{nat_cmp}
use Rattle.std.specs.declared.cmp.Ordering.{Ordering}
use Rattle.model_symbols.specs.Symbols.{QualifiedName, Package}
use Rattle.model_terms.specs.Cores.{Core}
use Rattle.model_terms.specs.Worlds.{World}
use Rattle.model_eval.specs.Outcomes.{Stobjs, State}
use Rattle.model_eval.specs.Variables.{Variables}
use Rattle.model_eval.specs.Checked.{checked, begun, live}
use Rattle.model_eval_alike.specs.Alike.{AreAlikeStobjs, AreAlikeStates, AreAlikeOutcomes, canonical_stobjs}

-- stobjs are alike to themselves, both ways and in steps
pub record IsLikeness {S : Type 0} (names : S → S → Ordering) : Type 0 where
  pub itself : (os : Stobjs S) → AreAlikeStobjs names os os
  pub turned : (os ps : Stobjs S) → AreAlikeStobjs names os ps → AreAlikeStobjs names ps os
  pub joined : (os ps qs : Stobjs S) → AreAlikeStobjs names os ps → AreAlikeStobjs names ps qs → AreAlikeStobjs names os qs

-- stobjs are alike to those with their canonical lists, which are the same for all that are alike
pub record CanonicalStobjs : Type 0 where
  pub alike : (os : Stobjs ℕ) → AreAlikeStobjs nat_cmp os (canonical_stobjs os)
  pub one : (os ps : Stobjs ℕ) → AreAlikeStobjs nat_cmp os ps → canonical_stobjs os ≡ canonical_stobjs ps
  pub back : (os ps : Stobjs ℕ) → canonical_stobjs os ≡ canonical_stobjs ps → AreAlikeStobjs nat_cmp os ps

-- checked evaluation does not tell states apart that are alike, whatever the form
pub record EvaluatesAlike : Type 0 where
  pub forms : (w : World) (packages : List Package) (limit depth : ℕ) (form : Core) (variables : Variables ℕ) (a b : State ℕ) → AreAlikeStates nat_cmp a b
      → AreAlikeOutcomes nat_cmp (checked w packages limit depth form variables a) (checked w packages limit depth form variables b)
  -- an evaluation that begins, of a form over variables or over the stobjs alone
  pub begins : (symbols : List QualifiedName) (os ps : Stobjs ℕ) (used : ℕ) → AreAlikeStobjs nat_cmp os ps → AreAlikeStates nat_cmp (begun symbols os used) (begun symbols ps used)
  pub whole : (w : World) (packages : List Package) (limit depth : ℕ) (form : Core) (symbols : List QualifiedName) (os ps : Stobjs ℕ) (used : ℕ) → AreAlikeStobjs nat_cmp os ps
      → AreAlikeOutcomes nat_cmp (checked w packages limit depth form (live os) (begun symbols os used)) (checked w packages limit depth form (live ps) (begun symbols ps used))
