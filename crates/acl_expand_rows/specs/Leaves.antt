-- The values of forms that are no calls, and the outcomes that give them.
use Rattle.std.specs.Prelude.{◌≡◌, ℕ, [], ◌∷◌, Option, Some, None}
use Rattle.model_prims.specs.Kinds.{by_number}
use Rattle.model_terms.specs.Cores.{Core, Var, Const, If, Let, Mv, MvLet, StobjLet, WithLocal, MustBeEqual, Call}
use Rattle.model_eval.specs.Outcomes as outcomes
use Rattle.model_eval.specs.Variables.{Variables, variable_in}
use Rattle.acl_base.specs.declared.Word.{Word}
use Rattle.acl_terms.specs.declared.outcome.Shown.TheVariants as shown
use Rattle.acl_engine.specs.declared.outcome.Outcome.{Outcome}

-- the value of a variable or a constant
abbrev pub leaf_value : Core → Variables ℕ → Option (outcomes.Shown ℕ)
leaf_value (Var x) variables = Some (variable_in by_number variables x)
leaf_value (Const o) variables = Some (outcomes.Plain o)
leaf_value (If a b c) variables = None
leaf_value (Let names bound body) variables = None
leaf_value (Mv parts) variables = None
leaf_value (MvLet names bound body) variables = None
leaf_value (StobjLet names bound vars producer consumer) variables = None
leaf_value (WithLocal stobj names producer body) variables = None
leaf_value (MustBeEqual logic exec) variables = None
leaf_value (Call f actuals) variables = None

-- the outcome gives this word, with no call beyond those before
pub record Given (o : Outcome) (w : Word) (used : ℕ) : Type 0 where
  pub stop : o.stop ≡ None
  pub values : o.values.items ≡ shown.Value w ∷ []
  pub calls : o.calls ≡ used
  pub outer : o.outer ≡ 0
