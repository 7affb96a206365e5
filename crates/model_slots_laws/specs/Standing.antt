-- Whether a form has a tree, by the functions of the world alone.
use Rattle.std.specs.Prelude.{ℕ, List, [], ◌∷◌, Bool, true, false, ◌&&◌, Option, Some, None, is_some}
use Rattle.model_terms.specs.Cores.{Core, Cores, Reached, Var, Const, If, Let, Mv, MvLet, StobjLet, WithLocal, MustBeEqual, Call, none, more, reached}
use Rattle.model_terms.specs.Worlds.{World, definition}

-- a definition of this name stands
abbrev pub stands : World → ℕ → Bool
stands w f = is_some (definition w f)

-- each function that is called stands; what a `STOBJ-LET` binds calls none, and what a `MUST-BE-EQUAL` would run does not count
unfoldable mutual
  pub functions_stand : World → Core → Bool
  functions_stand w (Var x) = true
  functions_stand w (Const o) = true
  functions_stand w (If a b c) = functions_stand w a && (functions_stand w b && functions_stand w c)
  functions_stand w (Let xs bound body) = all_functions_stand w bound && functions_stand w body
  functions_stand w (Mv parts) = all_functions_stand w parts
  functions_stand w (MvLet xs bound body) = functions_stand w bound && functions_stand w body
  functions_stand w (StobjLet xs bound vars producer consumer) = functions_stand w producer && functions_stand w consumer
  functions_stand w (WithLocal stobj xs producer body) = functions_stand w producer && functions_stand w body
  functions_stand w (MustBeEqual logic exec) = functions_stand w logic
  functions_stand w (Call f actuals) = stands w f && all_functions_stand w actuals

  pub all_functions_stand : World → Cores → Bool
  all_functions_stand w none = true
  all_functions_stand w (more f fs) = functions_stand w f && all_functions_stand w fs

-- ---- children

-- a child is reached, by a function that stands
abbrev pub is_reached : World → Option Reached → Bool
is_reached w None = false
is_reached w (Some by) = stands w by.accessor

-- what is bound to these names reaches children, as far as both reach
abbrev pub all_reached : World → List ℕ → Cores → Bool
all_reached w xs none = true
all_reached w [] (more f fs) = true
all_reached w (x ∷ xs) (more f fs) = is_reached w (reached f) && all_reached w xs fs

-- ---- forms

unfoldable mutual
  -- each function that is called stands, and each binding of a `STOBJ-LET` reaches a child; what a `MUST-BE-EQUAL` would run
  -- does not count
  pub has_tree : World → Core → Bool
  has_tree w (Var x) = true
  has_tree w (Const o) = true
  has_tree w (If a b c) = has_tree w a && (has_tree w b && has_tree w c)
  has_tree w (Let xs bound body) = all_have_trees w bound && has_tree w body
  has_tree w (Mv parts) = all_have_trees w parts
  has_tree w (MvLet xs bound body) = has_tree w bound && has_tree w body
  has_tree w (StobjLet xs bound vars producer consumer) = all_reached w xs bound && (has_tree w producer && has_tree w consumer)
  has_tree w (WithLocal stobj xs producer body) = has_tree w producer && has_tree w body
  has_tree w (MustBeEqual logic exec) = has_tree w logic
  has_tree w (Call f actuals) = stands w f && all_have_trees w actuals

  pub all_have_trees : World → Cores → Bool
  all_have_trees w none = true
  all_have_trees w (more f fs) = has_tree w f && all_have_trees w fs
