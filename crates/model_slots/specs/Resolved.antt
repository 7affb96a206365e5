-- The tree of a core form in an environment.
use Rattle.std.specs.Prelude.{ℕ, ◌+◌, List, [], ◌∷◌, map, length, Bool, Option, Some, None, nat_eq, position, option_map}
use Rattle.std.specs.Option.{option_map_or}
use Rattle.std.specs.List.{list_any}
use Rattle.model_prims.specs.Kinds.{by_number, nil_of}
use Rattle.model_terms.specs.Cores as cores
use Rattle.model_terms.specs.Cores.{Core, Cores, Reached, reached}
use Rattle.model_terms.specs.Worlds.{World, definition_name}
use Rattle.model_slots.specs.Trees.{Tree, Trees, Child, Operand, Slot, Const, none, more}
use Rattle.model_slots.specs.Trees as trees
use Rattle.model_slots.specs.Environments.{Environment, slot_in, all_bound, ordinary_bound}

-- of two things and of three, where each is there
abbrev pub both : {A B C : Type 0} → (A → B → C) → Option A → Option B → Option C
both f None b = None
both f (Some a) None = None
both f (Some a) (Some b) = Some (f a b)

abbrev pub all_three : {A B C D : Type 0} → (A → B → C → D) → Option A → Option B → Option C → Option D
all_three f None b c = None
all_three f (Some a) None c = None
all_three f (Some a) (Some b) None = None
all_three f (Some a) (Some b) (Some c) = Some (f a b c)

-- the number of the definition of a name
abbrev pub number_in : World → ℕ → Option ℕ
number_in w f = position (nat_eq f) (map definition_name w)

-- ---- variables

-- the variable of a name; checked evaluation reads one that is not there as NIL
abbrev pub variable_at : Environment → ℕ → Operand
variable_at env x = option_map_or Slot (slot_in env x) (Const (nil_of by_number))

-- ---- children

-- a variable or a constant; what is neither is read as NIL
abbrev pub operand_in : Environment → Core → Operand
operand_in env (cores.Var x) = variable_at env x
operand_in env (cores.Const o) = Const o
operand_in env (cores.If a b c) = Const (nil_of by_number)
operand_in env (cores.Let names bound body) = Const (nil_of by_number)
operand_in env (cores.Mv parts) = Const (nil_of by_number)
operand_in env (cores.MvLet names bound body) = Const (nil_of by_number)
operand_in env (cores.StobjLet names bound vars producer consumer) = Const (nil_of by_number)
operand_in env (cores.WithLocal stobj names producer body) = Const (nil_of by_number)
operand_in env (cores.MustBeEqual logic exec) = Const (nil_of by_number)
operand_in env (cores.Call f actuals) = Const (nil_of by_number)

abbrev pub index_in : Environment → Option Core → Option Operand
index_in env form = option_map (operand_in env) form

abbrev pub child_of : ℕ → Bool → Option Operand → Operand → ℕ → Child
child_of x returns index parent accessor = record { name = x; accessor = accessor; index = index; parent = parent; returns = returns }

abbrev pub child_in : World → Environment → List ℕ → ℕ → Option Reached → Option Child
child_in w env vars x None = None
child_in w env vars x (Some by) = option_map (child_of x (list_any (nat_eq x) vars) (index_in env by.index) (variable_at env by.parent)) (number_in w by.accessor)

-- the children that these names are bound to, as far as both reach
abbrev pub children_in : World → Environment → List ℕ → List ℕ → Cores → Option (List Child)
children_in w env vars names cores.none = Some []
children_in w env vars [] (cores.more form forms) = Some []
children_in w env vars (x ∷ xs) (cores.more form forms) = both (λ c cs. c ∷ cs) (child_in w env vars x (reached form)) (children_in w env vars xs forms)

-- ---- forms

unfoldable mutual
  -- the tree of a form whose own values begin at this slot; none where a function does not stand, or what is bound to a child is
  -- no call that reaches one
  pub resolved : World → Environment → ℕ → Core → Option Tree
  resolved w env s (cores.Var x) = Some (trees.Leaf (variable_at env x))
  resolved w env s (cores.Const o) = Some (trees.Leaf (Const o))
  resolved w env s (cores.If a b c) = all_three (trees.If s) (resolved w env s a) (resolved w env s b) (resolved w env s c)
  resolved w env s (cores.Let names bound body) =
      both (trees.Let s) (all_resolved w env s bound) (resolved w (ordinary_bound w s names env) (s + length names) body)
  resolved w env s (cores.Mv parts) = option_map (trees.Mv s) (all_resolved w env s parts)
  resolved w env s (cores.MvLet names bound body) =
      both (trees.MvLet s) (resolved w env s bound) (resolved w (ordinary_bound w s names env) (s + length names) body)
  resolved w env s (cores.StobjLet names bound vars producer consumer) =
      all_three (trees.StobjLet s) (children_in w env vars names bound)
      (resolved w (all_bound s names env) (s + length names) producer)
      (resolved w (ordinary_bound w s vars env) (s + length vars) consumer)
  resolved w env s (cores.WithLocal stobj names producer body) =
      both (trees.WithLocal s stobj) (resolved w (all_bound s (stobj ∷ []) env) (s + 1) producer)
      (resolved w (ordinary_bound w s names env) (s + length names) body)
  resolved w env s (cores.MustBeEqual logic exec) = option_map trees.MustBeEqual (resolved w env s logic)
  resolved w env s (cores.Call f actuals) = both (trees.Call s) (number_in w f) (all_resolved w env s actuals)

  -- the trees of parts, each a slot further on
  pub all_resolved : World → Environment → ℕ → Cores → Option Trees
  all_resolved w env s cores.none = Some none
  all_resolved w env s (cores.more f fs) = both more (resolved w env s f) (all_resolved w env (s + 1) fs)
