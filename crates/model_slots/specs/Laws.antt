-- What is said of slots and trees, as laws.
use Rattle.std.specs.Prelude.{◌≡◌, ℕ, ◌+◌, ◌<◌, List, [], ◌∷◌, ◌++◌, map, length, true, false, Option, Some, None, slice_get}
use Rattle.std.specs.Option.{option_map_or}
use Rattle.model_prims.specs.Kinds.{SymbolKind}
use Rattle.model_terms.specs.Cores as cores
use Rattle.model_terms.specs.Cores.{Core, Cores, Reached, reached}
use Rattle.model_terms.specs.Worlds.{World, definition}
use Rattle.model_terms.specs.Classes.{is_stobj_name, has}
use Rattle.model_terms.specs.Scopes.{ordinary_names}
use Rattle.model_eval.specs.Outcomes.{Shown, Plain, StobjNamed}
use Rattle.model_eval.specs.Keeping.{Loan}
use Rattle.model_eval.specs.Variables.{Variables, variable_in, nothing, bound, inner_variables}
use Rattle.model_slots.specs.Trees.{Tree}
use Rattle.model_slots.specs.Environments.{Environment, names_in, slot_in, LiesBelow, all_bound, ordinary_bound, formal_environment, variables_in}
use Rattle.model_slots.specs.Resolved.{number_in, resolved}

-- ---- windows

-- these values lie in the window from this slot on
abbrev pub Holds : {S : Type 0} → (ℕ → Shown S) → ℕ → List (Shown S) → Type 0
Holds window s [] = Unit {0}
Holds window s (v ∷ vs) = (window s ≡ v) × Holds window (s + 1) vs

-- a value for each name, ordinary where the name is no stobj's, and a stobj where it is one's
abbrev pub AreAsNamed : {S : Type 0} → World → List ℕ → List (Shown S) → Type 0
AreAsNamed w [] values = Unit {0}
AreAsNamed w (x ∷ xs) [] = ⊥
AreAsNamed w (x ∷ xs) (Plain o ∷ vs) = (is_stobj_name w x ≡ false) × AreAsNamed w xs vs
AreAsNamed w (x ∷ xs) (StobjNamed y ∷ vs) = (is_stobj_name w x ≡ true) × AreAsNamed w xs vs

-- actuals as a call's body has them: a stobj under the name of its formal
abbrev pub as_formals : {S : Type 0} → List ℕ → List (Shown S) → List (Shown S)
as_formals [] actuals = []
as_formals (x ∷ xs) [] = []
as_formals (x ∷ xs) (Plain o ∷ vs) = Plain o ∷ as_formals xs vs
as_formals (x ∷ xs) (StobjNamed y ∷ vs) = StobjNamed x ∷ as_formals xs vs

-- the slot of a name is where checked evaluation finds its variable; a name without a slot has no variable
pub record FindsVariables (S : Type 0) : Type 0 where
  pub value : (k : SymbolKind S) (window : ℕ → Shown S) (env : Environment) (x : ℕ) → variable_in k (variables_in window env) x ≡ option_map_or window (slot_in env x) (nothing k)

-- where values lie in a window as the forms say, what an environment binds is what checked evaluation binds: the formals of a
-- call, the names of `LET`, `MV-LET`, a consumer and the body after a local stobj, the children in a producer, and a local stobj
pub record BindsAsEvaluation (S : Type 0) : Type 0 where
  pub formals : (window : ℕ → Shown S) (formals : List ℕ) (actuals : List (Shown S)) → length formals ≡ length actuals → Holds window 0 (as_formals formals actuals)
      → inner_variables formals actuals ≡ variables_in window (formal_environment formals)
  pub names : (w : World) (window : ℕ → Shown S) (s : ℕ) (env : Environment) (names : List ℕ) (values : List (Shown S)) → AreAsNamed w names values → Holds window s values
      → bound names values (variables_in window env) ≡ variables_in window (ordinary_bound w s names env)
  pub children : (window : ℕ → Shown S) (s : ℕ) (env : Environment) (loans : List (Loan S)) → Holds window s (map (λ (l : Loan S). StobjNamed l.child) loans)
      → map (λ (l : Loan S). (l.child, StobjNamed l.child)) loans ++ variables_in window env ≡ variables_in window (all_bound s (map (λ (l : Loan S). l.child) loans) env)
  pub local : (window : ℕ → Shown S) (s : ℕ) (env : Environment) (x : ℕ) → window s ≡ StobjNamed x
      → (x, StobjNamed x) ∷ variables_in window env ≡ variables_in window (all_bound s (x ∷ []) env)
  -- what is written at a slot or behind it leaves the variables below it
  pub below : (window later : ℕ → Shown S) (s : ℕ) (env : Environment) → LiesBelow s env → ((i : ℕ) → i < s → later i ≡ window i) → variables_in later env ≡ variables_in window env

-- what is bound lies below the slot behind it, and has the names of checked evaluation's variables
pub record AreBound : Type 0 where
  pub formals : (formals : List ℕ) → LiesBelow (length formals) (formal_environment formals)
  pub names : (w : World) (s : ℕ) (env : Environment) (names : List ℕ) → LiesBelow s env → LiesBelow (s + length names) (ordinary_bound w s names env)
  pub all : (s : ℕ) (env : Environment) (names : List ℕ) → LiesBelow s env → LiesBelow (s + length names) (all_bound s names env)
  pub ordinary_named : (w : World) (s : ℕ) (env : Environment) (names : List ℕ) → names_in (ordinary_bound w s names env) ≡ ordinary_names w names ++ names_in env
  pub all_named : (s : ℕ) (env : Environment) (names : List ℕ) → names_in (all_bound s names env) ≡ names ++ names_in env

-- ---- worlds

-- each of these names is a stobj's in both worlds, or in none
abbrev pub AreSame : World → World → List ℕ → Type 0
AreSame w w' [] = Unit {0}
AreSame w w' (x ∷ xs) = (is_stobj_name w' x ≡ is_stobj_name w x) × AreSame w w' xs

-- each name that a form binds as an ordinary one, or not, is that in both worlds
unfoldable mutual
  pub SameNames : World → World → Core → Type 0
  SameNames w w' (cores.Var x) = Unit {0}
  SameNames w w' (cores.Const o) = Unit {0}
  SameNames w w' (cores.If a b c) = SameNames w w' a × SameNames w w' b × SameNames w w' c
  SameNames w w' (cores.Let names bound body) = AreSame w w' names × AllSameNames w w' bound × SameNames w w' body
  SameNames w w' (cores.Mv parts) = AllSameNames w w' parts
  SameNames w w' (cores.MvLet names bound body) = AreSame w w' names × SameNames w w' bound × SameNames w w' body
  SameNames w w' (cores.StobjLet names bound vars producer consumer) = AreSame w w' vars × SameNames w w' producer × SameNames w w' consumer
  SameNames w w' (cores.WithLocal stobj names producer body) = AreSame w w' names × SameNames w w' producer × SameNames w w' body
  SameNames w w' (cores.MustBeEqual logic exec) = SameNames w w' logic
  SameNames w w' (cores.Call f actuals) = AllSameNames w w' actuals

  pub AllSameNames : World → World → Cores → Type 0
  AllSameNames w w' cores.none = Unit {0}
  AllSameNames w w' (cores.more f fs) = SameNames w w' f × AllSameNames w w' fs

-- a function's number finds its definition, and neither the number nor a tree changes as definitions are added
pub record KeepsNumbers : Type 0 where
  pub finds : (w : World) (f n : ℕ) → number_in w f ≡ Some n → definition w f ≡ slice_get w n
  pub nowhere : (w : World) (f : ℕ) → number_in w f ≡ None → definition w f ≡ None
  pub number : (w added : World) (f n : ℕ) → number_in w f ≡ Some n → number_in (w ++ added) f ≡ Some n
  pub tree : (w added : World) (env : Environment) (s : ℕ) (form : Core) (t : Tree) → SameNames w (w ++ added) form → resolved w env s form ≡ Some t → resolved (w ++ added) env s form ≡ Some t
