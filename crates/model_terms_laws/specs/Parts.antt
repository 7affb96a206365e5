-- The first fault of a form by those of its children: the form's own, else that of the first child that has one.
use Rattle.std.specs.Prelude.{◌≡◌, ℕ, ◌+◌, List, [], ◌∷◌, Option, None, option_map}
use Rattle.std.specs.Option.{option_or}
use Rattle.model_terms.specs.declared.rule.Mode.{Mode}
use Rattle.model_terms.specs.Cores.{Core, Cores, none, more, Var, Const, If, Let, Mv, MvLet, StobjLet, WithLocal, MustBeEqual, Call, count}
use Rattle.model_terms.specs.Worlds.{World, Out, Scope}
use Rattle.model_terms.specs.Scopes.{name_kinds, binding, producer_scope, consumer_scope, local_scope, body_scope}
use Rattle.model_terms.specs.Sites.{one_ordinary, first_kind, other_kinds, ins_of, formal_stobj, actual_expected, parent_in, here, below_parts, below_actuals}
use Rattle.model_terms.specs.Faults.{Fault, fault_at, first_in, first_at}

-- a fault of child number k
abbrev pub fault_down : ℕ → Option Fault → Option Fault
fault_down k fault = option_map (λ (f : Fault). record { rule = f.rule; place = k ∷ f.place }) fault

-- the fault of a form itself
abbrev pub own_fault : World → Mode → Scope → Core → Option ℕ → List Out → Option Fault
own_fault w mode scope f formal expected = fault_at w mode (here f scope formal expected)

-- the first fault of a child
abbrev pub child_fault : World → Mode → ℕ → Scope → Core → List Out → Option Fault
child_fault w mode k scope f expected = fault_down k (first_at w mode scope f None expected)

-- the first fault among forms that give one output each, and among the actuals of a call
unfoldable pub parts_fault : World → Mode → Scope → List Out → ℕ → Cores → Option Fault
parts_fault w mode scope kinds k fs = first_in w mode (below_parts w scope kinds k fs)

unfoldable pub actuals_fault : World → Mode → Scope → List Out → ℕ → Cores → Option Fault
actuals_fault w mode scope ins k fs = first_in w mode (below_actuals w scope ins k fs)

-- what comes below a form
abbrev pub faults_below : World → Mode → Scope → Core → List Out → Option Fault
faults_below w mode scope (Var x) expected = None
faults_below w mode scope (Const o) expected = None
faults_below w mode scope (If a b c) expected =
    option_or (child_fault w mode 0 scope a one_ordinary) (option_or (child_fault w mode 1 scope b expected) (child_fault w mode 2 scope c expected))
faults_below w mode scope (Let names bound body) expected =
    option_or (parts_fault w mode scope (name_kinds w names) 0 bound) (child_fault w mode (count bound) (binding w scope names) body expected)
faults_below w mode scope (Mv parts) expected = parts_fault w mode scope expected 0 parts
faults_below w mode scope (MvLet names bound body) expected =
    option_or (child_fault w mode 0 scope bound (name_kinds w names)) (child_fault w mode 1 (binding w scope names) body expected)
faults_below w mode scope (StobjLet names bound vars producer consumer) expected =
    option_or (child_fault w mode 0 (producer_scope w scope (parent_in bound) names) producer (name_kinds w vars)) (child_fault w mode 1 (consumer_scope w scope names vars) consumer expected)
faults_below w mode scope (WithLocal stobj names producer body) expected =
    option_or (child_fault w mode 0 (local_scope w scope stobj) producer (name_kinds w names)) (child_fault w mode 1 (body_scope w scope stobj names) body expected)
faults_below w mode scope (MustBeEqual logic exec) expected = option_or (child_fault w mode 0 scope logic expected) (child_fault w mode 1 scope exec expected)
faults_below w mode scope (Call f actuals) expected = actuals_fault w mode scope (ins_of w f) 0 actuals

-- the first fault of a form is its own, else the first below it; likewise of parts and of actuals, one after the other
pub record GoesDown : Type 0 where
  pub at_form : (w : World) (mode : Mode) (scope : Scope) (f : Core) (formal : Option ℕ) (expected : List Out)
      → first_at w mode scope f formal expected ≡ option_or (own_fault w mode scope f formal expected) (faults_below w mode scope f expected)
  pub no_part : (w : World) (mode : Mode) (scope : Scope) (kinds : List Out) (k : ℕ) → parts_fault w mode scope kinds k none ≡ None
  pub first_part : (w : World) (mode : Mode) (scope : Scope) (kinds : List Out) (k : ℕ) (f : Core) (fs : Cores)
      → parts_fault w mode scope kinds k (more f fs) ≡ option_or (child_fault w mode k scope f (first_kind kinds ∷ [])) (parts_fault w mode scope (other_kinds kinds) (k + 1) fs)
  pub no_actual : (w : World) (mode : Mode) (scope : Scope) (ins : List Out) (k : ℕ) → actuals_fault w mode scope ins k none ≡ None
  pub first_actual : (w : World) (mode : Mode) (scope : Scope) (ins : List Out) (k : ℕ) (f : Core) (fs : Cores)
      → actuals_fault w mode scope ins k (more f fs)
      ≡ option_or (fault_down k (first_at w mode scope f (formal_stobj (first_kind ins)) (actual_expected (first_kind ins) f))) (actuals_fault w mode scope (other_kinds ins) (k + 1) fs)
