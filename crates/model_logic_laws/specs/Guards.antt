-- An accepted form in which functions are called by other names, under which the logic gives the same, has the same value, as a
-- law; and only variables in scope matter.
use Rattle.std.specs.Prelude.{◌≡◌, ◌≢◌, ℕ, List, Option, Some, None}
use Rattle.model_terms.specs.declared.rule.Mode.{Mode}
use Rattle.model_terms.specs.declared.rule.Mode.TheVariants.{Logic}
use Rattle.model_terms.specs.Cores.{Core}
use Rattle.model_terms.specs.Worlds.{World, Out, Scope, FunctionOfAbstract, OfAbstract, definition}
use Rattle.model_terms.specs.Scopes.{kind_in}
use Rattle.model_terms.specs.Accessors.{ChildAccessor, child_accessor}
use Rattle.model_logic.specs.Logic.{Theory, Thing, Values, value_in, call_within, EndsWith}
use Rattle.model_accepted.specs.Threaded.{IsFormed}
use Rattle.model_accepted.specs.Accepted.{Accepted}
use Rattle.model_stobjs.specs.Guards.{Renaming, renamed_name, with_functions}

-- the names in scope have the same values
pub record AgreeOn (scope : Scope) (values others : Values) : Type 0 where
  pub same : (x : ℕ) (k : Out) → kind_in scope x ≡ Some k → value_in values x ≡ value_in others x

-- calls by the other names are as those by the first, and accessors of children keep their names
pub record CallsAlike (b : Theory) (c : World) (r : Renaming) : Type 0 where
  pub calls : (budget nest f : ℕ) (args : List Thing) (n : ℕ) → call_within b budget nest (renamed_name r f) args n ≡ call_within b budget nest f args n
  pub accessors : (f : ℕ) (a : ChildAccessor) → child_accessor c (renamed_name r f) ≡ Some a → renamed_name r f ≡ f

pub record RenamedFormsAgree : Type 0 where
  pub ends : (b : Theory) (c : World) (r : Renaming) → CallsAlike b c r → (mode : Mode) (scope : Scope) (form : Core) (formal : Option ℕ) (expected : List Out) → mode ≢ Logic
      → Accepted c mode scope (with_functions form r) formal expected → IsFormed c (with_functions form r)
      → (values others : Values) → AgreeOn scope values others → (v : Thing) → EndsWith b (with_functions form r) values v → EndsWith b form others v

-- a function of an abstract stobj is called as its logic function, which is of none itself
pub record ExportsCallAlike : Type 0 where
  pub calls : (b : Theory) (x : ℕ) (f : FunctionOfAbstract) → definition b.world x ≡ Some (OfAbstract f) → ((g : FunctionOfAbstract) → definition b.world f.logic ≡ Some (OfAbstract g) → ⊥)
      → (budget nest : ℕ) (args : List Thing) (n : ℕ) → call_within b budget nest x args n ≡ call_within b budget nest f.logic args n
