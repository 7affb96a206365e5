-- What is known of the bodies of macros, as laws.
use Rattle.std.specs.Prelude.{◌≡◌, ℕ, ◌≤◌, List, [], length, None}
use Rattle.model_objects.specs.Object.{Object}
use Rattle.model_symbols.specs.Symbols.{QualifiedName, Package}
use Rattle.model_terms.specs.declared.rule.Mode.TheVariants.{Executable, Macro}
use Rattle.model_terms.specs.Cores.{Core}
use Rattle.model_terms.specs.Worlds.{World, Out, Scope, MacroFormals}
use Rattle.model_terms.specs.Faults.{first_fault, formal_names}
use Rattle.model_eval.specs.Outcomes.{Outcome}
use Rattle.model_eval.specs.Keeping.{Keeping}
use Rattle.model_eval.specs.ListsKeeping.{lists_keeping}
use Rattle.model_eval.specs.Variables.{Variables, bound, plain}
use Rattle.model_eval.specs.Checked.{checked, checked_keeping, begun}
use Rattle.model_slots.specs.Trees.{Tree}
use Rattle.model_slots.specs.Laws.{Holds}
use Rattle.model_window.specs.Windows.{Memory}
use Rattle.model_window.specs.Frames.{Code, Going}
use Rattle.model_window.specs.Turns.{begun_on}
use Rattle.model_window.specs.Laws.{EndsIn}
use Rattle.model_macro_bodies.specs.Bodies.{AreRun, HasBody}
use Rattle.model_macro_bodies.specs.Counts.{AreOrdinary, EndsCounted}

-- a form in which no rule fails as in a macro's body is one in which no rule fails as in a function that runs
pub record BodiesAreExecutable : Type 0 where
  pub form : (c : World) (scope : Scope) (f : Core) (expected : List Out) → first_fault c Macro scope f expected ≡ None → first_fault c Executable scope f expected ≡ None

-- the evaluation of a macro's body over these values, so many calls being counted before
abbrev pub body_value : World → List Package → ℕ → ℕ → MacroFormals → Core → List (Object ℕ) → List QualifiedName → ℕ → Outcome ℕ
body_value w packages limit depth formals body values symbols used =
    checked w packages limit depth body (bound (formal_names formals) (plain values) []) (begun symbols [] used)

-- a machine that is begun on the tree of a macro's body, the values lying one behind the other, ends with what checked evaluation
-- of the body gives, and with nothing else
pub record MacroBodiesEnd : Type 0 where
  pub ends : (w : World) (packages : List Package) (limit : ℕ) (code : Code) → AreRun w code → (formals : MacroFormals) (body : Core) (tree : Tree) → HasBody w formals body tree
      → (values : List (Object ℕ)) → length values ≡ length (formal_names formals) → (memory : Memory ℕ) → Holds memory 0 (plain values)
      → (depth : ℕ) (symbols : List QualifiedName) (used : ℕ)
      → (n : ℕ) × EndsIn (checked_keeping lists_keeping w packages limit) code n (Going (begun_on depth tree memory (begun symbols [] used))) (body_value w packages limit depth formals body values symbols used)
  pub alone : (w : World) (packages : List Package) (limit : ℕ) (code : Code) → AreRun w code → (formals : MacroFormals) (body : Core) (tree : Tree) → HasBody w formals body tree
      → (values : List (Object ℕ)) → length values ≡ length (formal_names formals) → (memory : Memory ℕ) → Holds memory 0 (plain values)
      → (depth : ℕ) (symbols : List QualifiedName) (used n : ℕ) (outcome : Outcome ℕ)
      → EndsIn (checked_keeping lists_keeping w packages limit) code n (Going (begun_on depth tree memory (begun symbols [] used))) outcome
      → outcome ≡ body_value w packages limit depth formals body values symbols used

-- without stobjs in scope none is there at the end; calls stay within the limit, and outer calls are calls
pub record PlainFormsCount : Type 0 where
  pub form : (w : World) (packages : List Package) (limit depth : ℕ) (f : Core) (variables : Variables ℕ) → AreOrdinary variables → (symbols : List QualifiedName) (used : ℕ) → used ≤ limit
      → EndsCounted limit used symbols (checked w packages limit depth f variables (begun symbols [] used))
  pub body : (w : World) (packages : List Package) (limit depth : ℕ) (formals : MacroFormals) (f : Core) (values : List (Object ℕ)) (symbols : List QualifiedName) (used : ℕ) → used ≤ limit
      → EndsCounted limit used symbols (body_value w packages limit depth formals f values symbols used)
