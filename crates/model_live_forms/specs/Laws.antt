-- What is known of forms over live stobjs, as laws.
use Rattle.std.specs.Prelude.{◌≡◌, ℕ, List}
use Rattle.model_symbols.specs.Symbols.{QualifiedName, Package}
use Rattle.model_terms.specs.Cores.{Core}
use Rattle.model_terms.specs.Worlds.{World}
use Rattle.model_eval.specs.Outcomes.{Stobjs, Outcome}
use Rattle.model_eval.specs.ListsKeeping.{lists_keeping}
use Rattle.model_eval.specs.Checked.{checked, checked_keeping, begun, live}
use Rattle.model_slots.specs.Trees.{Tree}
use Rattle.model_slots.specs.Laws.{Holds}
use Rattle.model_window.specs.Windows.{Memory}
use Rattle.model_window.specs.Frames.{Code, Going}
use Rattle.model_window.specs.Turns.{begun_on}
use Rattle.model_window.specs.Laws.{EndsIn}
use Rattle.model_macro_bodies.specs.Bodies.{AreRun}
use Rattle.model_live_forms.specs.Trees.{live_values, HasLiveTree}

-- the evaluation of a form over live stobjs, so many calls being counted before
abbrev pub live_value : World → List Package → ℕ → ℕ → Core → Stobjs ℕ → List QualifiedName → ℕ → Outcome ℕ
live_value w packages limit depth form stobjs symbols used = checked w packages limit depth form (live stobjs) (begun symbols stobjs used)

-- a machine that is begun on the tree of an accepted form over live stobjs, which lie in the first slots, ends with what checked
-- evaluation of the form gives, and with nothing else
pub record LiveFormsEnd : Type 0 where
  pub ends : (w : World) (packages : List Package) (limit : ℕ) (code : Code) → AreRun w code → (stobjs : Stobjs ℕ) (form : Core) (tree : Tree) → HasLiveTree w stobjs form tree
      → (memory : Memory ℕ) → Holds memory 0 (live_values stobjs) → (depth : ℕ) (symbols : List QualifiedName) (used : ℕ)
      → (n : ℕ) × EndsIn (checked_keeping lists_keeping w packages limit) code n (Going (begun_on depth tree memory (begun symbols stobjs used))) (live_value w packages limit depth form stobjs symbols used)
  pub alone : (w : World) (packages : List Package) (limit : ℕ) (code : Code) → AreRun w code → (stobjs : Stobjs ℕ) (form : Core) (tree : Tree) → HasLiveTree w stobjs form tree
      → (memory : Memory ℕ) → Holds memory 0 (live_values stobjs) → (depth : ℕ) (symbols : List QualifiedName) (used n : ℕ) (outcome : Outcome ℕ)
      → EndsIn (checked_keeping lists_keeping w packages limit) code n (Going (begun_on depth tree memory (begun symbols stobjs used))) outcome
      → outcome ≡ live_value w packages limit depth form stobjs symbols used
