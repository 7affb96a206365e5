-- When a machine over trees stands for a machine over forms.
use Rattle.std.specs.Prelude.{true, ◌≡◌, ℕ, ◌+◌, ◌≤◌, List, [], ◌∷◌, ◌++◌, map, length, Option, Some, None, nat_eq, slice_get}
use Rattle.std.specs.List.{list_any}
use Rattle.model_prims.specs.Kinds.{by_number, nil_of}
use Rattle.model_terms.specs.Cores.{Core, Cores}
use Rattle.model_terms.specs.Worlds.{World, Function, FunctionOfAbstract, Defined, OfAbstract}
use Rattle.model_terms.specs.declared.role.AbstractRole.TheVariants as abstract_role
use Rattle.model_eval.specs.Outcomes.{Shown, Stop, Origin}
use Rattle.model_eval.specs.Keeping.{Loan, Keeping}
use Rattle.model_eval.specs.Variables.{Variables}
use Rattle.model_eval.specs.Evaluated.{RulesOf}
use Rattle.model_machine.specs.Frames as machine
use Rattle.model_machine.specs.Frames.{Begun}
use Rattle.model_slots.specs.Trees.{Tree, Trees, Child}
use Rattle.model_slots.specs.Environments.{Environment, LiesBelow, all_bound, ordinary_bound, formal_environment, variables_in}
use Rattle.model_slots.specs.Resolved.{number_in, children_in, resolved, all_resolved}
use Rattle.model_slots.specs.Laws.{Holds, as_formals}
use Rattle.model_window.specs.Windows.{Memory, window, stobj_names, actuals_at}
use Rattle.model_window.specs.Frames.{Code, Borrowed}
use Rattle.model_window.specs.Frames as windows

-- ---- worlds in which forms were resolved; a name may have become a stobj's since

-- the worlds in which the guard and the body of each function were resolved, by its name
pub record Origins : Type 0 where
  pub guard : ℕ → World
  pub body : ℕ → World

-- NIL in a form shows as NIL
pub record SeesNil {S O B : Type 0} {keeping : Keeping S O B} (r : RulesOf keeping) : Type 0 where
  pub nil : r.see (nil_of by_number) ≡ nil_of r.kind

-- the functions that stand in the first world have the same numbers in the second
pub record IsEarlier (c w : World) : Type 0 where
  pub number : (f n : ℕ) → number_in c f ≡ Some n → number_in w f ≡ Some n

-- the trees of the functions that may be called are those of their guards and bodies, the formals in the first slots
pub record HoldsTrees (w : World) (origins : Origins) (code : Code) : Type 0 where
  pub guards : (f : ℕ) → IsEarlier (origins.guard f) w
  pub bodies : (f : ℕ) → IsEarlier (origins.body f) w
  pub guard : (x n : ℕ) (f : Function) → number_in w x ≡ Some n → slice_get w n ≡ Some (Defined f) → f.executable ≡ true → resolved (origins.guard x) (formal_environment f.formals) (length f.formals) f.guard ≡ Some (code.guard n)
  pub body : (x n : ℕ) (f : Function) → number_in w x ≡ Some n → slice_get w n ≡ Some (Defined f) → f.executable ≡ true → resolved (origins.body x) (formal_environment f.formals) (length f.formals) f.body ≡ Some (code.body n)
  pub export : (x n : ℕ) (f : FunctionOfAbstract) → number_in w x ≡ Some n → slice_get w n ≡ Some (OfAbstract f) → f.role ≡ abstract_role.Export → resolved (origins.guard x) (formal_environment f.formals) (length f.formals) f.guard ≡ Some (code.guard n)

-- the worlds of the forms that the frames of a machine have, the innermost first, and that of what begins
pub record Worlds : Type 0 where
  pub frames : List World
  pub control : World

-- ---- what lies in a window

-- the variables are those of an environment whose slots lie below this one
pub record InScope {S : Type 0} (memory : Memory S) (base s : ℕ) (env : Environment) (variables : Variables S) : Type 0 where
  pub below : LiesBelow s env
  pub are : variables ≡ variables_in (window memory base) env

-- the actuals of a call lie in its window, below this number
pub record AreActuals {S : Type 0} (memory : Memory S) (base inner count : ℕ) (names : List ℕ) (actuals : List (Shown S)) : Type 0 where
  pub below : base + count ≤ inner
  pub as_many : length actuals ≡ count
  pub named : names ≡ stobj_names actuals
  pub are : actuals ≡ actuals_at memory base count names

-- the actuals of a call, the stobjs under the names of the formals
pub record AreFormals {S : Type 0} (memory : Memory S) (base : ℕ) (formals : List ℕ) (actuals : List (Shown S)) : Type 0 where
  pub as_many : length formals ≡ length actuals
  pub lie : Holds (window memory base) 0 (as_formals formals actuals)

abbrev pub export_at : {S B : Type 0} → Memory S → ℕ → windows.Export B → machine.Export S B
export_at memory base x = record { name = x.name; actuals = actuals_at memory base x.count x.names; begun = x.begun; outer = x.outer }

-- the export whose exec function runs, if it is one's
pub data ExportStands {S B : Type 0} (memory : Memory S) (base inner : ℕ) : Option (windows.Export B) → Option (machine.Export S B) → Type 0 where
  NoExport : ExportStands memory base inner None None
  ExportRuns : (x : windows.Export B) (y : machine.Export S B) → base + x.count ≤ inner → y ≡ export_at memory base x → ExportStands memory base inner (Some x) (Some y)

-- loans, and which of them are among these variables
abbrev pub marked : {S : Type 0} → List ℕ → List (Loan S) → List (Borrowed S)
marked vars loans = map (λ (l : Loan _). record { loan = l; returns = list_any (nat_eq l.child) vars }) loans

abbrev pub children_of : {S : Type 0} → List (Loan S) → List ℕ
children_of loans = map (λ (l : Loan _). l.child) loans

-- ---- steps; `outer` is where what lies inside the frame around may be written, and `inner` inside this frame

-- a body over names that are bound from this slot on
pub record BodyStands (c : World) (env : Environment) (s : ℕ) (names : List ℕ) (body : Core) (tree : Tree) : Type 0 where
  pub is : resolved c (ordinary_bound c s names env) (s + length names) body ≡ Some tree

pub data ThenStands (w c : World) (env : Environment) (s : ℕ) : windows.Then → machine.Then → Type 0 where
  Bodies : (names : List ℕ) (body : Core) (tree : Tree) → BodyStands c env s names body tree → ThenStands w c env s (windows.ThenBody tree) (machine.ThenBody names body)
  Values : ThenStands w c env s windows.ThenValues machine.ThenValues
  Calls : (f n : ℕ) → number_in w f ≡ Some n → ThenStands w c env s (windows.ThenCall n) (machine.ThenCall f)

pub data StepStands {S B : Type 0} (w c : World) (memory : Memory S) (base outer inner : ℕ) (variables : Variables S) : windows.Step S B → machine.Step S B → Type 0 where
  Tests : (env : Environment) (s : ℕ) (held other : Tree) (b d : Core) → outer ≤ base + s → base + s ≤ inner → InScope memory base s env variables
      → resolved c env s b ≡ Some held → resolved c env s d ≡ Some other → StepStands w c memory base outer inner variables (windows.Test held other) (machine.Test b d)
  Parts : (env : Environment) (s count : ℕ) (trees : Trees) (goal : windows.Then) (forms : Cores) (before : List (Shown S)) (aim : machine.Then)
      → outer ≤ base + s → base + (s + count) ≤ inner → InScope memory base s env variables → Holds (window memory base) s before → length before ≡ count
      → all_resolved c env (s + count + 1) forms ≡ Some trees → ThenStands w c env s goal aim → StepStands w c memory base outer inner variables (windows.Parts s count trees goal) (machine.Parts forms before aim)
  Several : (env : Environment) (s : ℕ) (tree : Tree) (names : List ℕ) (body : Core) → outer ≤ base + s → base + s ≤ inner → InScope memory base s env variables
      → BodyStands c env s names body tree → StepStands w c memory base outer inner variables (windows.Several s tree) (machine.Several names body)
  Calling : (s n count f : ℕ) (actuals : List (Shown S)) → outer ≤ base + s → base + (s + count) ≤ inner → Holds (window memory base) s actuals → length actuals ≡ count
      → number_in w f ≡ Some n → StepStands w c memory base outer inner variables (windows.Calling s n count) (machine.Calling f actuals)
  Guarding : (export : Option (windows.Export B)) (export' : Option (machine.Export S B)) (name : ℕ) (formals names : List ℕ) (tree : Tree) (behind : B) (actuals : List (Shown S)) (body : Core)
      → outer ≤ base → ExportStands memory base (base + length formals) export export' → AreActuals memory base inner (length formals) names actuals → AreFormals memory base formals actuals
      → resolved c (formal_environment formals) (length formals) body ≡ Some tree
      → StepStands w c memory base outer inner variables (windows.Guarding export name formals names tree behind) (machine.Guarding export' name formals actuals body behind)
  Running : (export : Option (windows.Export B)) (export' : Option (machine.Export S B)) (formals names : List ℕ) (behind : B) (actuals : List (Shown S))
      → outer ≤ base → ExportStands memory base inner export export' → AreActuals memory base inner (length formals) names actuals
      → StepStands w c memory base outer inner variables (windows.Running export formals names behind) (machine.Running export' formals actuals behind)
  Allowing : (f : FunctionOfAbstract) (names : List ℕ) (begun : Begun B) (behind : B) (actuals : List (Shown S)) → outer ≤ base → AreActuals memory base inner (length f.formals) names actuals
      → StepStands w c memory base outer inner variables (windows.Allowing f names begun behind) (machine.Allowing f actuals begun behind)
  Exporting : (f : FunctionOfAbstract) (names : List ℕ) (begun : Begun B) (actuals : List (Shown S)) → outer ≤ base → AreActuals memory base inner (length f.formals) names actuals
      → StepStands w c memory base outer inner variables (windows.Exporting f names begun) (machine.Exporting f actuals begun)
  Borrowing : (env : Environment) (s : ℕ) (children : List Child) (borrowed : List (Borrowed S)) (held other : Tree) (names : List ℕ) (forms : Cores) (loans : List (Loan S)) (vars : List ℕ) (producer consumer : Core)
      → outer ≤ base + s → base + s ≤ inner → InScope memory base s env variables → children_in c env vars names forms ≡ Some children → borrowed ≡ marked vars loans
      → resolved c (all_bound s (children_of loans ++ names) env) (s + length (children_of loans ++ names)) producer ≡ Some held → BodyStands c env s vars consumer other
      → StepStands w c memory base outer inner variables (windows.Borrowing s children borrowed held other) (machine.Borrowing names forms loans vars producer consumer)
  Producing : (env : Environment) (s : ℕ) (borrowed : List (Borrowed S)) (other : Tree) (vars : List ℕ) (loans : List (Loan S)) (consumer : Core)
      → outer ≤ base + s → base + s ≤ inner → InScope memory base s env variables → borrowed ≡ marked vars loans → BodyStands c env s vars consumer other
      → StepStands w c memory base outer inner variables (windows.Producing s borrowed other) (machine.Producing vars loans consumer)
  Putting : (env : Environment) (s : ℕ) (left borrowed : List (Borrowed S)) (other : Tree) (vars : List ℕ) (loans_left loans : List (Loan S)) (consumer : Core) (given : List (Shown S))
      → outer ≤ base + s → base + (s + length given) ≤ inner → InScope memory base s env variables → left ≡ marked vars loans_left → borrowed ≡ marked vars loans
      → Holds (window memory base) s given → BodyStands c env s vars consumer other
      → StepStands w c memory base outer inner variables (windows.Putting s left borrowed other) (machine.Putting vars loans_left loans consumer given)
  Local : (env : Environment) (s : ℕ) (tree : Tree) (names : List ℕ) (body : Core) → outer ≤ base + s → base + s ≤ inner → InScope memory base s env variables
      → BodyStands c env s names body tree → StepStands w c memory base outer inner variables (windows.Local s tree) (machine.Local names body)
  Last : (export : Option (windows.Export B)) (export' : Option (machine.Export S B)) → outer ≤ inner → ExportStands memory base inner export export'
      → StepStands w c memory base outer inner variables (windows.Last export) (machine.Last export')

-- frames, inside which what lies from `inner` on may be written
pub data FramesStand {S B : Type 0} (w : World) (memory : Memory S) : List World → ℕ → List (windows.Frame S B) → List (machine.Frame S B) → Type 0 where
  Ends : (inner : ℕ) → FramesStand w memory [] inner [] []
  Inside : (c : World) (cs : List World) (base outer inner : ℕ) (variables : Variables S) (step : windows.Step S B) (step' : machine.Step S B) (frames : List (windows.Frame S B)) (frames' : List (machine.Frame S B))
      → IsEarlier c w → StepStands w c memory base outer inner variables step step' → FramesStand w memory cs outer frames frames'
      → FramesStand w memory (c ∷ cs) inner (record { step = step; base = base } ∷ frames) (record { step = step'; variables = variables } ∷ frames')

-- what is done next; a tree that begins writes from `inner` on
pub data ControlStands {S : Type 0} (w c : World) (memory : Memory S) (inner : ℕ) : windows.Control S → machine.Control S → Type 0 where
  Begins : (env : Environment) (s base : ℕ) (tree : Tree) (form : Core) (variables : Variables S) → inner ≤ base + s → InScope memory base s env variables → IsEarlier c w → resolved c env s form ≡ Some tree
      → ControlStands w c memory inner (windows.Begin tree base) (machine.Begin form variables)
  Gives : (values : List (Shown S)) → ControlStands w c memory inner (windows.Give values) (machine.Give values)
  Stops : (stop : Stop S) (origin : Origin) → ControlStands w c memory inner (windows.Stopped stop origin) (machine.Stopped stop origin)

-- ---- machines

pub record Stands {S O B : Type 0} (w : World) (worlds : Worlds) (m : windows.Machine S O B) (n : machine.Machine S O B) : Type 0 where
  pub room : m.room ≡ n.room
  pub state : m.state ≡ n.state
  pub inner : ℕ
  pub frames : FramesStand w m.memory worlds.frames inner m.frames n.frames
  pub control : ControlStands w worlds.control m.memory inner m.control n.control

-- both go on as machines of which one stands for the other, or both are over with one outcome
unfoldable pub TurnStands : {S O B : Type 0} → World → Worlds → windows.Turned S O B → machine.Turned S O B → Type 0
TurnStands w worlds (windows.Going m) (machine.Going n) = Stands w worlds m n
TurnStands w worlds (windows.Going m) (machine.Over outcome) = ⊥
TurnStands w worlds (windows.Over outcome) (machine.Going n) = ⊥
TurnStands w worlds (windows.Over last) (machine.Over outcome) = last ≡ outcome
