-- When a machine over forms does what accepted forms do: each step is one of an accepted form in its scope, and values are as
-- the outputs say.
use Rattle.std.specs.Prelude.{◌≡◌, ℕ, List, [], ◌∷◌, ◌++◌, map, length, true, false, Option, Some, None}
use Rattle.std.specs.List.{zip}
use Rattle.model_terms.specs.declared.rule.Mode.TheVariants.{Executable}
use Rattle.model_terms.specs.declared.role.AbstractRole.TheVariants as abstract_role
use Rattle.model_terms.specs.Cores.{Core, Cores, none, more, count}
use Rattle.model_terms.specs.Worlds.{World, Function, FunctionOfAbstract, Defined, OfAbstract, definition, Out, Signature, Scope}
use Rattle.model_terms.specs.Classes as classes
use Rattle.model_terms.specs.Classes.{has, repeats, renamed_out, is_stobj_name}
use Rattle.model_terms.specs.Scopes.{name_kinds, binding, producer_scope, consumer_scope, local_scope, body_scope}
use Rattle.model_terms.specs.Sites.{one_ordinary}
use Rattle.model_terms.specs.Faults.{first_fault}
use Rattle.model_eval.specs.Outcomes.{Shown}
use Rattle.model_eval.specs.Keeping.{Loan}
use Rattle.model_eval.specs.Variables.{Variables}
use Rattle.model_accepted.specs.Accepted.{Accepted}
use Rattle.model_accepted.specs.Threaded.{IsFormed, Runs, Suits, AreFormals, formal_entries, IsExport}
use Rattle.model_accepted.specs.StobjScopes.{IsStobj, AreVariables, AreOutputs}
use Rattle.model_accepted.specs.Loans.{children}
use Rattle.model_in_place.specs.Calls.{names_in, AreArguments}
use Rattle.model_machine.specs.Frames.{Begun, Export, Then, ThenBody, ThenValues, ThenCall, Step, Test, Parts, Several, Calling, Guarding, Running, Allowing, Exporting, Borrowing, Producing, Putting, Local, Last, Frame, Control, Begin, Give, Stopped, Machine, Turned, Going}
use Rattle.model_machine.specs.Frames as machine
use Rattle.model_window.specs.Stands.{Origins, Worlds}

-- ---- forms

-- a form that was accepted in this world and scope, for these outputs
pub record IsReady (c : World) (scope : Scope) (expected : List Out) (form : Core) : Type 0 where
  pub formal : Option ℕ
  pub accepted : Accepted c Executable scope form formal expected
  pub formed : IsFormed c form

-- forms that give one of these outputs each
abbrev pub AreReady : World → Scope → List Out → Cores → Type 0
AreReady c scope [] none = Unit {0}
AreReady c scope [] (more f fs) = ⊥
AreReady c scope (k ∷ ks) none = ⊥
AreReady c scope (k ∷ ks) (more f fs) = IsReady c scope (k ∷ []) f × AreReady c scope ks fs

-- the variables are as the scope says, and what was found in the world still stands
pub record Surrounds (w c : World) (scope : Scope) (variables : Variables ℕ) : Type 0 where
  pub suits : Suits c w
  pub are : AreVariables scope variables

-- ---- calls

-- the outputs of a function at these actuals
abbrev pub outs_at : List Out → List (Shown ℕ) → List Out → List Out
outs_at ins actuals outs = map (renamed_out (zip (classes.stobjs ins) (names_in actuals))) outs

-- a function that may be called, at actuals as its inputs say, gives these outputs
pub record IsCall (w : World) (scope : Scope) (expected : List Out) (f : ℕ) (actuals : List (Shown ℕ)) : Type 0 where
  pub signature : Signature
  pub runs : Runs w f signature
  pub arguments : AreArguments w scope signature.ins actuals
  pub once : repeats (names_in actuals) ≡ false
  pub outs : outs_at signature.ins actuals signature.outs ≡ expected

-- actuals of a call, under these formals
pub record AreHanded (w : World) (scope : Scope) (formals : List ℕ) (ins : List Out) (actuals : List (Shown ℕ)) : Type 0 where
  pub formals_are : AreFormals formals ins
  pub distinct : repeats formals ≡ false
  pub arguments : AreArguments w scope ins actuals

pub record IsExported (w : World) (scope : Scope) (expected : List Out) (f : FunctionOfAbstract) (actuals : List (Shown ℕ)) : Type 0 where
  pub export : IsExport w f
  pub arguments : AreArguments w scope f.signature.ins actuals
  pub once : repeats (names_in actuals) ≡ false
  pub outs : outs_at f.signature.ins actuals f.signature.outs ≡ expected

-- ---- steps: what the form gives in the scope outside, and what it waits for in the scope inside

pub data ThenFits (w c : World) (scope : Scope) (given : List Out) (kinds : List Out) : Then → Type 0 where
  Bodies : (names : List ℕ) (body : Core) → kinds ≡ name_kinds c names → IsReady c (binding c scope names) given body → ThenFits w c scope given kinds (ThenBody names body)
  Values : kinds ≡ given → ThenFits w c scope given kinds ThenValues
  Calls : (f : ℕ) → ((values : List (Shown ℕ)) → AreOutputs scope kinds values → IsCall w scope given f values) → ThenFits w c scope given kinds (ThenCall f)

pub data StepFits {B : Type 0} (w c : World) (variables : Variables ℕ) (outer : Scope) (given : List Out) : Step ℕ B → Scope → List Out → Type 0 where
  Tests : (b d : Core) → Surrounds w c outer variables → IsReady c outer given b → IsReady c outer given d → StepFits w c variables outer given (Test b d) outer one_ordinary
  Parted : (forms : Cores) (before : List (Shown ℕ)) (goal : Then) (done : List Out) (kind : Out) (kinds all : List Out) → Surrounds w c outer variables → AreOutputs outer done before
      → AreReady c outer kinds forms → done ++ kind ∷ kinds ≡ all → ThenFits w c outer given all goal → StepFits w c variables outer given (Parts forms before goal) outer (kind ∷ [])
  Severals : (names : List ℕ) (body : Core) → Surrounds w c outer variables → IsReady c (binding c outer names) given body → StepFits w c variables outer given (Several names body) outer (name_kinds c names)
  Called : (f : ℕ) (actuals : List (Shown ℕ)) (inner : Scope) → IsCall w outer given f actuals → StepFits w c variables outer given (Calling f actuals) inner []
  Guarded : (export : Option (Export ℕ B)) (name : ℕ) (formals : List ℕ) (actuals : List (Shown ℕ)) (body : Core) (behind : B) (ins outs : List Out) → Suits c w → AreHanded w outer formals ins actuals
      → IsReady c (formal_entries formals ins) outs body → outs_at ins actuals outs ≡ given → StepFits w c variables outer given (Guarding export name formals actuals body behind) (formal_entries formals ins) one_ordinary
  RunsOn : (export : Option (Export ℕ B)) (formals : List ℕ) (actuals : List (Shown ℕ)) (behind : B) (ins outs : List Out) → AreHanded w outer formals ins actuals
      → outs_at ins actuals outs ≡ given → StepFits w c variables outer given (Running export formals actuals behind) (formal_entries formals ins) outs
  Allowed : (f : FunctionOfAbstract) (actuals : List (Shown ℕ)) (begun : Begun B) (behind : B) (inner : Scope) → IsExported w outer given f actuals
      → StepFits w c variables outer given (Allowing f actuals begun behind) inner one_ordinary
  Exports : (f : FunctionOfAbstract) (actuals : List (Shown ℕ)) (begun : Begun B) (inner : Scope) → IsExported w outer given f actuals → StepFits w c variables outer given (Exporting f actuals begun) inner []
  Borrows : (names : List ℕ) (forms : Cores) (loans : List (Loan ℕ)) (vars : List ℕ) (producer consumer : Core) (inner : Scope) (parent : ℕ) (all : List ℕ) → Surrounds w c outer variables
      → children loans ++ names ≡ all → count forms ≡ length names → ((x : ℕ) → has all x ≡ true → is_stobj_name c x ≡ true)
      → IsReady c (producer_scope c outer (Some parent) all) (name_kinds c vars) producer → IsReady c (consumer_scope c outer all vars) given consumer
      → StepFits w c variables outer given (Borrowing names forms loans vars producer consumer) inner []
  Produces : (vars : List ℕ) (loans : List (Loan ℕ)) (consumer : Core) (inner : Scope) → Surrounds w c outer variables → IsReady c (consumer_scope c outer (children loans) vars) given consumer
      → StepFits w c variables outer given (Producing vars loans consumer) inner (name_kinds c vars)
  Puts : (vars : List ℕ) (left loans : List (Loan ℕ)) (consumer : Core) (values : List (Shown ℕ)) (inner inside : Scope) → Surrounds w c outer variables → AreOutputs inside (name_kinds c vars) values
      → IsReady c (consumer_scope c outer (children loans) vars) given consumer → StepFits w c variables outer given (Putting vars left loans consumer values) inner []
  Locals : (stobj : ℕ) (names : List ℕ) (body : Core) → Surrounds w c outer variables → IsReady c (body_scope c outer stobj names) given body
      → StepFits w c variables outer given (Local names body) (local_scope c outer stobj) (name_kinds c names)
  Ends : (export : Option (Export ℕ B)) (inner : Scope) → ((x : ℕ) → IsStobj inner x → IsStobj outer x) → StepFits w c variables outer given (Last export) inner given

-- frames of which the innermost waits for these outputs in this scope
pub data FramesFit {B : Type 0} (w : World) : List World → List (Frame ℕ B) → Scope → List Out → Type 0 where
  Nothing : (scope : Scope) (outs : List Out) → FramesFit w [] [] scope outs
  Inside : (c : World) (cs : List World) (variables : Variables ℕ) (outer : Scope) (given : List Out) (step : Step ℕ B) (frames : List (Frame ℕ B)) (inner : Scope) (awaited : List Out)
      → StepFits w c variables outer given step inner awaited → FramesFit w cs frames outer given → FramesFit w (c ∷ cs) (record { step = step; variables = variables } ∷ frames) inner awaited

-- ---- machines

pub record BeginFits {B : Type 0} (w : World) (worlds : Worlds) (frames : List (Frame ℕ B)) (form : Core) (variables : Variables ℕ) : Type 0 where
  pub scope : Scope
  pub outs : List Out
  pub surrounds : Surrounds w worlds.control scope variables
  pub ready : IsReady worlds.control scope outs form
  pub around : FramesFit w worlds.frames frames scope outs

pub record GiveFits {B : Type 0} (w : World) (worlds : Worlds) (frames : List (Frame ℕ B)) (values : List (Shown ℕ)) : Type 0 where
  pub scope : Scope
  pub outs : List Out
  pub given : AreOutputs scope outs values
  pub around : FramesFit w worlds.frames frames scope outs

abbrev pub ControlFits : {B : Type 0} → World → Worlds → List (Frame ℕ B) → Control ℕ → Type 0
ControlFits w worlds frames (Begin form variables) = BeginFits w worlds frames form variables
ControlFits w worlds frames (Give values) = GiveFits w worlds frames values
ControlFits w worlds frames (Stopped stop origin) = Unit {0}

abbrev pub TurnFits : {O B : Type 0} → World → Worlds → Turned ℕ O B → Type 0
TurnFits w worlds (Going m) = ControlFits w worlds m.frames m.control
TurnFits w worlds (machine.Over outcome) = Unit {0}

-- ---- the worlds in which functions were checked

-- a guard or a body was accepted in this world
pub record WasAccepted (w c : World) (formals : List ℕ) (ins : List Out) (form : Core) (expected : List Out) : Type 0 where
  pub suits : Suits c w
  pub accepted : first_fault c Executable (formal_entries formals ins) form expected ≡ None
  pub formed : IsFormed c form

pub record AreOrigins (w : World) (origins : Origins) : Type 0 where
  pub guard : (x : ℕ) (f : Function) → definition w x ≡ Some (Defined f) → f.executable ≡ true → WasAccepted w (origins.guard x) f.formals f.signature.ins f.guard one_ordinary
  pub body : (x : ℕ) (f : Function) → definition w x ≡ Some (Defined f) → f.executable ≡ true → WasAccepted w (origins.body x) f.formals f.signature.ins f.body f.signature.outs
  pub export : (x : ℕ) (f : FunctionOfAbstract) → definition w x ≡ Some (OfAbstract f) → f.role ≡ abstract_role.Export → WasAccepted w (origins.guard x) f.formals f.signature.ins f.guard one_ordinary
  pub formals : (x : ℕ) (f : FunctionOfAbstract) → definition w x ≡ Some (OfAbstract f) → length f.formals ≡ length f.signature.ins
