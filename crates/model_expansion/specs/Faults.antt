-- Why a form is refused (ACL2's manual, topic DEFMACRO).
use Rattle.std.specs.Prelude.{ℕ, Option}
use Rattle.model_objects.specs.Object.{Object}
use Rattle.model_terms.specs.Faults.{Fault}
use Rattle.model_eval.specs.Outcomes.{Stop}

-- the first fault of an expansion; heads and functions by name
pub data ExpandFault : Type 0 where
  MacroArgs : ℕ → ExpandFault
  BadShape : ℕ → ExpandFault
  MacroStopped : Stop ℕ → Option ℕ → ExpandFault  -- also the export that the stop is inside
  UnknownFunction : ℕ → ExpandFault
  Arity : ℕ → ExpandFault
  TooNested : ExpandFault

-- the first refusal of a command but for the definition of an abstract stobj
pub data Refusal : Type 0 where
  NameInUse : ℕ → Refusal
  BadName : Object ℕ → Refusal
  DuplicateFormal : ℕ → Refusal
  BadDeclare : ℕ → Refusal  -- the function
  BadType : ℕ → Refusal  -- the field
  BadInitial : ℕ → Refusal  -- the field
  CongruenceMismatch : ℕ → Refusal  -- the place of the field
  UnknownPackage : Object ℕ → Refusal
  PackageExists : Object ℕ → Refusal
  ImportClash : ℕ → ℕ → Refusal
  SymbolLimit : Refusal
  NotSupported : ℕ → Refusal
  Thread : Fault → Refusal
  Expand : ExpandFault → Refusal
  -- of abstract stobjs
  FoundationNotConcrete : ℕ → Refusal
  MissingFunction : ℕ → Refusal
  SignatureMismatch : ℕ → Refusal
  GuardNotExecutable : ℕ → Fault → Refusal  -- the export, and the fault of its guard
  TooLarge : ℕ → Refusal  -- whose obligation is too heavy
