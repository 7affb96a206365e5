-- Why the definition of a stobj is refused.
use Rattle.std.specs.Prelude.{◌≡◌, ℕ, List, Option, Some, None}
use Rattle.std.specs.Option.{option_or}
use Rattle.model_objects.specs.Object.{Symbol}
use Rattle.model_symbols.specs.Symbols.{QualifiedName}
use Rattle.model_terms.specs.Worlds.{World}
use Rattle.model_expansion.specs.Words.{defstobj_word}
use Rattle.model_expansion.specs.Faults as faults
use Rattle.model_expansion.specs.Faults.{Refusal}
use Rattle.model_stobjs.specs.Answers.{first_given}
use Rattle.model_stobjs.specs.Heads.{bad_name}
use Rattle.model_stobjs.specs.Descriptors.{WrittenField, WrittenStobj, names_tested, bad_type, bad_initial}
use Rattle.acl_heap.specs.Objects.{Objects, object_of, reach}
use Rattle.acl_stobj_written.specs.declared.fault.StobjFault.{StobjFault}
use Rattle.acl_stobj_written.specs.declared.fault.StobjFault.TheVariants as fault

-- what is said of the refusal that was answered; nothing is said where memory was refused
abbrev pub Told : Objects → (Refusal → Type 0) → StobjFault → Type 0
Told h P fault.BadShape = P (faults.Expand (faults.BadShape defstobj_word))
Told h P (fault.BadName x) = P (faults.BadName (object_of h x))
Told h P (fault.BadType s) = P (faults.BadType s.0)
Told h P (fault.BadInitial s) = P (faults.BadInitial s.0)
Told h P fault.SymbolLimit = P faults.SymbolLimit
Told h P (fault.NameInUse s) = P (faults.NameInUse s.0)
Told h P (fault.CongruenceMismatch i) = P (faults.CongruenceMismatch i)
Told h P fault.Memory = Unit {0}

-- the first refusal is the one that was answered
abbrev pub RefusedBy : Objects → Option Refusal → StobjFault → Type 0
RefusedBy h o f = Told h (λ r. o ≡ Some r) f

-- the first refusal of types and initial values
abbrev pub fields_refusal : World → List WrittenField → Option Refusal
fields_refusal w fs = option_or (first_given (bad_type w) fs) (first_given (bad_initial w) fs)

-- the first refusal before names are made
abbrev pub written_refusal : World → List QualifiedName → Option WrittenStobj → Option Refusal
written_refusal w symbols None = Some (faults.Expand (faults.BadShape defstobj_word))
written_refusal w symbols (Some o) = option_or (bad_name symbols (names_tested o)) (fields_refusal w o.fields)

-- how many cells a heap has at least in which the fault's word lies
abbrev pub fault_reach : StobjFault → ℕ
fault_reach fault.BadShape = 0
fault_reach (fault.BadName x) = reach x
fault_reach (fault.BadType s) = 0
fault_reach (fault.BadInitial s) = 0
fault_reach fault.SymbolLimit = 0
fault_reach (fault.NameInUse s) = 0
fault_reach (fault.CongruenceMismatch i) = 0
fault_reach fault.Memory = 0
