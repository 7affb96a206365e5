-- Why the definition of functions is refused before they are expanded.
use Rattle.std.specs.Prelude.{◌≡◌, ℕ, ◌≤◌, List, map, length, Option, Some, None, option_map}
use Rattle.std.specs.Option.{option_or}
use Rattle.model_objects.specs.Object.{Object}
use Rattle.model_symbols.specs.Symbols.{QualifiedName}
use Rattle.model_terms.specs.Worlds.{World}
use Rattle.model_expansion.specs.Forms.{symbol_or_nil}
use Rattle.model_expansion.specs.Faults as faults
use Rattle.model_expansion.specs.Faults.{Refusal}
use Rattle.model_stobjs.specs.Answers.{first_given}
use Rattle.model_stobjs.specs.Heads.{name_in_use, bad_name}
use Rattle.model_events.specs.Declarations.{formals_fault}
use Rattle.model_events.specs.Functions.{WrittenFunction, bad_declaration, written_fault, written_functions, drafts_of}
use Rattle.acl_heap.specs.Objects.{Objects, object_of, reach}
use Rattle.acl_drafts.specs.declared.draft.Draft.{Draft}
use Rattle.acl_drafts.specs.declared.fault.DraftFault.{DraftFault}
use Rattle.acl_drafts.specs.declared.fault.DraftFault.TheVariants as fault
use Rattle.acl_drafts.specs.Drafts.{seen_drafts, drafts_reach}

-- what is said of the refusal that was answered; nothing is said where memory was refused
abbrev pub Told : Objects → ℕ → (Refusal → Type 0) → DraftFault → Type 0
Told h head P fault.BadShape = P (faults.Expand (faults.BadShape head))
Told h head P (fault.BadName x) = P (faults.BadName (object_of h x))
Told h head P (fault.NameInUse s) = P (faults.NameInUse s.0)
Told h head P (fault.DuplicateFormal s) = P (faults.DuplicateFormal s.0)
Told h head P (fault.BadDeclare s) = P (faults.BadDeclare s.0)
Told h head P fault.Memory = Unit {0}

-- the first refusal is the one that was answered
abbrev pub RefusedBy : Objects → ℕ → Option Refusal → DraftFault → Type 0
RefusedBy h head o f = Told h head (λ r. o ≡ Some r) f

-- the first refusal, where there is one
abbrev pub FirstRefusal : Objects → ℕ → Option DraftFault → Option Refusal → Type 0
FirstRefusal h head None o = o ≡ None
FirstRefusal h head (Some f) o = RefusedBy h head o f

abbrev pub fault_reach : DraftFault → ℕ
fault_reach fault.BadShape = 0
fault_reach (fault.BadName x) = reach x
fault_reach (fault.NameInUse s) = 0
fault_reach (fault.DuplicateFormal s) = 0
fault_reach (fault.BadDeclare s) = 0
fault_reach fault.Memory = 0

abbrev pub option_fault_reach : Option DraftFault → ℕ
option_fault_reach None = 0
option_fault_reach (Some f) = fault_reach f

-- the first refusal of the formals of functions
abbrev pub formals_refusal : List QualifiedName → List WrittenFunction → Option Refusal
formals_refusal symbols fs = first_given (λ (f : WrittenFunction). formals_fault symbols f.formals) fs

-- the first refusal before declarations are read
abbrev pub early_refusal : World → List QualifiedName → List WrittenFunction → Option Refusal
early_refusal w symbols fs =
    option_or (bad_name symbols (map (λ (f : WrittenFunction). f.name) fs))
    (option_or (name_in_use w (map (λ (f : WrittenFunction). symbol_or_nil f.name) fs)) (formals_refusal symbols fs))

abbrev pub functions_refusal : World → List QualifiedName → ℕ → Option (List WrittenFunction) → Option Refusal
functions_refusal w symbols head None = Some (faults.Expand (faults.BadShape head))
functions_refusal w symbols head (Some fs) = written_fault symbols w fs

-- the first refusal of what stands behind a head
abbrev pub drafts_refusal : World → List QualifiedName → ℕ → Object ℕ → Option Refusal
drafts_refusal w symbols head o = functions_refusal w symbols head (written_functions head o)

-- drafts of functions of which no declaration is wrong
pub record ReadsFunctions (symbols : List QualifiedName) (fs : List WrittenFunction) (h : Objects) (ds : List Draft) : Type 0 where
  pub right : first_given (bad_declaration symbols) fs ≡ None
  pub drafts : drafts_of symbols fs ≡ seen_drafts h ds
  pub lies : drafts_reach ds ≤ length h

-- drafts of functions that are not refused
pub record ReadsUnrefused (w : World) (symbols : List QualifiedName) (fs : List WrittenFunction) (h : Objects) (ds : List Draft) : Type 0 where
  pub right : written_fault symbols w fs ≡ None
  pub drafts : drafts_of symbols fs ≡ seen_drafts h ds
  pub lies : drafts_reach ds ≤ length h

-- the drafts of what stands behind a head, which is not refused
pub record ReadsDrafts (w : World) (symbols : List QualifiedName) (head : ℕ) (o : Object ℕ) (h : Objects) (ds : List Draft) : Type 0 where
  pub right : drafts_refusal w symbols head o ≡ None
  pub drafts : option_map (drafts_of symbols) (written_functions head o) ≡ Some (seen_drafts h ds)
  pub lies : drafts_reach ds ≤ length h
