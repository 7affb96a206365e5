-- Why the definition of a macro is refused.
use Rattle.std.specs.Prelude.{◌≢◌, Bool, true, false, if◌then◌else◌}
use Rattle.model_expansion.specs.Words.{defmacro_word}
use Rattle.model_expansion.specs.Faults as faults
use Rattle.model_expansion.specs.Faults.{Refusal}
use Rattle.acl_heap.specs.Objects.{Objects, object_of, Lies}
use Rattle.acl_terms.specs.Signatures.{seen_name}
use Rattle.acl_terms.specs.declared.fault.ExpandFault.{ExpandFault}
use Rattle.acl_terms.specs.declared.fault.ExpandFault.TheVariants as expand
use Rattle.acl_terms.specs.declared.fault.ThreadFault.{ThreadFault}
use Rattle.acl_terms.specs.declared.fault.ThreadFault.TheVariants as thread
use Rattle.acl_drafts.specs.declared.fault.DraftFault.{DraftFault}
use Rattle.acl_drafts.specs.declared.fault.DraftFault.TheVariants as draft
use Rattle.acl_expand.specs.declared.progress.Refused.{Refused}
use Rattle.acl_expand.specs.Looks.{seen_fault}
use Rattle.acl_expand.specs.Refusals.{IsTold}
use Rattle.acl_admit_macro.specs.declared.fault.MacroFault.{MacroFault}
use Rattle.acl_admit_macro.specs.declared.fault.MacroFault.TheVariants as fault

-- ---- refusals of each step

abbrev pub of_draft : DraftFault → MacroFault
of_draft draft.BadShape = fault.BadShape
of_draft (draft.BadName x) = fault.BadName x
of_draft (draft.NameInUse s) = fault.NameInUse s
of_draft (draft.DuplicateFormal s) = fault.DuplicateFormal s
of_draft (draft.BadDeclare s) = fault.BadDeclare s
of_draft draft.Memory = fault.Memory

abbrev pub is_memory : ExpandFault → Bool
is_memory (expand.MacroArgs s) = false
is_memory (expand.BadShape s) = false
is_memory (expand.MacroStopped s) = false
is_memory (expand.UnknownFunction s) = false
is_memory (expand.Arity s) = false
is_memory expand.TooNested = false
is_memory expand.Memory = true

abbrev pub of_refused : Refused → MacroFault
of_refused r = if is_memory r.fault then fault.Memory else fault.Expand r

abbrev pub of_thread : ThreadFault → MacroFault
of_thread (thread.Rule rule place) = fault.Rule rule place
of_thread thread.Memory = fault.Memory

-- ---- what is told

-- want of memory is no fault of an expansion, and no stop in it
pub record IsExpandFault (r : Refused) : Type 0 where
  pub told : IsTold r
  pub other : r.fault ≢ expand.Memory

-- what is said of the refusal that was answered; nothing is said where memory was refused
abbrev pub Told : Objects → (Refusal → Type 0) → MacroFault → Type 0
Told h P fault.BadShape = P (faults.Expand (faults.BadShape defmacro_word))
Told h P (fault.BadName x) = Lies h x × P (faults.BadName (object_of h x))
Told h P (fault.NameInUse s) = P (faults.NameInUse s.0)
Told h P (fault.DuplicateFormal s) = P (faults.DuplicateFormal s.0)
Told h P (fault.BadDeclare s) = P (faults.BadDeclare s.0)
Told h P (fault.Expand r) = IsExpandFault r × P (faults.Expand (seen_fault h (seen_name r.inside) r.fault))
Told h P (fault.Rule rule place) = P (faults.Thread (record { rule = rule; place = place }))
Told h P fault.Memory = Unit {0}
