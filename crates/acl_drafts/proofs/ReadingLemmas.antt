-- The drafts of what stands behind a head.
use Rattle.std.specs.Prelude.{◌≡◌, ℕ, ◌≤◌, List, length, Option, Some, None, option_map, refl}
use Rattle.std.proofs.Common.{sym, ap, ◌∙◌, subst}
use Rattle.model_objects.specs.Object.{Object}
use Rattle.model_symbols.specs.Symbols.{QualifiedName}
use Rattle.model_terms.specs.Worlds.{World}
use Rattle.model_expansion.specs.Faults as faults
use Rattle.model_expansion.specs.Faults.{Refusal}
use Rattle.model_events.specs.Functions as written
use Rattle.model_events.specs.Functions.{written_fault, written_functions, drafts_of}
use Rattle.acl_heap.specs.Objects.{Objects}
use Rattle.acl_drafts.specs.declared.written.WrittenFunction.{WrittenFunction}
use Rattle.acl_drafts.specs.declared.draft.Draft.{Draft}
use Rattle.acl_drafts.specs.declared.fault.DraftFault.{DraftFault}
use Rattle.acl_drafts.specs.Functions.{seen_functions, functions_reach, SeenFunctions}
use Rattle.acl_drafts.specs.Drafts.{seen_drafts}
use Rattle.acl_drafts.specs.Refusals.{RefusedBy, FirstRefusal, option_fault_reach, fault_reach, early_refusal, functions_refusal, drafts_refusal, ReadsFunctions, ReadsUnrefused, ReadsDrafts}
use Rattle.acl_drafts.proofs.RefusalLemmas.{then_declarations}

-- ---- what was read

pub no_refusal : (h : Objects) (head : ℕ) (o : Option Refusal) (r : Option DraftFault) → r ≡ None → FirstRefusal h head r o → o ≡ None
no_refusal h head o r e f = subst (λ x. FirstRefusal h head x o) e f

pub a_refusal : (h : Objects) (head : ℕ) (o : Option Refusal) (r : Option DraftFault) (f : DraftFault) → r ≡ Some f → FirstRefusal h head r o → RefusedBy h head o f
a_refusal h head o r f e g = subst (λ x. FirstRefusal h head x o) e g

pub refusal_lies : (n : ℕ) (r : Option DraftFault) (f : DraftFault) → r ≡ Some f → option_fault_reach r ≤ n → fault_reach f ≤ n
refusal_lies n r f e l = subst (λ x. option_fault_reach x ≤ n) e l

pub no_shape : (h : Objects) (o : Option (List written.WrittenFunction)) (r : Option (List WrittenFunction)) → r ≡ None → SeenFunctions h r o → o ≡ None
no_shape h o r e s = subst (λ x. SeenFunctions h x o) e s

pub a_shape : (h : Objects) (o : Option (List written.WrittenFunction)) (r : Option (List WrittenFunction)) (fs : List WrittenFunction) → r ≡ Some fs → SeenFunctions h r o → (o ≡ Some (seen_functions h fs)) × (functions_reach fs ≤ length h)
a_shape h o r fs e s = subst (λ x. SeenFunctions h x o) e s

-- ---- drafts

pub unrefused : (w : World) (sy : List QualifiedName) (fs : List written.WrittenFunction) (h : Objects) (ds : List Draft) → early_refusal w sy fs ≡ None → ReadsFunctions sy fs h ds → ReadsUnrefused w sy fs h ds
unrefused w sy fs h ds e r = record { right = then_declarations w sy fs e ∙ r.right; drafts = r.drafts; lies = r.lies }

module _ (w : World) (sy : List QualifiedName) (head : ℕ) (o : Object ℕ) where
  pub refused_shape : written_functions head o ≡ None → drafts_refusal w sy head o ≡ Some (faults.Expand (faults.BadShape head))
  refused_shape e = ap (functions_refusal w sy head) e

  behind : (h : Objects) (fs gs : List WrittenFunction) → written_functions head o ≡ Some (seen_functions h fs) → gs ≡ fs → drafts_refusal w sy head o ≡ written_fault sy w (seen_functions h gs)
  behind h fs gs e g = ap (functions_refusal w sy head) e ∙ ap (λ xs. written_fault sy w (seen_functions h xs)) (sym g)

  pub refused_behind : (h h' : Objects) (fs gs : List WrittenFunction) (f : DraftFault) → written_functions head o ≡ Some (seen_functions h fs) → gs ≡ fs
      → RefusedBy h' head (written_fault sy w (seen_functions h gs)) f → RefusedBy h' head (drafts_refusal w sy head o) f
  refused_behind h h' fs gs f e g r = subst (λ x. RefusedBy h' head x f) (sym (behind h fs gs e g)) r

  pub drafts_behind : (h h' : Objects) (fs gs : List WrittenFunction) (ds : List Draft) → written_functions head o ≡ Some (seen_functions h fs) → gs ≡ fs
      → ReadsUnrefused w sy (seen_functions h gs) h' ds → ReadsDrafts w sy head o h' ds
  drafts_behind h h' fs gs ds e g r = record {
    right = behind h fs gs e g ∙ r.right;
    drafts = ap (option_map (drafts_of sy)) e ∙ ap (λ x. Some x) (ap (λ xs. drafts_of sy (seen_functions h xs)) (sym g) ∙ r.drafts);
    lies = r.lies;
  }
