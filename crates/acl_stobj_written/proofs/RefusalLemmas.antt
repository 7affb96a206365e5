-- The first refusal.
use Rattle.std.specs.Prelude.{◌≡◌, ℕ, List, Option, Some, None, refl}
use Rattle.std.specs.Option.{option_or}
use Rattle.std.proofs.Common.{sym, ap, ◌∙◌}
use Rattle.model_symbols.specs.Symbols.{QualifiedName}
use Rattle.model_terms.specs.Worlds as worlds
use Rattle.model_expansion.specs.Words.{defstobj_word}
use Rattle.model_expansion.specs.Faults as faults
use Rattle.model_expansion.specs.Faults.{Refusal}
use Rattle.model_stobjs.specs.Answers.{first_given}
use Rattle.model_stobjs.specs.Heads.{bad_name}
use Rattle.model_stobjs.specs.Descriptors as written
use Rattle.model_stobjs.specs.Descriptors.{names_tested}
use Rattle.acl_heap.specs.Objects.{Objects}
use Rattle.acl_stobj_read.specs.declared.written.WrittenField.{WrittenField}
use Rattle.acl_stobj_read.specs.declared.written.WrittenStobj.{WrittenStobj}
use Rattle.acl_stobj_read.specs.Written.{seen_fields, seen_stobj}
use Rattle.acl_stobj_written.specs.declared.fault.StobjFault.{StobjFault}
use Rattle.acl_stobj_written.specs.declared.fault.StobjFault.TheVariants as fault
use Rattle.acl_stobj_written.specs.declared.shaped.ShapedField.{ShapedField}
use Rattle.acl_stobj_written.specs.Fields.{written_of}
use Rattle.acl_stobj_written.specs.Shaping.{Shapes}
use Rattle.acl_stobj_written.specs.Refusals.{Told, RefusedBy, fields_refusal, written_refusal}

-- what is said of one refusal is said of another that comes where it does
pub told_on : (h : Objects) (a b : Option Refusal) (f : StobjFault) → ((r : Refusal) → a ≡ Some r → b ≡ Some r) → RefusedBy h a f → RefusedBy h b f
told_on h a b fault.BadShape go t = go _ t
told_on h a b (fault.BadName x) go t = go _ t
told_on h a b (fault.BadType s) go t = go _ t
told_on h a b (fault.BadInitial s) go t = go _ t
told_on h a b fault.SymbolLimit go t = go _ t
told_on h a b (fault.NameInUse s) go t = go _ t
told_on h a b (fault.CongruenceMismatch i) go t = go _ t
told_on h a b fault.Memory go t = tt

module _ (w : worlds.World) where
  -- ---- fields

  typed_first : (fs : List written.WrittenField) (r : Refusal) → first_given (written.bad_type w) fs ≡ Some r → fields_refusal w fs ≡ Some r
  typed_first fs r e = rw e refl

  pub type_refused : (h : Objects) (fs : List WrittenField) (f : StobjFault) → RefusedBy h (first_given (written.bad_type w) (seen_fields h fs)) f → RefusedBy h (fields_refusal w (seen_fields h fs)) f
  type_refused h fs f t = told_on h _ (fields_refusal w (seen_fields h fs)) f (typed_first (seen_fields h fs)) t

  behind_types : (h : Objects) (found : List ShapedField) (fs : List WrittenField) → Shapes w h found fs
      → fields_refusal w (seen_fields h fs) ≡ first_given (written.bad_initial w) (seen_fields h (written_of found))
  behind_types h found fs s = rw s.typed (ap (λ xs. first_given (written.bad_initial w) (seen_fields h xs)) (sym s.are))

  pub initial_refused : (h : Objects) (found : List ShapedField) (fs : List WrittenField) (r : Refusal) → Shapes w h found fs
      → first_given (written.bad_initial w) (seen_fields h (written_of found)) ≡ Some r → fields_refusal w (seen_fields h fs) ≡ Some r
  initial_refused h found fs r s e = behind_types h found fs s ∙ e

  pub fields_accepted : (h : Objects) (found : List ShapedField) (fs : List WrittenField) → Shapes w h found fs
      → first_given (written.bad_initial w) (seen_fields h (written_of found)) ≡ None → fields_refusal w (seen_fields h fs) ≡ None
  fields_accepted h found fs s e = behind_types h found fs s ∙ e

  -- ---- the whole

  module _ (sy : List QualifiedName) where
    pub shape_refused : (o : Option written.WrittenStobj) → o ≡ None → written_refusal w sy o ≡ Some (faults.Expand (faults.BadShape defstobj_word))
    shape_refused o e = rw e refl

    pub name_refused : (h : Objects) (o : Option written.WrittenStobj) (s : WrittenStobj) (r : Refusal) → o ≡ Some (seen_stobj h s) → bad_name sy (names_tested (seen_stobj h s)) ≡ Some r
        → written_refusal w sy o ≡ Some r
    name_refused h o s r e f = rw (e, f) refl

    behind_names : (h : Objects) (o : Option written.WrittenStobj) (s : WrittenStobj) (fs : List WrittenField) → o ≡ Some (seen_stobj h s) → bad_name sy (names_tested (seen_stobj h s)) ≡ None → fs ≡ s.fields
        → written_refusal w sy o ≡ fields_refusal w (seen_fields h fs)
    behind_names h o s fs e f i = rw (e, f, i) refl

    pub fields_refused : (h : Objects) (o : Option written.WrittenStobj) (s : WrittenStobj) (fs : List WrittenField) (f : StobjFault) → o ≡ Some (seen_stobj h s)
        → bad_name sy (names_tested (seen_stobj h s)) ≡ None → fs ≡ s.fields → RefusedBy h (fields_refusal w (seen_fields h fs)) f → RefusedBy h (written_refusal w sy o) f
    fields_refused h o s fs f e n i t = told_on h _ (written_refusal w sy o) f (λ r g. behind_names h o s fs e n i ∙ g) t

    pub accepted : (h : Objects) (o : Option written.WrittenStobj) (s : WrittenStobj) (fs : List WrittenField) → o ≡ Some (seen_stobj h s)
        → bad_name sy (names_tested (seen_stobj h s)) ≡ None → fs ≡ s.fields → fields_refusal w (seen_fields h fs) ≡ None → written_refusal w sy o ≡ None
    accepted h o s fs e n i g = behind_names h o s fs e n i ∙ g
