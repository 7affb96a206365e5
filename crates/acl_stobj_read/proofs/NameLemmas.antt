-- The first name that may not be given.
use Rattle.std.specs.Prelude.{◌≡◌, ℕ, List, [], ◌∷◌, ◌++◌, map, true, false, Option, Some, None, refl}
use Rattle.std.proofs.Common.{sym, ap, ◌∙◌}
use Rattle.model_objects.specs.Object.{Object, Symbol}
use Rattle.model_symbols.specs.Symbols.{QualifiedName}
use Rattle.model_expansion.specs.Forms.{may_be_defined}
use Rattle.model_expansion.specs.Faults.{Refusal, BadName}
use Rattle.model_stobjs.specs.Answers.{first_given}
use Rattle.model_stobjs.specs.Heads.{is_good_name, bad_name, bad_name_at}
use Rattle.model_stobjs.specs.Descriptors as written
use Rattle.model_stobjs.specs.Descriptors.{names_tested}
use Rattle.acl_base.specs.declared.SymId.{SymId}
use Rattle.acl_heap.specs.Objects.{Objects, object_of}
use Rattle.acl_stobj_read.specs.declared.written.WrittenField.{WrittenField}
use Rattle.acl_stobj_read.specs.declared.written.WrittenStobj.{WrittenStobj}
use Rattle.acl_stobj_read.specs.Written.{seen_stobj, seen_fields, seen_renaming, field_names, renamed_names}

module _ {A B : Type 0} (f : A → Option B) where
  pub given_first : (xs ys : List A) (y : B) → first_given f xs ≡ Some y → first_given f (xs ++ ys) ≡ Some y
  given_first [] ys y e = cc
  given_first (x ∷ xs) ys y e = by (f x) refl (given_first xs ys y)
    where
      by : (o : Option B) → f x ≡ o → (first_given f xs ≡ Some y → first_given f (xs ++ ys) ≡ Some y) → first_given f ((x ∷ xs) ++ ys) ≡ Some y
      by None g later = rw g (later (rw g at e))
      by (Some z) g later = rw g (rw g at e)

  pub given_then : (xs ys : List A) → first_given f xs ≡ None → first_given f (xs ++ ys) ≡ first_given f ys
  given_then [] ys e = refl
  given_then (x ∷ xs) ys e = by (f x) refl (given_then xs ys)
    where
      by : (o : Option B) → f x ≡ o → (first_given f xs ≡ None → first_given f (xs ++ ys) ≡ first_given f ys) → first_given f ((x ∷ xs) ++ ys) ≡ first_given f ys
      by None g later = rw g (later (rw g at e))
      by (Some z) g later = let no : Some z ≡ None = rw g at e in cc

module _ (sy : List QualifiedName) where
  pub field_good : (f : WrittenField) (rest others : List WrittenField) → rest ≡ f ∷ others → may_be_defined sy f.name.0 ≡ true
      → first_given (bad_name_at sy) (field_names rest) ≡ first_given (bad_name_at sy) (field_names others)
  field_good f rest others e g = rw (e, g) refl

  pub field_bad : (f : WrittenField) (rest others : List WrittenField) → rest ≡ f ∷ others → may_be_defined sy f.name.0 ≡ false
      → first_given (bad_name_at sy) (field_names rest) ≡ Some (BadName (Symbol f.name.0))
  field_bad f rest others e g = rw (e, g) refl

  pub field_end : (rest : List WrittenField) → rest ≡ [] → first_given (bad_name_at sy) (field_names rest) ≡ None
  field_end rest e = rw e refl

  pub renamed_good : (p : SymId × SymId) (rest others : List (SymId × SymId)) → rest ≡ p ∷ others → may_be_defined sy p.1.0 ≡ true
      → first_given (bad_name_at sy) (renamed_names rest) ≡ first_given (bad_name_at sy) (renamed_names others)
  renamed_good p rest others e g = rw (e, g) refl

  pub renamed_bad : (p : SymId × SymId) (rest others : List (SymId × SymId)) → rest ≡ p ∷ others → may_be_defined sy p.1.0 ≡ false
      → first_given (bad_name_at sy) (renamed_names rest) ≡ Some (BadName (Symbol p.1.0))
  renamed_bad p rest others e g = rw (e, g) refl

  pub renamed_end : (rest : List (SymId × SymId)) → rest ≡ [] → first_given (bad_name_at sy) (renamed_names rest) ≡ None
  renamed_end rest e = rw e refl

  fields_are : (h : Objects) (fs : List WrittenField) → map (λ (f : written.WrittenField). Symbol f.name) (seen_fields h fs) ≡ field_names fs
  fields_are h [] = refl
  fields_are h (f ∷ fs) = ap (λ os. Symbol f.name.0 ∷ os) (fields_are h fs)

  renamed_are : (ps : List (SymId × SymId)) → map (λ (p : ℕ × ℕ). Symbol p.1) (seen_renaming ps) ≡ renamed_names ps
  renamed_are [] = refl
  renamed_are (p ∷ ps) = ap (λ os. Symbol p.1.0 ∷ os) (renamed_are ps)

  pub stobj_bad : (h : Objects) (s : WrittenStobj) → is_good_name sy (object_of h s.name) ≡ false → bad_name sy (names_tested (seen_stobj h s)) ≡ Some (BadName (object_of h s.name))
  stobj_bad h s e = rw e refl

  behind : (h : Objects) (s : WrittenStobj) → is_good_name sy (object_of h s.name) ≡ true
      → bad_name sy (names_tested (seen_stobj h s)) ≡ first_given (bad_name_at sy) (field_names s.fields ++ renamed_names s.renaming)
  behind h s e = rw (e, fields_are h s.fields, renamed_are s.renaming) refl

  pub then_field : (h : Objects) (s : WrittenStobj) (fs : List WrittenField) (r : Refusal) → is_good_name sy (object_of h s.name) ≡ true → fs ≡ s.fields → first_given (bad_name_at sy) (field_names fs) ≡ Some r
      → bad_name sy (names_tested (seen_stobj h s)) ≡ Some r
  then_field h s fs r e i g = behind h s e ∙ given_first (bad_name_at sy) (field_names s.fields) (renamed_names s.renaming) r (rw i at g)

  pub then_renamed : (h : Objects) (s : WrittenStobj) (fs : List WrittenField) (ps : List (SymId × SymId)) (r : Option Refusal) → is_good_name sy (object_of h s.name) ≡ true → fs ≡ s.fields
      → first_given (bad_name_at sy) (field_names fs) ≡ None → ps ≡ s.renaming → first_given (bad_name_at sy) (renamed_names ps) ≡ r
      → bad_name sy (names_tested (seen_stobj h s)) ≡ r
  then_renamed h s fs ps r e i g j k = behind h s e ∙ (given_then (bad_name_at sy) (field_names s.fields) (renamed_names s.renaming) (rw i at g) ∙ rw j at k)
