-- Layouts of stobjs that stand, and fields laid out one after another.
use Rattle.std.specs.Prelude.{◌≡◌, ℕ, List, [], ◌∷◌, ◌++◌, map, Option, Some, None, slice_get, refl}
use Rattle.std.proofs.Common.{ap, sym, ◌∙◌}
use Rattle.std.proofs.lemmas.List.{append-nil, append_assoc}
use Rattle.acl_base.specs.declared.LayoutId.{LayoutId}
use Rattle.acl_base.specs.declared.layout.Field.{Field}
use Rattle.acl_terms.specs.declared.definition.Definition.{Definition}
use Rattle.acl_terms.specs.declared.stobj.FieldDescriptor.{FieldDescriptor}
use Rattle.acl_worlds.specs.Contents.{Content, number_of}
use Rattle.acl_enter_stobj.specs.Laid.{no_layout, layout_in, layout_number, field_laid, fields_laid}

pub number_there : (w : Content) (x n : ℕ) (d : Definition) (l : LayoutId) → Some n ≡ number_of w x → slice_get w.definitions n ≡ Some d → l ≡ layout_in d → l ≡ layout_number w x
number_there w x n d l found at is = rw (sym found, at) is

pub number_nowhere : (w : Content) (x : ℕ) → None ≡ number_of w x → no_layout ≡ layout_number w x
number_nowhere w x found = rw (sym found) refl

module _ (w : Content) (all : List Field) (rest fields : List FieldDescriptor) where
  pub laid_start : all ≡ [] → all ++ fields_laid w fields ≡ fields_laid w fields
  laid_start e = rw e refl

  pub laid_more : (more : List Field) (f : Field) (d : FieldDescriptor) (others : List FieldDescriptor) → all ++ fields_laid w rest ≡ fields_laid w fields → rest ≡ d ∷ others
      → f ≡ field_laid w d.shape → more ≡ all ++ f ∷ [] → more ++ fields_laid w others ≡ fields_laid w fields
  laid_more more f d others whole split is pushed =
      ap (λ fs. fs ++ fields_laid w others) pushed
      ∙ (append_assoc all (f ∷ []) (fields_laid w others) ∙ (ap (λ g. all ++ g ∷ fields_laid w others) is ∙ (ap (λ ds. all ++ fields_laid w ds) (sym split) ∙ whole)))

  pub laid_end : all ++ fields_laid w rest ≡ fields_laid w fields → rest ≡ [] → all ≡ fields_laid w fields
  laid_end whole e = sym (append-nil all) ∙ (ap (λ ds. all ++ fields_laid w ds) (sym e) ∙ whole)
