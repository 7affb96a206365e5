-- What functions of a field do is told by its plain layout.
use Rattle.std.specs.Prelude.{◌≡◌, ℕ, zero, suc, List, [], ◌∷◌, Option, Some, None, refl}
use Rattle.std.proofs.Common.{sym, ap, ◌∙◌}
use Rattle.model_objects.specs.Object.{Object}
use Rattle.model_prims.specs.Kinds.{by_number}
use Rattle.model_lists.specs.Lists.{StobjList}
use Rattle.model_lists.specs.Layouts.{Layout, Children, NoField, Field}
use Rattle.model_lists.specs.Effects.{Effect, Refuses, accessed, changed, lengthened, with_key, hash_read, hash_bound, hash_looked_up, hash_put, hash_removed}
use Rattle.model_terms.specs.Worlds as worlds
use Rattle.model_eval.specs.StobjLayouts.{shape_layout, fields_layout, defined_layout, layout_within}
use Rattle.acl_new_lists.specs.Begun.{itself}
use Rattle.acl_layouts.specs.Laid.{laid}
use Rattle.acl_list_calls.specs.Plain.{plain_layout}

-- a function of a field that a stobj is, or that is no field, refuses
pub record IsOfElements (E : Layout ℕ → Effect ℕ) : Type 0 where
  pub no_field : E NoField ≡ Refuses
  pub fields : (a b : Layout ℕ) → E (Field a b) ≡ Refuses
  pub children : (n : ℕ) (c : Layout ℕ) → E (Children n c) ≡ Refuses

module _ (E : Layout ℕ → Effect ℕ) (i : IsOfElements E) where
  among : (child : ℕ → Layout ℕ) (fs : List worlds.Field) → E (fields_layout itself child fs) ≡ Refuses
  among child [] = i.no_field
  among child (f ∷ fs) = i.fields (shape_layout itself child f.shape) (fields_layout itself child fs)

  defined : (child : ℕ → Layout ℕ) (o : Option worlds.Definition) → ((y : ℕ) → E (child y) ≡ Refuses) → E (defined_layout itself child o) ≡ Refuses
  defined child None c = i.no_field
  defined child (Some (worlds.Primitive name row)) c = i.no_field
  defined child (Some (worlds.Defined f)) c = i.no_field
  defined child (Some (worlds.Macro name formals body)) c = i.no_field
  defined child (Some (worlds.Constant name value)) c = i.no_field
  defined child (Some (worlds.Concrete e class)) c = among child e.fields
  defined child (Some (worlds.Generated f)) c = i.no_field
  defined child (Some (worlds.Abstract a)) c = c a.foundation
  defined child (Some (worlds.OfAbstract f)) c = i.no_field
  defined child (Some (worlds.Named name formals)) c = i.no_field
  defined child (Some (worlds.Signed name formals signature executable)) c = i.no_field

  stobj_refuses : (w : worlds.World) (d y : ℕ) → E (layout_within itself w d y) ≡ Refuses
  unfolding layout_within
  stobj_refuses w zero y = i.no_field
  stobj_refuses w (suc d) y = defined (layout_within itself w d) (worlds.definition w y) (λ z. stobj_refuses w d z)

  pub as_plain : (w : worlds.World) (d : ℕ) (s : worlds.Shape) → E (plain_layout s) ≡ E (laid w d s)
  unfolding laid plain_layout
  as_plain w d (worlds.Scalar written start) = refl
  as_plain w d (worlds.Array written start length resizable) = refl
  as_plain w d (worlds.Hash test) = refl
  as_plain w d (worlds.Child y) = i.no_field ∙ sym (stobj_refuses w d y)
  as_plain w d (worlds.Children y length) = i.children length NoField ∙ sym (i.children length (layout_within itself w d y))

module _ (f : ℕ) (args : List (Object ℕ)) (l : StobjList ℕ) where
  pub accessed_elements : IsOfElements (λ layout. accessed by_number layout f args l)
  unfolding accessed
  accessed_elements = record { no_field = refl; fields = λ a b. refl; children = λ n c. refl }

  pub changed_elements : IsOfElements (λ layout. changed by_number layout f args l)
  unfolding changed
  changed_elements = record { no_field = refl; fields = λ a b. refl; children = λ n c. refl }

  pub lengthened_elements : IsOfElements (λ layout. lengthened by_number layout f args l)
  unfolding lengthened
  lengthened_elements = record { no_field = refl; fields = λ a b. refl; children = λ n c. refl }

  pub read_elements : IsOfElements (λ layout. hash_read by_number layout f args l)
  unfolding hash_read
  read_elements = record { no_field = refl; fields = λ a b. refl; children = λ n c. refl }

  pub bound_elements : IsOfElements (λ layout. hash_bound by_number layout f args l)
  unfolding hash_bound
  bound_elements = record { no_field = refl; fields = λ a b. refl; children = λ n c. refl }

  pub both_elements : IsOfElements (λ layout. hash_looked_up by_number layout f args l)
  unfolding hash_looked_up
  both_elements = record { no_field = refl; fields = λ a b. refl; children = λ n c. refl }

  pub put_elements : IsOfElements (λ layout. hash_put by_number layout f args l)
  unfolding hash_put
  put_elements = record { no_field = refl; fields = λ a b. refl; children = λ n c. refl }

  pub removed_elements : IsOfElements (λ layout. hash_removed by_number layout f args l)
  unfolding hash_removed
  removed_elements = record { no_field = refl; fields = λ a b. refl; children = λ n c. refl }
