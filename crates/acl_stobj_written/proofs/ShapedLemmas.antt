-- Fields with their shapes.
use Rattle.std.specs.Prelude.{◌≡◌, ℕ, ◌≤◌, List, [], ◌∷◌, ◌++◌, length, map, max, Option, Some, None, refl}
use Rattle.std.proofs.Common.{sym, ap, ◌∙◌, append_assoc, arith}
use Rattle.std.proofs.lemmas.List.{append-nil, map-append}
use Rattle.model_terms.specs.Worlds as worlds
use Rattle.model_expansion.specs.Faults.{BadType}
use Rattle.model_stobjs.specs.Answers.{first_given}
use Rattle.model_stobjs.specs.Descriptors as written
use Rattle.acl_heap.specs.Objects.{Objects}
use Rattle.acl_terms.specs.Forms.{most}
use Rattle.acl_terms.specs.Definitions.{seen_shape, shape_reach}
use Rattle.acl_terms.specs.declared.stobj.Shape.{Shape}
use Rattle.acl_layers.proofs.BindingLemmas.{most_append}
use Rattle.acl_stobj_read.specs.declared.written.WrittenField.{WrittenField}
use Rattle.acl_stobj_read.specs.Written.{seen_written, seen_fields, fields_reach}
use Rattle.acl_stobj_written.specs.declared.shaped.ShapedField.{ShapedField}
use Rattle.acl_stobj_written.specs.Fields.{written_of, seen_shaped, shapes_reach, AreShaped}
use Rattle.acl_stobj_written.specs.Shaping.{Shapes, Shaping}

module _ (w : worlds.World) (h : Objects) where
  pub starts : (fs : List WrittenField) → fields_reach fs ≤ length h → Shaping w h [] fs fs
  starts fs l = record { are = refl; each = refl; seen = refl; typed = refl; reach = omega arith; left = l }

  shaped_step : (f : WrittenField) (s : Shape) (fs : List WrittenField) → written.shape_of w (seen_written h f) ≡ Some (seen_shape h s)
      → written.shaped_fields w (seen_fields h (f ∷ fs)) ≡ (f.name.0, seen_shape h s) ∷ written.shaped_fields w (seen_fields h fs)
  shaped_step f s fs e = rw e refl

  typed_step : (f : WrittenField) (s : Shape) (fs : List WrittenField) → written.shape_of w (seen_written h f) ≡ Some (seen_shape h s)
      → first_given (written.bad_type w) (seen_fields h (f ∷ fs)) ≡ first_given (written.bad_type w) (seen_fields h fs)
  typed_step f s fs e = rw e refl

  each_step : (found : List ShapedField) (f : ShapedField) → AreShaped w h found → written.shape_of w (seen_written h f.written) ≡ Some (seen_shape h f.shape) → AreShaped w h (found ++ f ∷ [])
  each_step found f a e =
      map-append (λ (g : ShapedField). written.shape_of w (seen_written h g.written)) found (f ∷ [])
      ∙ (rw (a, e) (sym (map-append (λ (g : ShapedField). Some (seen_shape h g.shape)) found (f ∷ []))))

  pub next_shaped : (found new : List ShapedField) (f : ShapedField) (rest others fs : List WrittenField) → Shaping w h found rest fs → rest ≡ f.written ∷ others
      → written.shape_of w (seen_written h f.written) ≡ Some (seen_shape h f.shape) → shape_reach f.shape ≤ length h → new ≡ found ++ f ∷ [] → Shaping w h new others fs
  next_shaped found new f rest others fs g e i l n =
      let last : shapes_reach (found ++ f ∷ []) ≡ max (shapes_reach found) (shape_reach f.shape) =
      ap most (map-append (λ (x : ShapedField). shape_reach x.shape) found (f ∷ [])) ∙ most_append (map (λ (x : ShapedField). shape_reach x.shape) found) (shape_reach f.shape) in
      let wrote : written_of (found ++ f ∷ []) ≡ written_of found ++ f.written ∷ [] = map-append (λ (x : ShapedField). x.written) found (f ∷ []) in
      let saw : seen_shaped h (found ++ f ∷ []) ≡ seen_shaped h found ++ (f.written.name.0, seen_shape h f.shape) ∷ [] = map-append (λ (x : ShapedField). (x.written.name.0, seen_shape h x.shape)) found (f ∷ []) in
      let left : fields_reach (f.written ∷ others) ≤ length h = rw e at g.left in
      let room : shapes_reach found ≤ length h = g.reach in
      rw n (record {
        are = ap (λ xs. xs ++ others) wrote ∙ (append_assoc (written_of found) (f.written ∷ []) others ∙ (ap (λ xs. written_of found ++ xs) (sym e) ∙ g.are));
        each = each_step found f g.each i;
        seen =
            g.seen
            ∙ (ap (λ xs. seen_shaped h found ++ written.shaped_fields w (seen_fields h xs)) e
            ∙ (ap (λ xs. seen_shaped h found ++ xs) (shaped_step f.written f.shape others i)
            ∙ (sym (append_assoc (seen_shaped h found) ((f.written.name.0, seen_shape h f.shape) ∷ []) (written.shaped_fields w (seen_fields h others)))
            ∙ ap (λ xs. xs ++ written.shaped_fields w (seen_fields h others)) (sym saw))));
        typed = g.typed ∙ (ap (λ xs. first_given (written.bad_type w) (seen_fields h xs)) e ∙ typed_step f.written f.shape others i);
        reach = omega (arith, last, room, l);
        left = omega (arith, left);
      })

  pub all_shaped : (found : List ShapedField) (rest fs : List WrittenField) → Shaping w h found rest fs → rest ≡ [] → Shapes w h found fs
  all_shaped found rest fs g e = record {
    are = sym (append-nil (written_of found)) ∙ (ap (λ xs. written_of found ++ xs) (sym e) ∙ g.are);
    each = g.each;
    seen = g.seen ∙ (ap (λ xs. seen_shaped h found ++ written.shaped_fields w (seen_fields h xs)) e ∙ append-nil (seen_shaped h found));
    typed = g.typed ∙ ap (λ xs. first_given (written.bad_type w) (seen_fields h xs)) e;
    reach = g.reach;
  }

  pub bad_there : (found : List ShapedField) (f : WrittenField) (rest others fs : List WrittenField) → Shaping w h found rest fs → rest ≡ f ∷ others → written.shape_of w (seen_written h f) ≡ None
      → first_given (written.bad_type w) (seen_fields h fs) ≡ Some (BadType f.name.0)
  bad_there found f rest others fs g e i = g.typed ∙ (ap (λ xs. first_given (written.bad_type w) (seen_fields h xs)) e ∙ rw i refl)
