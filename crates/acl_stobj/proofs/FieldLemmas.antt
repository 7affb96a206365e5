-- Fields that get their names in a loop.
use Rattle.std.specs.Prelude.{◌≡◌, ℕ, ◌+◌, ◌≤◌, ◌<◌, List, [], ◌∷◌, ◌++◌, length, map, max, refl}
use Rattle.std.specs.List.{flat_map}
use Rattle.std.proofs.Common.{sym, ap, ◌∙◌, append_assoc, subst, arith}
use Rattle.std.proofs.lemmas.List.{append-nil, map-append, length-map}
use Rattle.model_symbols.specs.Symbols.{QualifiedName, Table}
use Rattle.model_symbols.specs.Growth.{Extends}
use Rattle.model_symbols.proofs.TableLemmas.{Extends-self, Extends-then}
use Rattle.model_terms.specs.Worlds as worlds
use Rattle.model_stobjs.specs.Descriptors as written
use Rattle.model_stobjs.specs.Descriptors.{made_count, field_makings, field_texts}
use Rattle.acl_base.specs.declared.SymId.{SymId}
use Rattle.acl_heap.specs.Objects.{Objects}
use Rattle.acl_forms.specs.Growth.{symbol_later}
use Rattle.acl_terms.specs.Forms.{numbers, most}
use Rattle.acl_terms.specs.Definitions.{seen_shape, shape_reach}
use Rattle.acl_terms.specs.declared.stobj.FieldDescriptor.{FieldDescriptor}
use Rattle.acl_layers.proofs.BindingLemmas.{most_append}
use Rattle.acl_stobj_written.specs.declared.shaped.ShapedField.{ShapedField}
use Rattle.acl_stobj_written.specs.Fields.{seen_shaped, shapes_reach}
use Rattle.acl_stobj.specs.declared.making.Unmade.{Unmade}
use Rattle.acl_stobj.specs.declared.texts.Purpose.{Purpose}
use Rattle.acl_stobj.specs.Texts.{makings_of, makings_in, purposes_of}
use Rattle.acl_stobj.specs.Making.{AreMade, IsPart, UnmadeBy, AreMaking}
use Rattle.acl_stobj.specs.MadeFields.{made_reach, unnamed, names_in, AreCounted}
use Rattle.acl_stobj.specs.Fields.{AreNamed, IsMaking}
use Rattle.acl_stobj.proofs.TextLemmas.{purposes_are, purpose_count}
use Rattle.acl_stobj.proofs.LoopLemmas.{making_starts, making_more, making_ends, making_fails, making_refused}

-- ---- one field

module _ (ren : List (ℕ × ℕ)) (old : Table) (s : ℕ) (shape : worlds.Shape) (ps : List Purpose) where
  pub field_made : (xs : List ℕ) (new : Table) → ps ≡ purposes_of shape → AreMade old.packages ren (makings_of old.symbols s ps) old.symbols xs new.symbols
      → AreMade old.packages ren (makings_in old.symbols (s, shape)) old.symbols xs new.symbols
  field_made xs new e m = subst (λ ms. AreMade old.packages ren ms old.symbols xs new.symbols) (ap (makings_of old.symbols s) e ∙ purposes_are old.symbols s shape) m

  pub field_unmade : (u : Unmade) (new : Table) → ps ≡ purposes_of shape → UnmadeBy old.packages ren (makings_of old.symbols s ps) old.symbols new.symbols u
      → UnmadeBy old.packages ren (makings_in old.symbols (s, shape)) old.symbols new.symbols u
  field_unmade u new e f = subst (λ ms. UnmadeBy old.packages ren ms old.symbols new.symbols u) (ap (makings_of old.symbols s) e ∙ purposes_are old.symbols s shape) f

pub field_counted : (shape : worlds.Shape) (ps : List Purpose) (names : List SymId) → ps ≡ purposes_of shape → length names ≡ length ps → length (numbers names) ≡ made_count shape
field_counted shape ps names e l = length-map names (λ (s : SymId). s.0) ∙ (l ∙ (ap length e ∙ purpose_count shape))

-- ---- fields one after another

same_in : (old now : Table) (f : written.ShapedField) → Extends old now → f.0 < length old.symbols → makings_in now.symbols f ≡ makings_in old.symbols f
same_in old now f g l = ap (λ (q : QualifiedName). map (λ text. (f.0, text)) (field_texts q.name f.1)) (symbol_later g f.0 l)

names_pushed : (made : List FieldDescriptor) (d : FieldDescriptor) → names_in (made ++ d ∷ []) ≡ names_in made ++ numbers d.made
names_pushed [] d = append-nil (numbers d.made)
names_pushed (f ∷ fs) d = ap (λ xs. numbers f.made ++ xs) (names_pushed fs d) ∙ sym (append_assoc (numbers f.made) (names_in fs) (numbers d.made))

module _ (h : Objects) where
  counted_pushed : (made : List FieldDescriptor) (d : FieldDescriptor) → AreCounted h made → length (numbers d.made) ≡ made_count (seen_shape h d.shape) → AreCounted h (made ++ d ∷ [])
  counted_pushed [] d c e = (e, tt)
  counted_pushed (f ∷ fs) d c e = (c.0, counted_pushed fs d c.1 e)

  module _ (ren : List (ℕ × ℕ)) (old : Table) where
    pub fields_start : (all : List ShapedField) → AreNamed (length old.symbols) all → shapes_reach all ≤ length h → IsMaking h ren old old all all []
    fields_start all n l = record {
      grows = Extends-self old;
      packages = refl;
      making = making_starts old.packages ren (field_makings old.symbols (seen_shaped h all)) old.symbols;
      fields = refl;
      counted = tt;
      reach = omega arith;
      left = l;
      named = n;
    }

    abbrev field_of : ShapedField → written.ShapedField
    field_of f = (f.written.name.0, seen_shape h f.shape)

    module _ (now : Table) (f : ShapedField) (all rest others : List ShapedField) (made : List FieldDescriptor) (g : IsMaking h ren old now all rest made) (e : rest ≡ f ∷ others) where
      named_split : AreNamed (length old.symbols) (f ∷ others)
      named_split = rw e at g.named

      split : AreMaking old.packages ren (field_makings old.symbols (seen_shaped h all)) old.symbols (names_in made) (makings_in old.symbols (field_of f) ++ field_makings old.symbols (seen_shaped h others)) now.symbols
      split = subst (λ fs. AreMaking old.packages ren (field_makings old.symbols (seen_shaped h all)) old.symbols (names_in made) (field_makings old.symbols (seen_shaped h fs)) now.symbols) e g.making

      pub fields_more : (new : Table) (d : FieldDescriptor) (more : List FieldDescriptor) → Extends now new → new.packages ≡ now.packages
          → AreMade now.packages ren (makings_in now.symbols (field_of f)) now.symbols (numbers d.made) new.symbols → unnamed h d ≡ field_of f
          → length (numbers d.made) ≡ made_count (seen_shape h d.shape) → shape_reach d.shape ≡ shape_reach f.shape → more ≡ made ++ d ∷ [] → IsMaking h ren old new all others more
      fields_more new d more grown k m same count r pushed =
          let here : AreMade old.packages ren (makings_in old.symbols (field_of f)) now.symbols (numbers d.made) new.symbols =
          subst (λ ms. AreMade old.packages ren ms now.symbols (numbers d.made) new.symbols) (same_in old now (field_of f) g.grows named_split.0)
          (subst (λ ps. AreMade ps ren (makings_in now.symbols (field_of f)) now.symbols (numbers d.made) new.symbols) g.packages m) in
          let next : AreMaking old.packages ren (field_makings old.symbols (seen_shaped h all)) old.symbols (names_in made ++ numbers d.made) (field_makings old.symbols (seen_shaped h others)) new.symbols =
          making_more old.packages ren (field_makings old.symbols (seen_shaped h all)) (makings_in old.symbols (field_of f)) (field_makings old.symbols (seen_shaped h others)) old.symbols now.symbols new.symbols (names_in made) (numbers d.made) split here in
          let last : made_reach (made ++ d ∷ []) ≡ max (made_reach made) (shape_reach d.shape) =
          ap most (map-append (λ (x : FieldDescriptor). shape_reach x.shape) made (d ∷ [])) ∙ most_append (map (λ (x : FieldDescriptor). shape_reach x.shape) made) (shape_reach d.shape) in
          let left : shapes_reach (f ∷ others) ≤ length h = rw e at g.left in
          let room : made_reach made ≤ length h = g.reach in
          rw pushed (record {
            grows = Extends-then g.grows grown;
            packages = k ∙ g.packages;
            making = subst (λ xs. AreMaking old.packages ren (field_makings old.symbols (seen_shaped h all)) old.symbols xs (field_makings old.symbols (seen_shaped h others)) new.symbols) (sym (names_pushed made d)) next;
            fields =
                ap (λ xs. xs ++ seen_shaped h others) (map-append (unnamed h) made (d ∷ []))
                ∙ (append_assoc (map (unnamed h) made) (unnamed h d ∷ []) (seen_shaped h others)
                ∙ (ap (λ x. map (unnamed h) made ++ x ∷ seen_shaped h others) same
                ∙ (ap (λ fs. map (unnamed h) made ++ seen_shaped h fs) (sym e) ∙ g.fields)));
            counted = counted_pushed made d g.counted count;
            reach = omega (arith, last, room, left, r);
            left = omega (arith, left);
            named = named_split.1;
          })

      pub fields_fail : (new : Table) (u : Unmade) → UnmadeBy now.packages ren (makings_in now.symbols (field_of f)) now.symbols new.symbols u
          → UnmadeBy old.packages ren (field_makings old.symbols (seen_shaped h all)) old.symbols new.symbols u
      fields_fail new u bad =
          let here : UnmadeBy old.packages ren (makings_in old.symbols (field_of f)) now.symbols new.symbols u =
          subst (λ ms. UnmadeBy old.packages ren ms now.symbols new.symbols u) (same_in old now (field_of f) g.grows named_split.0)
          (subst (λ ps. UnmadeBy ps ren (makings_in now.symbols (field_of f)) now.symbols new.symbols u) g.packages bad) in
          making_fails old.packages ren (field_makings old.symbols (seen_shaped h all)) (makings_in old.symbols (field_of f)) (field_makings old.symbols (seen_shaped h others)) old.symbols now.symbols new.symbols (names_in made) u split here

      -- where memory was refused once the names of the field were made
      pub fields_refused : (new : Table) (d : FieldDescriptor) → AreMade now.packages ren (makings_in now.symbols (field_of f)) now.symbols (numbers d.made) new.symbols
          → IsPart old.packages ren (field_makings old.symbols (seen_shaped h all)) old.symbols new.symbols
      fields_refused new d m =
          let here : AreMade old.packages ren (makings_in old.symbols (field_of f)) now.symbols (numbers d.made) new.symbols =
          subst (λ ms. AreMade old.packages ren ms now.symbols (numbers d.made) new.symbols) (same_in old now (field_of f) g.grows named_split.0)
          (subst (λ ps. AreMade ps ren (makings_in now.symbols (field_of f)) now.symbols (numbers d.made) new.symbols) g.packages m) in
          making_refused old.packages ren (field_makings old.symbols (seen_shaped h all)) (field_makings old.symbols (seen_shaped h others)) old.symbols new.symbols (names_in made ++ numbers d.made)
          (making_more old.packages ren (field_makings old.symbols (seen_shaped h all)) (makings_in old.symbols (field_of f)) (field_makings old.symbols (seen_shaped h others)) old.symbols now.symbols new.symbols (names_in made) (numbers d.made) split here)

    pub fields_end : (now : Table) (all rest : List ShapedField) (made : List FieldDescriptor) → IsMaking h ren old now all rest made → rest ≡ []
        → AreMade old.packages ren (field_makings old.symbols (seen_shaped h all)) old.symbols (names_in made) now.symbols
    fields_end now all rest made g e =
        making_ends old.packages ren (field_makings old.symbols (seen_shaped h all)) old.symbols now.symbols (names_in made)
        (subst (λ fs. AreMaking old.packages ren (field_makings old.symbols (seen_shaped h all)) old.symbols (names_in made) (field_makings old.symbols (seen_shaped h fs)) now.symbols) e g.making)

    pub fields_named : (now : Table) (all rest : List ShapedField) (made : List FieldDescriptor) → IsMaking h ren old now all rest made → rest ≡ [] → map (unnamed h) made ≡ seen_shaped h all
    fields_named now all rest made g e = sym (append-nil (map (unnamed h) made)) ∙ (ap (λ fs. map (unnamed h) made ++ seen_shaped h fs) (sym e) ∙ g.fields)
