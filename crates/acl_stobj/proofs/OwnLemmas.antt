-- A stobj's own names, and then those of its fields.
use Rattle.std.specs.Prelude.{◌≡◌, ℕ, zero, suc, ◌+◌, ◌<◌, ◌≤◌, List, [], ◌∷◌, ◌++◌, length, map, take, drop, Option, codes, refl}
use Rattle.std.specs.List.{flat_map}
use Rattle.std.proofs.Common.{sym, ap, ◌∙◌, subst, arith}
use Rattle.std.proofs.lemmas.List.{append-nil}
use Rattle.model_symbols.specs.Symbols.{QualifiedName, Table}
use Rattle.model_symbols.specs.Growth.{Extends}
use Rattle.model_terms.specs.Worlds as worlds
use Rattle.model_expansion.specs.Forms.{symbol_name}
use Rattle.model_stobjs.specs.Descriptors as written
use Rattle.model_stobjs.specs.Descriptors.{Making, made_count, field_makings, stobj_makings, fields_with, field_texts}
use Rattle.acl_base.specs.declared.SymId.{SymId}
use Rattle.acl_heap.specs.Objects.{Objects}
use Rattle.acl_forms.specs.Growth.{symbol_later}
use Rattle.acl_terms.specs.Forms.{numbers}
use Rattle.acl_terms.specs.Definitions.{seen_shape, seen_field, seen_descriptor}
use Rattle.acl_terms.specs.Signatures.{seen_name}
use Rattle.acl_terms.specs.declared.stobj.FieldDescriptor.{FieldDescriptor}
use Rattle.acl_terms.specs.declared.stobj.Descriptor.{Descriptor}
use Rattle.acl_stobj_written.specs.declared.shaped.ShapedField.{ShapedField}
use Rattle.acl_stobj_written.specs.Fields.{seen_shaped}
use Rattle.acl_stobj.specs.declared.making.Unmade.{Unmade}
use Rattle.acl_stobj.specs.declared.texts.Purpose.TheVariants as purpose
use Rattle.acl_stobj.specs.Texts.{makings_of, own_makings}
use Rattle.acl_stobj.specs.Making.{AreMade, IsPart, UnmadeBy}
use Rattle.acl_stobj.specs.MadeFields.{unnamed, names_in, AreCounted}
use Rattle.acl_stobj.specs.Fields.{AreNamed}
use Rattle.acl_stobj.specs.Described.{descriptor_of_parts, Describes}
use Rattle.acl_stobj.proofs.MakingLemmas.{made_then, unmade_then, unmade_first, nothing_made}
use Rattle.acl_stobj.proofs.LoopLemmas.{same_makings}

-- ---- the stobj's own names

module _ (ren : List (ℕ × ℕ)) (old mid : Table) (s : ℕ) (grown : Extends old mid) (l : s < length old.symbols) (same : mid.packages ≡ old.packages) where
  abbrev recognizers : List Making
  recognizers = makings_of old.symbols s (purpose.Recognizer ∷ [])

  abbrev creators : List Making
  creators = makings_of old.symbols s (purpose.Creator ∷ [])

  pub own_made : (new : Table) (r c : ℕ) → AreMade old.packages ren recognizers old.symbols (r ∷ []) mid.symbols → AreMade mid.packages ren (makings_of mid.symbols s (purpose.Creator ∷ [])) mid.symbols (c ∷ []) new.symbols
      → AreMade old.packages ren (own_makings old.symbols s) old.symbols (r ∷ (c ∷ [])) new.symbols
  own_made new r c m n =
      made_then old.packages ren recognizers creators old.symbols mid.symbols new.symbols (r ∷ []) (c ∷ []) m
      (subst (λ ms. AreMade old.packages ren ms mid.symbols (c ∷ []) new.symbols) (same_makings old mid s (purpose.Creator ∷ []) grown l)
      (subst (λ ps. AreMade ps ren (makings_of mid.symbols s (purpose.Creator ∷ [])) mid.symbols (c ∷ []) new.symbols) same n))

  pub own_second : (new : Table) (r : ℕ) (u : Unmade) → AreMade old.packages ren recognizers old.symbols (r ∷ []) mid.symbols → UnmadeBy mid.packages ren (makings_of mid.symbols s (purpose.Creator ∷ [])) mid.symbols new.symbols u
      → UnmadeBy old.packages ren (own_makings old.symbols s) old.symbols new.symbols u
  own_second new r u m f =
      unmade_then old.packages ren recognizers creators old.symbols mid.symbols new.symbols (r ∷ []) u m
      (subst (λ ms. UnmadeBy old.packages ren ms mid.symbols new.symbols u) (same_makings old mid s (purpose.Creator ∷ []) grown l)
      (subst (λ ps. UnmadeBy ps ren (makings_of mid.symbols s (purpose.Creator ∷ [])) mid.symbols new.symbols u) same f))

pub own_first : (ren : List (ℕ × ℕ)) (old new : Table) (s : ℕ) (u : Unmade) → UnmadeBy old.packages ren (makings_of old.symbols s (purpose.Recognizer ∷ [])) old.symbols new.symbols u
    → UnmadeBy old.packages ren (own_makings old.symbols s) old.symbols new.symbols u
own_first ren old new s u f = unmade_first old.packages ren (makings_of old.symbols s (purpose.Recognizer ∷ [])) (makings_of old.symbols s (purpose.Creator ∷ [])) old.symbols new.symbols u f

-- ---- and then those of the fields

own_are : (sy : List QualifiedName) (s : ℕ) (fs : List written.ShapedField) → own_makings sy s ++ field_makings sy fs ≡ stobj_makings sy s fs
own_are sy s fs = by (symbol_name sy s)
  where
    by : (f : List ℕ) → (s, f ++ codes "P") ∷ (s, codes "CREATE-" ++ (f ++ [])) ∷ field_makings sy fs ≡ (s, f ++ codes "P") ∷ (s, codes "CREATE-" ++ f) ∷ field_makings sy fs
    by f = rw (append-nil f) refl

fields_later : (old mid : Table) (h : Objects) (fs : List ShapedField) → Extends old mid → AreNamed (length old.symbols) fs → field_makings mid.symbols (seen_shaped h fs) ≡ field_makings old.symbols (seen_shaped h fs)
fields_later old mid h [] g n = refl
fields_later old mid h (f ∷ fs) g n =
    let rest : field_makings mid.symbols (seen_shaped h fs) ≡ field_makings old.symbols (seen_shaped h fs) = fields_later old mid h fs g n.1 in
    ap (λ ms. map (λ text. (f.written.name.0, text)) (field_texts (symbol_name mid.symbols f.written.name.0) (seen_shape h f.shape)) ++ ms) rest
    ∙ ap (λ (q : QualifiedName). map (λ text. (f.written.name.0, text)) (field_texts q.name (seen_shape h f.shape)) ++ field_makings old.symbols (seen_shaped h fs)) (symbol_later g f.written.name.0 n.0)

pub still_named : (m n : ℕ) (fs : List ShapedField) → m ≤ n → AreNamed m fs → AreNamed n fs
still_named m n [] l a = tt
still_named m n (f ∷ fs) l a = let q : f.written.name.0 < n = omega (arith, l, a.0) in (q, still_named m n fs l a.1)

-- ---- fields have the names that were made for them

taken : (xs ys : List ℕ) → take (length xs) (xs ++ ys) ≡ xs
taken [] ys = refl
taken (x ∷ xs) ys = ap (λ zs. x ∷ zs) (taken xs ys)

dropped : (xs ys : List ℕ) → drop (length xs) (xs ++ ys) ≡ ys
dropped [] ys = refl
dropped (x ∷ xs) ys = dropped xs ys

with_names : (h : Objects) (ds : List FieldDescriptor) → AreCounted h ds → fields_with (map (unnamed h) ds) (names_in ds) ≡ map (seen_field h) ds
with_names h [] c = refl
with_names h (d ∷ ds) c =
    let rest : fields_with (map (unnamed h) ds) (names_in ds) ≡ map (seen_field h) ds = with_names h ds c.1 in
    let first : take (made_count (seen_shape h d.shape)) (numbers d.made ++ names_in ds) ≡ numbers d.made = subst (λ n. take n (numbers d.made ++ names_in ds) ≡ numbers d.made) c.0 (taken (numbers d.made) (names_in ds)) in
    let others : drop (made_count (seen_shape h d.shape)) (numbers d.made ++ names_in ds) ≡ names_in ds = subst (λ n. drop n (numbers d.made ++ names_in ds) ≡ names_in ds) c.0 (dropped (numbers d.made) (names_in ds)) in
    rw (first, others, rest) refl

module _ (ren : List (ℕ × ℕ)) (old : Table) (h : Objects) (s : ℕ) (fs : List ShapedField) where
  pub none_yet : IsPart old.packages ren (stobj_makings old.symbols s (seen_shaped h fs)) old.symbols old.symbols
  none_yet = nothing_made old.packages ren (stobj_makings old.symbols s (seen_shaped h fs)) old.symbols

  pub all_first : (new : Table) (u : Unmade) → UnmadeBy old.packages ren (own_makings old.symbols s) old.symbols new.symbols u → UnmadeBy old.packages ren (stobj_makings old.symbols s (seen_shaped h fs)) old.symbols new.symbols u
  all_first new u f =
      subst (λ ms. UnmadeBy old.packages ren ms old.symbols new.symbols u) (own_are old.symbols s (seen_shaped h fs))
      (unmade_first old.packages ren (own_makings old.symbols s) (field_makings old.symbols (seen_shaped h fs)) old.symbols new.symbols u f)

  module _ (mid new : Table) (r c : SymId) (grown : Extends old mid) (same : mid.packages ≡ old.packages) (named : AreNamed (length old.symbols) fs) (own : AreMade old.packages ren (own_makings old.symbols s) old.symbols (r.0 ∷ (c.0 ∷ [])) mid.symbols) where
    pub all_second : (u : Unmade) → UnmadeBy mid.packages ren (field_makings mid.symbols (seen_shaped h fs)) mid.symbols new.symbols u → UnmadeBy old.packages ren (stobj_makings old.symbols s (seen_shaped h fs)) old.symbols new.symbols u
    all_second u f =
        subst (λ ms. UnmadeBy old.packages ren ms old.symbols new.symbols u) (own_are old.symbols s (seen_shaped h fs))
        (unmade_then old.packages ren (own_makings old.symbols s) (field_makings old.symbols (seen_shaped h fs)) old.symbols mid.symbols new.symbols (r.0 ∷ (c.0 ∷ [])) u own
        (subst (λ ms. UnmadeBy old.packages ren ms mid.symbols new.symbols u) (fields_later old mid h fs grown named)
        (subst (λ ps. UnmadeBy ps ren (field_makings mid.symbols (seen_shaped h fs)) mid.symbols new.symbols u) same f)))

    all_named : (ds : List FieldDescriptor) → AreMade mid.packages ren (field_makings mid.symbols (seen_shaped h fs)) mid.symbols (names_in ds) new.symbols
        → AreMade old.packages ren (stobj_makings old.symbols s (seen_shaped h fs)) old.symbols (r.0 ∷ (c.0 ∷ names_in ds)) new.symbols
    all_named ds m =
        subst (λ ms. AreMade old.packages ren ms old.symbols (r.0 ∷ (c.0 ∷ names_in ds)) new.symbols) (own_are old.symbols s (seen_shaped h fs))
        (made_then old.packages ren (own_makings old.symbols s) (field_makings old.symbols (seen_shaped h fs)) old.symbols mid.symbols new.symbols (r.0 ∷ (c.0 ∷ [])) (names_in ds) own
        (subst (λ ms. AreMade old.packages ren ms mid.symbols (names_in ds) new.symbols) (fields_later old mid h fs grown named)
        (subst (λ ps. AreMade ps ren (field_makings mid.symbols (seen_shaped h fs)) mid.symbols (names_in ds) new.symbols) same m)))

    pub all_made_of : (d : Descriptor) (name : SymId) (congruent_to : Option SymId) (ds : List FieldDescriptor) → AreMade mid.packages ren (field_makings mid.symbols (seen_shaped h fs)) mid.symbols (names_in ds) new.symbols
        → map (unnamed h) ds ≡ seen_shaped h fs → AreCounted h ds → s ≡ name.0
        → d ≡ record { name = name; recognizer = r; creator = c; fields = ds; congruent_to = congruent_to } → Describes old new h ren s (seen_shaped h fs) (seen_name congruent_to) d
    all_made_of d name congruent_to ds m e k q i = record {
      numbers = r.0 ∷ (c.0 ∷ names_in ds);
      made = all_named ds m;
      is = rw (i, q, sym e, with_names h ds k) refl;
    }
