-- What the definition of a stobj ends with.
use Rattle.std.specs.Prelude.{◌≡◌, ℕ, ◌≤◌, ◌<◌, List, [], ◌∷◌, ◌++◌, length, Bool, true, false, Option, Some, None, unwrap_or, refl}
use Rattle.std.specs.Option.{option_or}
use Rattle.std.proofs.Common.{sym, ap, ◌∙◌, subst}
use Rattle.std.proofs.lemmas.List.{append-nil}
use Rattle.model_objects.specs.Object.{Object, Integer, Symbol, Text, Pair}
use Rattle.model_objects.specs.Named.{Knows}
use Rattle.model_symbols.specs.Symbols.{QualifiedName, Table}
use Rattle.model_terms.specs.Worlds as worlds
use Rattle.model_expansion.specs.Words.{defstobj_word}
use Rattle.model_expansion.specs.Forms.{symbol, symbol_or_nil}
use Rattle.model_expansion.specs.Faults as faults
use Rattle.model_expansion.specs.Faults.{Refusal}
use Rattle.model_expansion.specs.Expansion.{Progress}
use Rattle.model_stobjs.specs.Answers as answer
use Rattle.model_stobjs.specs.Descriptors as written
use Rattle.model_stobjs.specs.Descriptors.{MadeNames, written_stobj, shaped_fields, stobj_makings, names_made, descriptor_with, names_then, named_descriptor, descriptor_read}
use Rattle.acl_base.specs.declared.SymId.{SymId}
use Rattle.acl_heap.specs.Objects.{Objects, object_of}
use Rattle.acl_terms.specs.Definitions.{seen_descriptor}
use Rattle.acl_terms.specs.Signatures.{seen_name}
use Rattle.acl_terms.specs.declared.stobj.Descriptor.{Descriptor}
use Rattle.acl_stobj_read.specs.Written.{seen_renaming, seen_stobj}
use Rattle.acl_stobj_written.specs.declared.fault.StobjFault.{StobjFault}
use Rattle.acl_stobj_written.specs.declared.fault.StobjFault.TheVariants as fault
use Rattle.acl_stobj_written.specs.declared.reading.ReadStobj.{ReadStobj}
use Rattle.acl_stobj_written.specs.declared.shaped.ShapedField.{ShapedField}
use Rattle.acl_stobj_written.specs.Fields.{seen_shaped, shapes_reach}
use Rattle.acl_stobj_written.specs.Refusals.{Told, RefusedBy, written_refusal}
use Rattle.acl_stobj.specs.Renames.{AreOld}
use Rattle.acl_stobj.specs.Fields.{AreNamed}
use Rattle.acl_stobj.specs.Making.{AreMade, IsFull, IsPart}
use Rattle.acl_stobj.specs.Described.{descriptor_of_parts, Describes}
use Rattle.acl_stobj.specs.Knowing.{NamesKnown}
use Rattle.acl_stobj.specs.Outcomes.{Grants, Refuses, PartMade, OnlyNames, named_refusal}
use Rattle.acl_stobj.specs.Accepted.{Accepts}
use Rattle.acl_stobj.proofs.MakingLemmas.{nothing_made, part_made}
use Rattle.acl_stobj.proofs.KnowingLemmas.{names_known}
use Rattle.acl_stobj.proofs.KnowingLemmas as knowing

pub told_as : (h : Objects) (P Q : Refusal → Type 0) (f : StobjFault) → ((r : Refusal) → P r → Q r) → Told h P f → Told h Q f
told_as h P Q fault.BadShape go t = go _ t
told_as h P Q (fault.BadName x) go t = go _ t
told_as h P Q (fault.BadType s) go t = go _ t
told_as h P Q (fault.BadInitial s) go t = go _ t
told_as h P Q fault.SymbolLimit go t = go _ t
told_as h P Q (fault.NameInUse s) go t = go _ t
told_as h P Q (fault.CongruenceMismatch i) go t = go _ t
told_as h P Q fault.Memory go t = tt

some_none : {A : Type 0} {x : A} → Some x ≡ None → ⊥
some_none e = cc

unless_none : {A : Type 0} (x : Option Refusal) (go : Progress → answer.EventResult A) (p : Progress) → x ≡ None → answer.unless x go p ≡ go p
unless_none None go p e = refl
unless_none (Some r) go p e = absurd (some_none e)

unless_some : {A : Type 0} (x : Option Refusal) (go : Progress → answer.EventResult A) (p : Progress) (r : Refusal) → x ≡ Some r → answer.unless x go p ≡ answer.Refuses r p
unless_some None go p r e = absurd (some_none (sym e))
unless_some (Some s) go p r e = let q : s ≡ r = cc in rw q refl

made_full : (w : worlds.World) (o : written.WrittenStobj) (fs : List written.ShapedField) (ns : List ℕ) (last new : List QualifiedName) (b : Bool) (p : Progress) → b ≡ false → last ≡ new
    → written.descriptor_made w o fs (record { numbers = ns; symbols = last; have_room = b }) p ≡ answer.Refuses faults.SymbolLimit (record p { symbols = new })
made_full w o fs ns last new b p e f = rw (e, f) refl

module _ (w : worlds.World) (t : Table) (form : Object ℕ) where
  -- ---- before names are made

  needing_by : (o : Option written.WrittenStobj) (r : Refusal) (p : Progress) → written_refusal w t.symbols o ≡ Some r
      → answer.needing o (faults.Expand (faults.BadShape defstobj_word)) (written.written_then w t.packages) (record p { symbols = t.symbols }) ≡ answer.Refuses r (record p { symbols = t.symbols })
  needing_by None r p e = let q : faults.Expand (faults.BadShape defstobj_word) ≡ r = cc in rw q refl
  needing_by (Some o) r p e = unless_some (written_refusal w t.symbols (Some o)) (names_then w t.packages o (shaped_fields w o.fields)) (record p { symbols = t.symbols }) r e

  before : (r : Refusal) → written_refusal w t.symbols (written_stobj w t.symbols form) ≡ Some r → Refuses w t form t.symbols r
  unfolding descriptor_read
  before r e = record { is = λ p. needing_by (written_stobj w t.symbols form) r p e }

  pub refused_before : (h : Objects) (f : StobjFault) → RefusedBy h (written_refusal w t.symbols (written_stobj w t.symbols form)) f → Told h (Refuses w t form t.symbols) f
  refused_before h f told = told_as h (λ r. written_refusal w t.symbols (written_stobj w t.symbols form) ≡ Some r) (Refuses w t form t.symbols) f before told

  pub none_made_yet : OnlyNames w t form t.symbols
  unfolding OnlyNames
  none_made_yet = by (written_stobj w t.symbols form)
    where
      by : (o : Option written.WrittenStobj) → PartMade w t o t.symbols
      by None = refl
      by (Some o) = nothing_made t.packages o.renaming (stobj_makings t.symbols (symbol_or_nil o.name) (shaped_fields w o.fields)) t.symbols

  -- ---- a stobj that was read

  module _ (h : Objects) (r : ReadStobj) (a : Accepts w t.symbols h form r) where
    abbrev seen : written.WrittenStobj
    seen = seen_stobj h r.written

    abbrev ren : List (ℕ × ℕ)
    ren = seen_renaming r.written.renaming

    abbrev shaped : List written.ShapedField
    shaped = seen_shaped h r.fields

    accepted : written_refusal w t.symbols (Some seen) ≡ None
    accepted = subst (λ o. written_refusal w t.symbols o ≡ None) a.read.0 a.accepted

    pub has_name : symbol (object_of h r.written.name) ≡ None → ⊥
    has_name e = by (object_of h r.written.name) e accepted
      where
        by : (o : Object ℕ) → symbol o ≡ None → written_refusal w t.symbols (Some (record { name = o; fields = seen.fields; renaming = ren; congruent_to = seen.congruent_to })) ≡ None → ⊥
        by (Integer i) e f = some_none f
        by (Symbol s) e f = some_none e
        by (Text bytes) e f = some_none f
        by (Pair c d) e f = some_none f

    known : (n : ℕ) → Knows n form → NamesKnown n seen
    known n k = names_known n w t.symbols form seen k a.read.0

    pub name_known : (n s : ℕ) → Knows n form → symbol (object_of h r.written.name) ≡ Some s → s < n
    name_known n s k e = by (object_of h r.written.name) e (known n k).name
      where
        by : (o : Object ℕ) → symbol o ≡ Some s → Knows n o → s < n
        by (Integer i) e k = cc
        by (Symbol x) e k = let q : x ≡ s = cc in subst (λ m. m < n) q k
        by (Text bytes) e k = cc
        by (Pair c d) e k = cc

    pub renaming_old : (n : ℕ) (ps : List (SymId × SymId)) → Knows n form → ps ≡ r.written.renaming → AreOld n (seen_renaming ps)
    renaming_old n ps k e = rw e (known n k).renaming

    pub fields_named : (n : ℕ) (fs : List ShapedField) → Knows n form → fs ≡ r.fields → AreNamed n fs
    fields_named n fs k e = rw e (knowing.fields_named n w t.symbols h seen.fields r.fields (known n k).fields a.read.1)

    pub shapes_lie : (fs : List ShapedField) → fs ≡ r.fields → shapes_reach fs ≤ length h
    shapes_lie fs e = rw e a.read.3

    -- the names are made, and what comes then
    accepted_then : (o : Option written.WrittenStobj) (fs : List written.ShapedField) (p : Progress) → o ≡ Some seen → shaped_fields w seen.fields ≡ fs
        → answer.needing o (faults.Expand (faults.BadShape defstobj_word)) (written.written_then w t.packages) (record p { symbols = t.symbols }) ≡ names_then w t.packages seen fs (record p { symbols = t.symbols })
    accepted_then o fs p e f =
        ap (λ x. answer.needing x (faults.Expand (faults.BadShape defstobj_word)) (written.written_then w t.packages) (record p { symbols = t.symbols })) e
        ∙ (unless_none (written_refusal w t.symbols (Some seen)) (names_then w t.packages seen (shaped_fields w seen.fields)) (record p { symbols = t.symbols }) accepted
        ∙ ap (λ gs. names_then w t.packages seen gs (record p { symbols = t.symbols })) f)

    stage : (p : Progress) → descriptor_read w t.packages form (record p { symbols = t.symbols }) ≡ names_then w t.packages seen shaped (record p { symbols = t.symbols })
    unfolding descriptor_read
    stage p = accepted_then (written_stobj w t.symbols form) shaped p a.read.0 a.read.1

    module _ (name : ℕ) (is : symbol (object_of h r.written.name) ≡ Some name) where
      abbrev names : MadeNames
      names = names_made t.packages ren (stobj_makings t.symbols name shaped) t.symbols

      or_nil : symbol_or_nil seen.name ≡ name
      or_nil = ap (λ o. unwrap_or o 1) is

      made_stage : (p : Progress) → descriptor_read w t.packages form (record p { symbols = t.symbols }) ≡ written.descriptor_made w seen shaped names (record p { symbols = t.symbols })
      made_stage p = stage p ∙ ap (λ s. written.descriptor_made w seen shaped (names_made t.packages ren (stobj_makings t.symbols s shaped) t.symbols) (record p { symbols = t.symbols })) or_nil

      full_here : (last : List QualifiedName) (rs : List (SymId × SymId)) (fs : List ShapedField) → rs ≡ r.written.renaming → fs ≡ r.fields → IsFull t.packages (seen_renaming rs) (stobj_makings t.symbols name (seen_shaped h fs)) t.symbols last
          → IsFull t.packages ren (stobj_makings t.symbols name shaped) t.symbols last
      full_here last rs fs e i g =
          subst (λ x. IsFull t.packages ren (stobj_makings t.symbols name (seen_shaped h x)) t.symbols last) i
          (subst (λ x. IsFull t.packages (seen_renaming x) (stobj_makings t.symbols name (seen_shaped h fs)) t.symbols last) e g)

      pub full : (new : List QualifiedName) (rs : List (SymId × SymId)) (fs : List ShapedField) → rs ≡ r.written.renaming → fs ≡ r.fields → IsFull t.packages (seen_renaming rs) (stobj_makings t.symbols name (seen_shaped h fs)) t.symbols new
          → Refuses w t form new faults.SymbolLimit
      full new rs fs e i g =
          let f : IsFull t.packages ren (stobj_makings t.symbols name shaped) t.symbols new = full_here new rs fs e i g in
          record { is = λ p. made_stage p ∙ made_full w seen shaped names.numbers names.symbols new names.have_room (record p { symbols = t.symbols }) f.room f.symbols }

      part_of : (last : List QualifiedName) → IsPart t.packages ren (stobj_makings t.symbols name shaped) t.symbols last → PartMade w t (written_stobj w t.symbols form) last
      part_of last g =
          subst (λ o. PartMade w t o last) (sym a.read.0)
          (subst (λ fs. IsPart t.packages ren (stobj_makings t.symbols (symbol_or_nil seen.name) fs) t.symbols last) (sym a.read.1)
          (subst (λ s. IsPart t.packages ren (stobj_makings t.symbols s shaped) t.symbols last) (sym or_nil) g))

      module _ (new : Table) (d : Descriptor) (rs : List (SymId × SymId)) (fs : List ShapedField) (same : rs ≡ r.written.renaming) (alike : fs ≡ r.fields) (des : Describes t new h (seen_renaming rs) name (seen_shaped h fs) (seen_name r.written.congruent_to) d) where
        made : AreMade t.packages ren (stobj_makings t.symbols name shaped) t.symbols des.numbers new.symbols
        made =
            subst (λ x. AreMade t.packages ren (stobj_makings t.symbols name (seen_shaped h x)) t.symbols des.numbers new.symbols) alike
            (subst (λ x. AreMade t.packages (seen_renaming x) (stobj_makings t.symbols name (seen_shaped h fs)) t.symbols des.numbers new.symbols) same des.made)

        with_names : descriptor_with seen shaped des.numbers ≡ seen_descriptor h d
        with_names =
            ap (λ s. descriptor_of_parts s shaped (seen_name r.written.congruent_to) des.numbers) or_nil
            ∙ (ap (λ x. descriptor_of_parts name (seen_shaped h x) (seen_name r.written.congruent_to) des.numbers) (sym alike) ∙ sym des.is)

        named_stage : (p : Progress) → descriptor_read w t.packages form (record p { symbols = t.symbols }) ≡ named_descriptor w (seen_descriptor h d) (record p { symbols = new.symbols })
        named_stage p =
            made_stage p
            ∙ (ap (λ m. written.descriptor_made w seen shaped m (record p { symbols = t.symbols })) made.is
            ∙ ap (λ x. named_descriptor w x (record p { symbols = new.symbols })) with_names)

        pub granted : named_refusal w (seen_descriptor h d) ≡ None → Grants w t form new.symbols (seen_descriptor h d)
        granted e = record { is = λ p. named_stage p ∙ unless_none (named_refusal w (seen_descriptor h d)) (λ q. answer.Grants (seen_descriptor h d) q) (record p { symbols = new.symbols }) e }

        refused_by : (x : Refusal) → named_refusal w (seen_descriptor h d) ≡ Some x → Refuses w t form new.symbols x
        refused_by x e = record { is = λ p. named_stage p ∙ unless_some (named_refusal w (seen_descriptor h d)) (λ q. answer.Grants (seen_descriptor h d) q) (record p { symbols = new.symbols }) x e }

        pub refused_named : (f : StobjFault) → RefusedBy h (named_refusal w (seen_descriptor h d)) f → Told h (Refuses w t form new.symbols) f
        refused_named f told = told_as h (λ x. named_refusal w (seen_descriptor h d) ≡ Some x) (Refuses w t form new.symbols) f refused_by told

        pub part_described : OnlyNames w t form new.symbols
        unfolding OnlyNames
        part_described = part_of new.symbols (part_made t.packages ren (stobj_makings t.symbols name shaped) t.symbols new.symbols des.numbers made)

      pub part_memory : (last : List QualifiedName) (rs : List (SymId × SymId)) (fs : List ShapedField) → rs ≡ r.written.renaming → fs ≡ r.fields → IsPart t.packages (seen_renaming rs) (stobj_makings t.symbols name (seen_shaped h fs)) t.symbols last
          → OnlyNames w t form last
      unfolding OnlyNames
      part_memory last rs fs e i g =
          part_of last
          (subst (λ x. IsPart t.packages ren (stobj_makings t.symbols name (seen_shaped h x)) t.symbols last) i
          (subst (λ x. IsPart t.packages (seen_renaming x) (stobj_makings t.symbols name (seen_shaped h fs)) t.symbols last) e g))

      pub part_full : (last : List QualifiedName) (rs : List (SymId × SymId)) (fs : List ShapedField) → rs ≡ r.written.renaming → fs ≡ r.fields → IsFull t.packages (seen_renaming rs) (stobj_makings t.symbols name (seen_shaped h fs)) t.symbols last
          → OnlyNames w t form last
      unfolding OnlyNames
      part_full last rs fs e i g =
          let f : IsFull t.packages ren (stobj_makings t.symbols name shaped) t.symbols last = full_here last rs fs e i g in
          part_of last (record { first = stobj_makings t.symbols name shaped; rest = []; whole = append-nil (stobj_makings t.symbols name shaped); symbols = f.symbols })
