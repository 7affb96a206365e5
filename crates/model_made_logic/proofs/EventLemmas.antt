-- An event keeps a table of symbols, and what it grants has known symbols.
use Rattle.std.proofs.Common.{◌≡◌, ℕ, zero, suc, ◌<◌, ◌≤◌, List, [], ◌∷◌, ◌++◌, length, map, Bool, true, false, Option, Some, None, refl, ◌∙◌, arith}
use Rattle.std.specs.Prelude.{is_some, slice_get, option_map, option_and_then, if◌then◌else◌}
use Rattle.model_objects.specs.Object.{Object, Text}
use Rattle.model_objects.specs.Named.{Knows}
use Rattle.model_symbols.specs.Symbols.{QualifiedName, Package, symbol_at, package_number, import_clash}
use Rattle.model_symbols.specs.Growth.{IsSymbol}
use Rattle.model_symbols.specs.Tables.{IsTable}
use Rattle.model_symbols.proofs.NameLemmas.{symbol-at}
use Rattle.model_symbols.proofs.TableLemmas.{IsTable-package}
use Rattle.model_prims.specs.Kinds.{by_number}
use Rattle.model_terms.specs.Cores.{Core}
use Rattle.model_terms.specs.Worlds as worlds
use Rattle.model_terms.specs.Worlds.{World, Definition, Signature, Named, Macro, Constant, Defined, AbstractDescriptor}
use Rattle.model_terms.specs.Faults.{constant_fault}
use Rattle.model_eval.specs.Outcomes.{Outcome, Gives, Stops, Unknown, here}
use Rattle.model_eval.specs.Variables.{single}
use Rattle.model_eval.specs.Checked.{checked, begun}
use Rattle.model_expansion.specs.Words.{in_package_word}
use Rattle.model_expansion.specs.Forms.{elements, each_of, symbol, symbol_or_nil}
use Rattle.model_expansion.specs.Faults.{Refusal, BadShape, Expand, Thread, UnknownPackage, PackageExists}
use Rattle.model_expansion.specs.Expansion.{Setting, Progress, evaluated_to, Expanded, Makes, Fails, then_make, expanded, expanded_guard}
use Rattle.model_expansion_forms.specs.Rows.{HasRowFunctions, AreShapedItems, AreKnownItems}
use Rattle.model_stobjs.specs.Answers.{EventResult, Grants, Refuses, Halts, then_grant, unless, needing, expanding}
use Rattle.model_stobjs.specs.Descriptors as objects
use Rattle.model_stobjs.specs.Descriptors.{WrittenStobj, written_stobj, MadeNames, names_made, ShapedField, shaped_fields, stobj_makings, room_for, descriptor_made, named_descriptor, names_then, written_then, descriptor_read}
use Rattle.model_stobjs.specs.Abstracts as abstracts
use Rattle.model_stobjs.specs.Abstracts.{WrittenAbstract, written_abstract, slots, makings, filled, function_refusal, made_then, abstract_then, abstract_read, abstract_entries}
use Rattle.model_events.specs.Constants.{valued, constant_evaluated, constant_value, name_and_form, constant_then, constant_read, text_and_form, clash_refusal, exists_already, package_of, importing, package_then, package_read, current_read, only_text, current_then, visible_package}
use Rattle.model_events.specs.Macros.{written_macro, macro_formals, body_then, macro_then, macro_read}
use Rattle.model_events.specs.Functions as functions
use Rattle.model_events.specs.Functions.{Draft, drafts_of, Candidate, candidate_expanded, all_expanded, with_names, signatures, signed, defined, members, ruled, candidates_then, drafts_then, functions_then, written_functions, functions_read}
use Rattle.model_made.specs.Lawful.{IsLawfulWorld}
use Rattle.model_made.proofs.WorldLemmas.{EachDefinition}
use Rattle.model_made.proofs.GrowthLemmas.{functions_still}
use Rattle.model_made.proofs.DraftLemmas.{none_or, named_draft, AreSound, written_drafts}
use Rattle.model_follows.specs.Follows.{table_of}
use Rattle.model_follows.proofs.ThingLemmas.{knows_more}
use Rattle.model_made_logic.specs.Known.{KnowsForm, KnowsFields, KnowsDefinition, KnowsDefinitions, Grows, EndsKnown}
use Rattle.model_made_logic.proofs.KnownLemmas.{grows_same, grows_then, single_known, object_known}
use Rattle.model_made_logic.proofs.EvaluationLemmas.{ends_evaluated}
use Rattle.model_made_logic.proofs.WorldLemmas.{definitions_world, definitions_with, definitions_more, defaults_more, fields_more, form_more}
use Rattle.model_made_logic.proofs.ExpansionLemmas.{size, Expands, expands_then, form_expands, guard_expands, items_more}
use Rattle.model_made_logic.proofs.ParseLemmas.{IfAny, EachOne, each_both, FormKnown, constant_form, package_form, symbols_known, FunctionKnown, functions_known, drafts_known, MacroKnown, macro_known, macro_defaults}
use Rattle.model_made_logic.proofs.ObjectLemmas.{names_grow, ObjectWritten, object_written, FieldShaped, fields_shaped, fields_known, object_from, AbstractWritten, abstract_written, abstract_from}

-- ---- steps

module _ (packages : List Package) where
  -- an event goes on from these symbols, and what it grants has the property, given the symbols that are known then
  abbrev pub Leaves : {A : Type 0} → (List QualifiedName → A → Type 0) → List QualifiedName → EventResult A → Type 0
  Leaves Q old (Grants a p) = Grows packages old p.symbols × Q p.symbols a
  Leaves Q old (Refuses r p) = Grows packages old p.symbols
  Leaves Q old (Halts stop inside p) = Grows packages old p.symbols

  pub leaves_later : {A : Type 0} (Q : List QualifiedName → A → Type 0) (a b : List QualifiedName) (r : EventResult A) → Grows packages a b → Leaves Q b r → Leaves Q a r
  leaves_later Q a b (Grants v p) g h = (grows_then packages a b p.symbols g h.0, h.1)
  leaves_later Q a b (Refuses r p) g h = grows_then packages a b p.symbols g h
  leaves_later Q a b (Halts stop inside p) g h = grows_then packages a b p.symbols g h

  pub leaves_then : {A B : Type 0} (Q : List QualifiedName → A → Type 0) (R : List QualifiedName → B → Type 0) (a : List QualifiedName) (r : EventResult A) (go : A → Progress → EventResult B) → Leaves Q a r
      → ((v : A) (p : Progress) → length a ≤ size p → Q p.symbols v → Leaves R p.symbols (go v p)) → Leaves R a (then_grant r go)
  leaves_then Q R a (Grants v p) go h k = leaves_later R a p.symbols (go v p) h.0 (k v p h.0.longer h.1)
  leaves_then Q R a (Refuses r p) go h k = h
  leaves_then Q R a (Halts stop inside p) go h k = h

  pub leaves_unless : {A : Type 0} (Q : List QualifiedName → A → Type 0) (r : Option Refusal) (go : Progress → EventResult A) (p : Progress) → (r ≡ None → Leaves Q p.symbols (go p)) → Leaves Q p.symbols (unless r go p)
  leaves_unless Q None go p h = h refl
  leaves_unless Q (Some r) go p h = grows_same packages p.symbols

  pub leaves_needing : {A B : Type 0} (P : A → Type 0) (Q : List QualifiedName → B → Type 0) (v : Option A) (r : Refusal) (go : A → Progress → EventResult B) (p : Progress) → IfAny P v
      → ((a : A) → P a → Leaves Q p.symbols (go a p)) → Leaves Q p.symbols (needing v r go p)
  leaves_needing P Q None r go p h k = grows_same packages p.symbols
  leaves_needing P Q (Some a) r go p h k = k a h

  pub leaves_expanding : {A B : Type 0} (P : ℕ → A → Type 0) (Q : List QualifiedName → B → Type 0) (a : List QualifiedName) (e : Expanded A) (go : A → Progress → EventResult B) → Expands packages P a e
      → ((v : A) (p : Progress) → length a ≤ size p → P (size p) v → Leaves Q p.symbols (go v p)) → Leaves Q a (expanding e go)
  leaves_expanding P Q a (Makes v p) go h k = leaves_later Q a p.symbols (go v p) h.0 (k v p h.0.longer h.1)
  leaves_expanding P Q a (Fails fault p) go h k = h

  pub leaves_if : {A : Type 0} (Q : List QualifiedName → A → Type 0) (a : List QualifiedName) (b : Bool) (r s : EventResult A) → Leaves Q a r → Leaves Q a s → Leaves Q a (if b then r else s)
  leaves_if Q a true r s h k = h
  leaves_if Q a false r s h k = k

  leaves_valued : {A : Type 0} (Q : List QualifiedName → A → Type 0) (p : Progress) (e : Outcome ℕ) (go : Object ℕ → Progress → EventResult A) → 2 ≤ size p → EndsKnown packages p.symbols e
      → ((o : Object ℕ) (q : Progress) → size p ≤ size q → Knows (size q) o → Leaves Q q.symbols (go o q)) → Leaves Q p.symbols (valued e go p)
  leaves_valued Q p (Gives values s) go two h k =
      let longer : size p ≤ length s.symbols = h.0.longer in
      leaves_later Q p.symbols s.symbols (go _ (evaluated_to p (here s) s)) h.0
      (k _ (evaluated_to p (here s) s) longer (object_known (length s.symbols) (omega (arith, two, longer)) (single by_number values) (single_known (length s.symbols) (omega (arith, two, longer)) values h.1)))
  leaves_valued Q p (Stops stop origin s) go two h k = h.0
  leaves_valued Q p Unknown go two h k = grows_same packages p.symbols

-- ---- what events grant

abbrev pub NewKnown : List QualifiedName → World → Type 0
NewKnown symbols new = EachDefinition (KnowsDefinition (length symbols)) new

abbrev pub DescriptorKnown : List QualifiedName → worlds.Descriptor → Type 0
DescriptorKnown symbols d = KnowsFields (length symbols) d.fields

abbrev pub Whatever : {A : Type 0} → List QualifiedName → A → Type 0
Whatever symbols a = Unit {0}

-- a package that may be added
pub record MayBeAdded (packages : List Package) (symbols : List QualifiedName) (q : Package) : Type 0 where
  pub fresh : package_number packages q.name ≡ None
  pub imports : (k : ℕ) (s : QualifiedName) → slice_get q.imports k ≡ Some s → (n : ℕ) × IsSymbol symbols n s
  pub no_clash : import_clash q.imports ≡ None

pub package_table : (packages : List Package) (symbols : List QualifiedName) (q : Package) → MayBeAdded packages symbols q → IsTable (table_of packages symbols) → IsTable (table_of (packages ++ q ∷ []) symbols)
package_table packages symbols q m is = IsTable-package (table_of packages symbols) is q m.fresh m.imports m.no_clash

imports_known : (symbols : List QualifiedName) (ns : List ℕ) → EachOne (λ (n : ℕ). n < length symbols) ns → (k : ℕ) (s : QualifiedName) → slice_get (map (symbol_at symbols) ns) k ≡ Some s → (n : ℕ) × IsSymbol symbols n s
imports_known symbols [] h k s e = cc
imports_known symbols (n ∷ ns) h zero s e = (n, symbol-at symbols n h.0 ∙ e)
imports_known symbols (n ∷ ns) h (suc k) s e = imports_known symbols ns h.1 k s e

-- ---- the current package, and stobjs

module _ (w : World) (packages : List Package) where
  pub current_leaves : (d : Object ℕ) (p : Progress) → Leaves packages Whatever p.symbols (current_read packages d p)
  unfolding current_read
  current_leaves d p = go (option_and_then only_text (elements d))
    where
      by_name : (name : List ℕ) (n : Option ℕ) → Leaves packages Whatever p.symbols (needing n (UnknownPackage (Text name)) Grants p)
      by_name name None = grows_same packages p.symbols
      by_name name (Some n) = (grows_same packages p.symbols, tt)

      go : (v : Option (List ℕ)) → Leaves packages Whatever p.symbols (needing v (Expand (BadShape in_package_word)) (current_then packages) p)
      go None = grows_same packages p.symbols
      go (Some name) = by_name name (visible_package packages name)

  made_leaves : (o : WrittenStobj) (fs : List ShapedField) (m : MadeNames) (p : Progress) → Grows packages p.symbols m.symbols
      → ((numbers : List ℕ) → KnowsFields (length m.symbols) (objects.fields_with fs numbers)) → Leaves packages DescriptorKnown p.symbols (descriptor_made w o fs m p)
  made_leaves o fs m p g k =
      let after : Progress = record p { symbols = m.symbols } in
      let d = objects.descriptor_with o fs m.numbers in
      leaves_later packages DescriptorKnown p.symbols m.symbols (descriptor_made w o fs m p) g
      (leaves_unless packages DescriptorKnown (room_for m) (named_descriptor w d) after (λ room. leaves_unless packages DescriptorKnown _ (Grants d) after (λ free. (grows_same packages m.symbols, k _))))

  pub descriptor_leaves : (d : Object ℕ) (p : Progress) → 2 ≤ size p → Knows (size p) d → Leaves packages DescriptorKnown p.symbols (descriptor_read w packages d p)
  unfolding descriptor_read
  descriptor_leaves d p two h =
      leaves_needing packages (ObjectWritten (size p) two) DescriptorKnown (written_stobj w p.symbols d) _ (written_then w packages) p (object_written (size p) two w p.symbols d h) (λ o k.
      leaves_unless packages DescriptorKnown _ (names_then w packages o (shaped_fields w o.fields)) p (λ good.
      let fs = shaped_fields w o.fields in
      let shaped : EachOne (FieldShaped (size p) two) fs = fields_shaped (size p) two w o.fields k.1 in
      let g = names_grow packages o.renaming (stobj_makings p.symbols (symbol_or_nil o.name) fs) p.symbols (object_from (size p) two p.symbols o.name fs k.0 shaped) in
      made_leaves o fs (names_made packages o.renaming (stobj_makings p.symbols (symbol_or_nil o.name) fs) p.symbols) p g (λ numbers. fields_more (size p) _ g.longer _ (fields_known (size p) two fs numbers shaped))))

  pub abstract_leaves : (d : Object ℕ) (p : Progress) → 2 ≤ size p → Knows (size p) d → Leaves packages Whatever p.symbols (abstract_read w packages d p)
  unfolding abstract_read
  abstract_leaves d p two h =
      leaves_needing packages (AbstractWritten (size p) two) Whatever (written_abstract p.symbols d) _ (abstract_then w packages) p (abstract_written (size p) two p.symbols d h) (λ a k.
      leaves_unless packages Whatever _ (λ after. made_then w a (names_made packages [] (makings (slots after.symbols a)) after.symbols) after) p (λ good.
      of_names a (names_made packages [] (makings (slots p.symbols a)) p.symbols) (names_grow packages [] (makings (slots p.symbols a)) p.symbols (abstract_from (size p) two p.symbols a k))))
    where
      of_names : (a : WrittenAbstract) (m : MadeNames) → Grows packages p.symbols m.symbols → Leaves packages Whatever p.symbols (made_then w a m p)
      of_names a m g =
          let after : Progress = record p { symbols = m.symbols } in
          let d = abstracts.descriptor_with w a (filled (slots p.symbols a) m.numbers) in
          leaves_later packages Whatever p.symbols m.symbols (made_then w a m p) g
          (leaves_unless packages Whatever (room_for m) (unless (function_refusal w d) (Grants d)) after (λ room. leaves_unless packages Whatever (function_refusal w d) (Grants d) after (λ free. (grows_same packages m.symbols, tt))))

-- ---- what is evaluated and expanded

module _ (x : Setting) (n : ℕ) (two : 2 ≤ n) (known : KnowsDefinitions x.world n) where
  evaluated_leaves : {A : Type 0} (Q : List QualifiedName → A → Type 0) (go : Object ℕ → Progress → EventResult A) (f : Core) (p : Progress) → n ≤ size p → KnowsForm (size p) f
      → ((o : Object ℕ) (q : Progress) → size p ≤ size q → Knows (size q) o → Leaves x.packages Q q.symbols (go o q)) → Leaves x.packages Q p.symbols (constant_evaluated x go f p)
  evaluated_leaves Q go f p l h k =
      leaves_unless x.packages Q (option_map Thread (constant_fault x.world f)) (λ after. valued (checked x.world x.packages x.steps x.depth f [] (begun after.symbols [] after.calls)) go after) p (λ good.
      leaves_valued x.packages Q p (checked x.world x.packages x.steps x.depth f [] (begun p.symbols [] p.calls)) go (omega (arith, two, l))
      (ends_evaluated x.world (size p) (omega (arith, two, l)) (definitions_world x.world (size p) (definitions_more n (size p) l x.world known)) x.packages x.steps x.depth f [] (begun p.symbols [] p.calls) h (omega arith) tt tt) k)

  module _ (rows : HasRowFunctions x.world) where
    value_leaves : {A : Type 0} (Q : List QualifiedName → A → Type 0) (form : Object ℕ) (go : Object ℕ → Progress → EventResult A) (p : Progress) → n ≤ size p → Knows (size p) form
        → ((o : Object ℕ) (q : Progress) → size p ≤ size q → Knows (size q) o → Leaves x.packages Q q.symbols (go o q)) → Leaves x.packages Q p.symbols (constant_value x form go p)
    value_leaves Q form go p l h k =
        leaves_expanding x.packages KnowsForm Q p.symbols (expanded x form p) (constant_evaluated x go) (form_expands x n two known rows form p l h) (λ f after longer good.
        evaluated_leaves Q go f after (omega (arith, l, longer)) good (λ o q further. k o q (omega (arith, longer, further))))

    pub constant_leaves : (d : Object ℕ) (p : Progress) → n ≤ size p → Knows (size p) d → Leaves x.packages NewKnown p.symbols (constant_read x d p)
    unfolding constant_read
    constant_leaves d p l h =
        leaves_needing x.packages (FormKnown (size p) (omega (arith, two, l))) NewKnown (option_and_then name_and_form (elements d)) _ (constant_then x) p (constant_form (size p) (omega (arith, two, l)) d h) (λ c k.
        leaves_unless x.packages NewKnown _ (constant_value x c.1 (λ value. Grants (Constant (symbol_or_nil c.0) value ∷ []))) p (λ free.
        value_leaves NewKnown c.1 (λ value. Grants (Constant (symbol_or_nil c.0) value ∷ [])) p l k (λ o q longer good. (grows_same x.packages q.symbols, (good, tt)))))

    package_added : (name : List ℕ) (value : Object ℕ) (p : Progress) → 2 ≤ size p → Knows (size p) value → Leaves x.packages (MayBeAdded x.packages) p.symbols (importing x.packages name value p)
    package_added name value p l h =
        leaves_needing x.packages (EachOne (λ (s : ℕ). s < size p)) (MayBeAdded x.packages) (each_of symbol value) _ (λ numbers after. package_of x.packages name (map (symbol_at after.symbols) numbers) after) p (symbols_known (size p) l value h) (λ numbers k.
        leaves_unless x.packages (MayBeAdded x.packages) _ (Grants (record { name = name; imports = map (symbol_at p.symbols) numbers })) p (λ free.
        let both = none_or (exists_already x.packages name) _ free in
        (grows_same x.packages p.symbols, record { fresh = not_there (package_number x.packages name) both.0; imports = imports_known p.symbols numbers k; no_clash = not_clashing p.symbols (import_clash (map (symbol_at p.symbols) numbers)) both.1 })))
      where
        not_there : (v : Option ℕ) → (if is_some v then Some (PackageExists (Text name)) else None) ≡ None → v ≡ None
        not_there None e = refl
        not_there (Some i) e = cc

        not_clashing : (symbols : List QualifiedName) (v : Option (QualifiedName × QualifiedName)) → option_map (clash_refusal symbols) v ≡ None → v ≡ None
        not_clashing symbols None e = refl
        not_clashing symbols (Some c) e = cc

    pub package_leaves : (d : Object ℕ) (p : Progress) → n ≤ size p → Knows (size p) d → Leaves x.packages (MayBeAdded x.packages) p.symbols (package_read x d p)
    unfolding package_read
    package_leaves d p l h =
        leaves_needing x.packages (FormKnown (size p) (omega (arith, two, l))) (MayBeAdded x.packages) (text_and_form d) _ (package_then x) p (package_form (size p) (omega (arith, two, l)) d h) (λ c k.
        value_leaves (MayBeAdded x.packages) c.1 (importing x.packages c.0) p l k (λ o q longer good. package_added c.0 o q (omega (arith, two, l, longer)) good))

    pub macro_leaves : (d : Object ℕ) (p : Progress) → n ≤ size p → Knows (size p) d → Leaves x.packages NewKnown p.symbols (macro_read x d p)
    unfolding macro_read
    macro_leaves d p l h =
        leaves_needing x.packages (MacroKnown (size p) (omega (arith, two, l))) NewKnown (written_macro d) _ (macro_then x) p (macro_known (size p) (omega (arith, two, l)) d h) (λ m k.
        leaves_unless x.packages NewKnown _ (λ after. expanding (expanded x m.body after) (body_then x.world m)) p (λ free.
        leaves_expanding x.packages KnowsForm NewKnown p.symbols (expanded x m.body p) (body_then x.world m) (form_expands x n two known rows m.body p l k.1) (λ f after longer good.
        leaves_unless x.packages NewKnown _ (Grants (Macro (symbol_or_nil m.name) (macro_formals m.formals) f ∷ [])) after (λ ruled.
        let defaults = macro_defaults (size p) (omega (arith, two, l)) m.formals k.0 in
        (grows_same x.packages after.symbols, ((defaults_more (size p) (size after) longer _ defaults.0, defaults_more (size p) (size after) longer _ defaults.1, good), tt))))))

    -- ---- functions

    abbrev CandidateKnown : ℕ → Candidate → Type 0
    CandidateKnown m c = KnowsForm m c.member.guard × KnowsForm m c.member.body

    abbrev AreKnownCandidates : ℕ → List Candidate → Type 0
    AreKnownCandidates m cs = EachOne (CandidateKnown m) cs

    candidates_more : (m k : ℕ) → m ≤ k → (cs : List Candidate) → AreKnownCandidates m cs → AreKnownCandidates k cs
    candidates_more m k l [] h = tt
    candidates_more m k l (c ∷ cs) h = ((form_more m k l c.member.guard h.0.0, form_more m k l c.member.body h.0.1), candidates_more m k l cs h.1)

    draft_more : (m k : ℕ) → m ≤ k → (ds : List Draft) → EachOne (λ (d : Draft). AreKnownItems m d.declared.guards × Knows m d.body) ds → EachOne (λ (d : Draft). AreKnownItems k d.declared.guards × Knows k d.body) ds
    draft_more m k l [] h = tt
    draft_more m k l (d ∷ ds) h = ((items_more m k l d.declared.guards h.0.0, knows_more m k d.body l h.0.1), draft_more m k l ds h.1)

    candidate_expands : (d : Draft) (p : Progress) → AreShapedItems d.declared.guards → n ≤ size p → AreKnownItems (size p) d.declared.guards → Knows (size p) d.body → Expands x.packages CandidateKnown p.symbols (candidate_expanded x d p)
    candidate_expands d p shaped l g b =
        expands_then x.packages KnowsForm CandidateKnown p.symbols (expanded_guard x d.declared.guards p) (λ guard after. then_make (expanded x d.body after) (λ body last. Makes (functions.candidate d guard body) last))
        (guard_expands x n two known rows d.declared.guards p shaped l g) (λ guard after longer good.
        expands_then x.packages KnowsForm CandidateKnown after.symbols (expanded x d.body after) (λ body last. Makes (functions.candidate d guard body) last)
        (form_expands x n two known rows d.body after (omega (arith, l, longer)) (knows_more (size p) (size after) d.body longer b)) (λ body last further fine.
        (grows_same x.packages last.symbols, (form_more (size after) (size last) further guard good, fine))))

    drafts_expand : (ds : List Draft) (done : List Candidate) (p : Progress) → AreSound ds → n ≤ size p → EachOne (λ (d : Draft). AreKnownItems (size p) d.declared.guards × Knows (size p) d.body) ds → AreKnownCandidates (size p) done
        → Expands x.packages AreKnownCandidates p.symbols (all_expanded x ds done p)
    drafts_expand [] done p s l h k = (grows_same x.packages p.symbols, k)
    drafts_expand (d ∷ ds) done p s l h k =
        expands_then x.packages CandidateKnown AreKnownCandidates p.symbols (candidate_expanded x d p) (λ c after. all_expanded x ds (done ++ c ∷ []) after)
        (candidate_expands d p s.0.shaped l h.0.0 h.0.1) (λ c after longer good.
        drafts_expand ds (done ++ c ∷ []) after s.1 (omega (arith, l, longer)) (draft_more (size p) (size after) longer ds h.1)
        (each_both (CandidateKnown (size after)) done (c ∷ []) (candidates_more (size p) (size after) longer done k) (good, tt)))

defined_known : (m : ℕ) (sigs : List (ℕ × Signature)) (cs : List Candidate) → EachOne (λ (c : Candidate). KnowsForm m c.member.guard × KnowsForm m c.member.body) cs → EachDefinition (KnowsDefinition m) (map (defined sigs) cs)
defined_known m sigs [] h = tt
defined_known m sigs (c ∷ cs) h = (h.0, defined_known m sigs cs h.1)

names_known : (m : ℕ) (ds : List Draft) → EachDefinition (KnowsDefinition m) (map named_draft ds)
names_known m [] = tt
names_known m (d ∷ ds) = (tt, names_known m ds)

module _ (x : Setting) (n : ℕ) (two : 2 ≤ n) (known : KnowsDefinitions x.world n) (lawful : IsLawfulWorld x.world) where
  pub functions_leave : (head : ℕ) (d : Object ℕ) (p : Progress) → n ≤ size p → Knows (size p) d → Leaves x.packages NewKnown p.symbols (functions_read x head d p)
  unfolding functions_read
  functions_leave head d p l h =
      leaves_needing x.packages (EachOne (FunctionKnown (size p) (omega (arith, two, l)))) NewKnown (written_functions head d) _ (functions_then x) p (functions_known (size p) (omega (arith, two, l)) head d h) (λ fs k.
      leaves_unless x.packages NewKnown (functions.written_fault p.symbols x.world fs) (drafts_then x (drafts_of p.symbols fs)) p (λ free.
      of_drafts (drafts_of p.symbols fs) (written_drafts p.symbols x.world fs free).sound (drafts_known (size p) (omega (arith, two, l)) p.symbols fs k)))
    where
      of_drafts : (ds : List Draft) → AreSound ds → EachOne (λ (d : Draft). AreKnownItems (size p) d.declared.guards × Knows (size p) d.body) ds → Leaves x.packages NewKnown p.symbols (drafts_then x ds p)
      of_drafts ds sound k =
          let named : Setting = record x { world = with_names x.world ds } in
          leaves_expanding x.packages (λ m cs. EachOne (λ (c : Candidate). KnowsForm m c.member.guard × KnowsForm m c.member.body) cs) NewKnown p.symbols (all_expanded named ds [] p) (candidates_then x.world)
          (drafts_expand named n two (definitions_with x.world (map named_draft ds) n known (names_known n ds)) (functions_still x.world (map named_draft ds) lawful) ds [] p sound l k tt) (λ cs after longer good.
          leaves_unless x.packages NewKnown _ (Grants (map (defined (signatures x.world cs)) cs)) after (λ fine. (grows_same x.packages after.symbols, defined_known (size after) (signatures x.world cs) cs good)))
