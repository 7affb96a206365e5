-- An event counts calls up to its limit, and adds symbols.
use Rattle.std.proofs.Common.{◌≡◌, ℕ, List, [], ◌∷◌, ◌++◌, Bool, true, false, Option, Some, None, refl, sym, arith}
use Rattle.std.specs.Prelude.{if◌then◌else◌, nat_eq, option_map, option_and_then, map}
use Rattle.std.specs.Option.{option_or}
use Rattle.std.proofs.lemmas.List.{append-nil}
use Rattle.model_objects.specs.Object.{Object, Text}
use Rattle.model_symbols.specs.Symbols.{QualifiedName, Package, is_known, interned, is_one_too_many, symbol_at, import_clash}
use Rattle.model_prims.specs.Applied.{number_then}
use Rattle.model_terms.specs.Cores.{Core}
use Rattle.model_terms.specs.Worlds.{World, Signature, AbstractDescriptor, Constant, Macro}
use Rattle.model_terms.specs.Faults.{constant_fault, macro_fault, clique_fault}
use Rattle.model_eval.specs.Checked.{checked, begun}
use Rattle.model_eval_laws.proofs.Counts.{longer_then}
use Rattle.model_eval_laws.proofs.CountLemmas.{counts_calls}
use Rattle.model_expansion.specs.Words.{in_package_word, defpkg_word, defconst_word, defmacro_word, defstobj_word, defabsstobj_word}
use Rattle.model_expansion.specs.Forms.{elements, each_of, symbol, symbol_or_nil}
use Rattle.model_expansion.specs.Faults.{BadShape, Expand, Thread, UnknownPackage}
use Rattle.model_expansion.specs.Expansion.{Setting, Progress, expanded}
use Rattle.model_expansion_laws.specs.Counting.{Advanced, Advances}
use Rattle.model_expansion_laws.proofs.CountLemmas.{advanced_same, advances_then, expansion_counts}
use Rattle.model_stobjs.specs.Answers.{EventResult, Grants, unless, expanding, first_given}
use Rattle.model_stobjs.specs.Heads.{name_in_use, bad_name}
use Rattle.model_stobjs.specs.Descriptors as stobjs
use Rattle.model_stobjs.specs.Descriptors.{Making, MadeNames, with_number, new_name, symbol_beside, name_made, names_made, ShapedField, shaped_fields, stobj_makings, room_for, bad_type, bad_initial, mismatch, WrittenStobj, written_stobj, descriptor_made, names_then, written_then, descriptor_read, named_descriptor}
use Rattle.model_stobjs.specs.Abstracts as abstracts
use Rattle.model_stobjs.specs.Abstracts.{WrittenAbstract, written_abstract, slots, makings, filled, function_refusal, made_then, abstract_then, abstract_read}
use Rattle.model_stobjs.specs.Obligations.{obligations, too_large}
use Rattle.model_events.specs.Constants.{valued, constant_evaluated, constant_value, name_and_form, bad_constant_name, constant_then, constant_read, text_and_form, clash_refusal, exists_already, importing, package_of, package_then, package_read, only_text, visible_package, current_then, current_read}
use Rattle.model_events.specs.Macros as macros
use Rattle.model_events.specs.Macros.{WrittenMacro, written_macro, macro_formals, body_then, macro_then, macro_read}
use Rattle.model_events.specs.Functions as functions
use Rattle.model_events.specs.Functions.{Draft, Candidate, candidate_expanded, all_expanded, with_names, signatures, signed, defined, members, ruled, candidates_then, drafts_then, drafts_of, functions_then, written_functions, functions_read}
use Rattle.model_events.specs.Events.{Environment, Limits, Obliged, setting, defining, abstract_admitted, admitted}
use Rattle.model_books_laws.proofs.AnswerLemmas.{Answers, answers_later, answers_then, answers_unless, answers_needing, answers_expanding, answers_valued, answers_if}

-- ---- made names

abbrev Adds : List QualifiedName → List QualifiedName → Type 0
Adds old new = (added : List QualifiedName) × (new ≡ old ++ added)

adds_none : (symbols : List QualifiedName) → Adds symbols symbols
adds_none symbols = ([], sym (append-nil symbols))

adds_interned : (symbols : List QualifiedName) (q : QualifiedName) → Adds symbols (interned symbols q)
adds_interned symbols q = go (is_known symbols q)
  where
    go : (b : Bool) → Adds symbols (if b then symbols else symbols ++ q ∷ [])
    go true = adds_none symbols
    go false = (q ∷ [], refl)

adds_name : (packages : List Package) (renaming : List (ℕ × ℕ)) (n : Option ℕ) (symbols : List QualifiedName) (q : QualifiedName) (go : List QualifiedName → MadeNames) → ((known : List QualifiedName) → Adds known (go known).symbols) → Adds symbols (name_made packages renaming n symbols q go).symbols
adds_name packages renaming (Some n) symbols q go h = h symbols
adds_name packages renaming None symbols q go h = by_test (is_one_too_many symbols q)
  where
    by_test : (b : Bool) → Adds symbols (if b then record { numbers = []; symbols = symbols; have_room = false } else with_number (number_then symbols q) (go (interned symbols q))).symbols
    by_test true = adds_none symbols
    by_test false = longer_then symbols (interned symbols q) (go (interned symbols q)).symbols (adds_interned symbols q) (h (interned symbols q))

adds_names : (packages : List Package) (renaming : List (ℕ × ℕ)) (ms : List Making) (symbols : List QualifiedName) → Adds symbols (names_made packages renaming ms symbols).symbols
unfolding names_made
adds_names packages renaming [] symbols = adds_none symbols
adds_names packages renaming (m ∷ ms) symbols =
    let q = symbol_beside packages renaming symbols m in
    adds_name packages renaming (new_name packages renaming symbols q) symbols q (names_made packages renaming ms) (adds_names packages renaming ms)

module _ (limit : ℕ) where
  advanced_names : (p : Progress) (m : MadeNames) → Adds p.symbols m.symbols → Advanced limit p (record p { symbols = m.symbols })
  advanced_names p m h = record { calls = omega arith; within = λ q. q; outer = omega arith; outer_calls = omega arith; symbols = h }

  -- ---- stobjs

  answers_made : (w : World) (o : WrittenStobj) (fs : List ShapedField) (m : MadeNames) (p : Progress) → Adds p.symbols m.symbols → Answers limit p (descriptor_made w o fs m p)
  answers_made w o fs m p h =
      let after : Progress = record p { symbols = m.symbols } in
      let d = stobjs.descriptor_with o fs m.numbers in
      answers_later limit p after (descriptor_made w o fs m p) (advanced_names p m h) (answers_unless limit (room_for m) (named_descriptor w d) after
      (answers_unless limit (option_or (name_in_use w (stobjs.new_names d)) (mismatch w d)) (Grants d) after (advanced_same limit after)))

  answers_written : (w : World) (packages : List Package) (o : WrittenStobj) (p : Progress) → Answers limit p (written_then w packages o p)
  answers_written w packages o p =
      let fs = shaped_fields w o.fields in
      let ms = stobj_makings p.symbols (symbol_or_nil o.name) fs in
      answers_unless limit (option_or (bad_name p.symbols (stobjs.names_tested o)) (option_or (first_given (bad_type w) o.fields) (first_given (bad_initial w) o.fields)))
      (names_then w packages o fs) p (answers_made w o fs (names_made packages o.renaming ms p.symbols) p (adds_names packages o.renaming ms p.symbols))

  answers_descriptor : (w : World) (packages : List Package) (d : Object ℕ) (p : Progress) → Answers limit p (descriptor_read w packages d p)
  unfolding descriptor_read
  answers_descriptor w packages d p =
      answers_needing limit (written_stobj w p.symbols d) (Expand (BadShape defstobj_word)) (written_then w packages) p (λ o. answers_written w packages o p)

  answers_made_abstract : (w : World) (a : WrittenAbstract) (m : MadeNames) (p : Progress) → Adds p.symbols m.symbols → Answers limit p (made_then w a m p)
  answers_made_abstract w a m p h =
      let after : Progress = record p { symbols = m.symbols } in
      let d = abstracts.descriptor_with w a (filled (slots p.symbols a) m.numbers) in
      answers_later limit p after (made_then w a m p) (advanced_names p m h) (answers_unless limit (room_for m) (unless (function_refusal w d) (Grants d)) after
      (answers_unless limit (function_refusal w d) (Grants d) after (advanced_same limit after)))

  answers_written_abstract : (w : World) (packages : List Package) (a : WrittenAbstract) (p : Progress) → Answers limit p (abstract_then w packages a p)
  answers_written_abstract w packages a p =
      answers_unless limit (bad_name p.symbols (abstracts.names_tested packages p.symbols a))
      (λ after. made_then w a (names_made packages [] (makings (slots after.symbols a)) after.symbols) after) p
      (answers_made_abstract w a (names_made packages [] (makings (slots p.symbols a)) p.symbols) p (adds_names packages [] (makings (slots p.symbols a)) p.symbols))

  answers_abstract : (w : World) (packages : List Package) (d : Object ℕ) (p : Progress) → Answers limit p (abstract_read w packages d p)
  unfolding abstract_read
  answers_abstract w packages d p =
      answers_needing limit (written_abstract p.symbols d) (Expand (BadShape defabsstobj_word)) (abstract_then w packages) p (λ a. answers_written_abstract w packages a p)

  -- ---- the current package

  answers_current : (packages : List Package) (d : Object ℕ) (p : Progress) → Answers limit p (current_read packages d p)
  unfolding current_read
  answers_current packages d p =
      answers_needing limit (option_and_then only_text (elements d)) (Expand (BadShape in_package_word)) (current_then packages) p
      (λ name. answers_needing limit (visible_package packages name) (UnknownPackage (Text name)) Grants p (λ n. advanced_same limit p))

module _ (x : Setting) where
  -- ---- constants and packages

  answers_evaluated : {A : Type 0} (go : Object ℕ → Progress → EventResult A) (f : Core) (p : Progress) → ((o : Object ℕ) (q : Progress) → Answers x.steps q (go o q)) → Answers x.steps p (constant_evaluated x go f p)
  answers_evaluated go f p h =
      answers_unless x.steps (option_map Thread (constant_fault x.world f))
      (λ after. valued (checked x.world x.packages x.steps x.depth f [] (begun after.symbols [] after.calls)) go after) p
      (answers_valued x.steps p (checked x.world x.packages x.steps x.depth f [] (begun p.symbols [] p.calls)) go
      (counts_calls.counts x.world x.packages x.steps x.depth f [] (begun p.symbols [] p.calls)) h)

  answers_value : {A : Type 0} (form : Object ℕ) (go : Object ℕ → Progress → EventResult A) (p : Progress) → ((o : Object ℕ) (q : Progress) → Answers x.steps q (go o q)) → Answers x.steps p (constant_value x form go p)
  answers_value form go p h =
      answers_expanding x.steps p (expanded x form p) (constant_evaluated x go) (expansion_counts.form x form p) (λ f after. answers_evaluated go f after h)

  answers_constant_then : (c : Object ℕ × Object ℕ) (p : Progress) → Answers x.steps p (constant_then x c p)
  answers_constant_then c p =
      answers_unless x.steps (option_or (bad_constant_name p.symbols c.0) (name_in_use x.world (symbol_or_nil c.0 ∷ [])))
      (constant_value x c.1 (λ value. Grants (Constant (symbol_or_nil c.0) value ∷ []))) p
      (answers_value c.1 (λ value. Grants (Constant (symbol_or_nil c.0) value ∷ [])) p (λ value after. advanced_same x.steps after))

  answers_constant : (d : Object ℕ) (p : Progress) → Answers x.steps p (constant_read x d p)
  unfolding constant_read
  answers_constant d p =
      answers_needing x.steps (option_and_then name_and_form (elements d)) (Expand (BadShape defconst_word)) (constant_then x) p (λ c. answers_constant_then c p)

  answers_package_of : (name : List ℕ) (imports : List QualifiedName) (p : Progress) → Answers x.steps p (package_of x.packages name imports p)
  answers_package_of name imports p =
      answers_unless x.steps (option_or (exists_already x.packages name) (option_map (clash_refusal p.symbols) (import_clash imports)))
      (Grants (record { name = name; imports = imports })) p (advanced_same x.steps p)

  answers_importing : (name : List ℕ) (value : Object ℕ) (p : Progress) → Answers x.steps p (importing x.packages name value p)
  answers_importing name value p =
      answers_needing x.steps (each_of symbol value) (Expand (BadShape defpkg_word))
      (λ numbers after. package_of x.packages name (map (symbol_at after.symbols) numbers) after) p (λ numbers. answers_package_of name (map (symbol_at p.symbols) numbers) p)

  answers_package : (d : Object ℕ) (p : Progress) → Answers x.steps p (package_read x d p)
  unfolding package_read
  answers_package d p =
      answers_needing x.steps (text_and_form d) (Expand (BadShape defpkg_word)) (package_then x) p
      (λ c. answers_value c.1 (importing x.packages c.0) p (λ value after. answers_importing c.0 value after))

  -- ---- macros and functions

  answers_body : (m : WrittenMacro) (f : Core) (p : Progress) → Answers x.steps p (body_then x.world m f p)
  answers_body m f p =
      let formals = macro_formals m.formals in
      answers_unless x.steps (option_map Thread (macro_fault x.world formals f)) (Grants (Macro (symbol_or_nil m.name) formals f ∷ [])) p (advanced_same x.steps p)

  answers_macro_then : (m : WrittenMacro) (p : Progress) → Answers x.steps p (macro_then x m p)
  answers_macro_then m p =
      answers_unless x.steps (macros.written_fault p.symbols x.world m) (λ after. expanding (expanded x m.body after) (body_then x.world m)) p
      (answers_expanding x.steps p (expanded x m.body p) (body_then x.world m) (expansion_counts.form x m.body p) (answers_body m))

  answers_macro : (d : Object ℕ) (p : Progress) → Answers x.steps p (macro_read x d p)
  unfolding macro_read
  answers_macro d p =
      answers_needing x.steps (written_macro d) (Expand (BadShape defmacro_word)) (macro_then x) p (λ m. answers_macro_then m p)

  advances_candidate : (d : Draft) (p : Progress) → Advances x.steps p (candidate_expanded x d p)
  advances_candidate d p =
      advances_then x.steps p _ _ (expansion_counts.guard x d.declared.guards p) (λ guard after. advances_then x.steps after _ _ (expansion_counts.form x d.body after)
      (λ body last. advanced_same x.steps last))

  advances_drafts : (ds : List Draft) (done : List Candidate) (p : Progress) → Advances x.steps p (all_expanded x ds done p)
  advances_drafts [] done p = advanced_same x.steps p
  advances_drafts (d ∷ ds) done p = advances_then x.steps p _ _ (advances_candidate d p) (λ c after. advances_drafts ds (done ++ c ∷ []) after)

answers_ruled : (limit : ℕ) (w : World) (cs : List Candidate) (known : List (ℕ × Signature)) (p : Progress) → Answers limit p (ruled w cs known p)
answers_ruled limit w cs known p =
    answers_unless limit (option_map Thread (clique_fault (w ++ map (signed known) cs) 0 (members cs))) (Grants (map (defined known) cs)) p (advanced_same limit p)

answers_drafts : (x : Setting) (ds : List Draft) (p : Progress) → Answers x.steps p (drafts_then x ds p)
answers_drafts x ds p =
    let named = record x { world = with_names x.world ds } in
    answers_expanding x.steps p (all_expanded named ds [] p) (candidates_then x.world) (advances_drafts named ds [] p)
    (λ cs after. answers_ruled x.steps x.world cs (signatures x.world cs) after)

answers_functions : (x : Setting) (head : ℕ) (d : Object ℕ) (p : Progress) → Answers x.steps p (functions_read x head d p)
unfolding functions_read
answers_functions x head d p =
    answers_needing x.steps (written_functions head d) (Expand (BadShape head)) (functions_then x) p (λ fs.
    answers_unless x.steps (functions.written_fault p.symbols x.world fs) (drafts_then x (drafts_of p.symbols fs)) p (answers_drafts x (drafts_of p.symbols fs) p))

-- ---- all events

answers_obligations : (limit : ℕ) (s : Environment) (d : AbstractDescriptor) (p : Progress) → Answers limit p (abstract_admitted s d p)
answers_obligations limit s d p =
    let os = obligations s.world p.symbols d in
    answers_unless limit (too_large os)
    (Grants (record { environment = defining s (abstracts.abstract_entries s.world d); created = Some d.name; said = Obliged d.name os })) p (advanced_same limit p)

pub answers_admitted : (s : Environment) (k : Limits) (head : ℕ) (d : Object ℕ) (p : Progress) → Answers k.steps p (admitted s k head d p)
unfolding admitted
answers_admitted s k head d p =
    let x = setting s k in
    answers_if k.steps p (nat_eq head in_package_word) _ _ (answers_then k.steps p _ _ (answers_current k.steps s.packages d p) (λ n after. advanced_same k.steps after))
    (answers_if k.steps p (nat_eq head defpkg_word) _ _ (answers_then k.steps p _ _ (answers_package x d p) (λ q after. advanced_same k.steps after))
    (answers_if k.steps p (nat_eq head defconst_word) _ _ (answers_then k.steps p _ _ (answers_constant x d p) (λ entries after. advanced_same k.steps after))
    (answers_if k.steps p (nat_eq head defmacro_word) _ _ (answers_then k.steps p _ _ (answers_macro x d p) (λ entries after. advanced_same k.steps after))
    (answers_if k.steps p (nat_eq head defstobj_word) _ _ (answers_then k.steps p _ _ (answers_descriptor k.steps s.world s.packages d p) (λ o after. advanced_same k.steps after))
    (answers_if k.steps p (nat_eq head defabsstobj_word) _ _ (answers_then k.steps p _ _ (answers_abstract k.steps s.world s.packages d p) (answers_obligations k.steps s))
    (answers_then k.steps p _ _ (answers_functions x head d p) (λ entries after. advanced_same k.steps after)))))))
