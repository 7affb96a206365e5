-- Functions whose formals and declarations are read.
use Rattle.std.specs.Prelude.{◌≡◌, ℕ, ◌≤◌, List, [], ◌∷◌, ◌++◌, length, map, max, Bool, true, false, Option, Some, None, is_some, option_map, refl, if◌then◌else◌}
use Rattle.std.specs.Option.{option_map_or}
use Rattle.std.proofs.Common.{sym, ap, ◌∙◌, append_assoc, arith}
use Rattle.std.proofs.lemmas.List.{append-nil, map-append}
use Rattle.model_objects.specs.Object.{Object}
use Rattle.model_symbols.specs.Symbols.{QualifiedName}
use Rattle.model_expansion.specs.Forms.{symbol_or_nil}
use Rattle.model_expansion.specs.Faults.{Refusal, BadDeclare}
use Rattle.model_stobjs.specs.Answers.{first_given}
use Rattle.model_events.specs.Declarations as model
use Rattle.model_events.specs.Declarations.{formals_of, declarations}
use Rattle.model_events.specs.Functions as written
use Rattle.model_events.specs.Functions.{draft_of, bad_declaration, drafts_of}
use Rattle.acl_base.specs.declared.Word.{Word}
use Rattle.acl_heap.specs.Objects.{Objects, object_of, reach, Extends}
use Rattle.acl_terms.specs.Forms.{numbers, most}
use Rattle.acl_layers.specs.Lists.{items_along}
use Rattle.acl_layers.proofs.BindingLemmas.{most_append}
use Rattle.acl_declare.specs.Said.{words_at, words_reach, seen_declared, declared_reach}
use Rattle.acl_declare.proofs.SaidLemmas.{said_later}
use Rattle.acl_drafts.specs.declared.written.WrittenFunction.{WrittenFunction}
use Rattle.acl_drafts.specs.declared.draft.Draft.{Draft}
use Rattle.acl_drafts.specs.Functions.{seen_function, seen_functions, function_reach, functions_reach}
use Rattle.acl_drafts.specs.Drafts.{seen_draft, seen_drafts, draft_reach, drafts_reach, with_draft}

-- ---- one draft

module _ (sy : List QualifiedName) (h : Objects) (f : WrittenFunction) where
  abbrev draft_with : ℕ → List ℕ → Object ℕ → Option model.Declared → Option written.Draft
  draft_with s xs body d = option_map (λ declared. record { name = s; formals = xs; declared = declared; body = body; executable = f.executable }) d

  pub draft_none : (xs : List ℕ) → xs ≡ formals_of sy (items_along (object_of h f.formals)) → declarations sy xs (words_at h f.items) ≡ None → draft_of sy (seen_function h f) ≡ None
  draft_none xs e g = let i : declarations sy (formals_of sy (items_along (object_of h f.formals))) (words_at h f.items) ≡ None = rw e at g in rw i refl

  pub draft_is : (xs : List ℕ) (s : ℕ) (body : Object ℕ) (d : model.Declared) → xs ≡ formals_of sy (items_along (object_of h f.formals)) → symbol_or_nil (object_of h f.name) ≡ s → body ≡ object_of h f.body
      → declarations sy xs (words_at h f.items) ≡ Some d → draft_of sy (seen_function h f) ≡ Some (record { name = s; formals = xs; declared = d; body = body; executable = f.executable })
  draft_is xs s body d e n b g =
      let i : declarations sy (formals_of sy (items_along (object_of h f.formals))) (words_at h f.items) ≡ Some d = rw e at g in
      ap (draft_with (symbol_or_nil (object_of h f.name)) (formals_of sy (items_along (object_of h f.formals))) (object_of h f.body)) i ∙ rw (n, sym b, sym e) refl

-- ---- drafts that were read

pub draft_pushed : (h : Objects) (ds : List Draft) (d : Draft) → seen_drafts h (ds ++ d ∷ []) ≡ seen_drafts h ds ++ seen_draft h d ∷ []
draft_pushed h ds d = map-append (seen_draft h) ds (d ∷ [])

pub reach_pushed : (ds : List Draft) (d : Draft) → drafts_reach (ds ++ d ∷ []) ≡ max (drafts_reach ds) (draft_reach d)
reach_pushed ds d = ap most (map-append draft_reach ds (d ∷ [])) ∙ most_append (map draft_reach ds) (draft_reach d)

module _ {h h' : Objects} (e : Extends h h') where
  draft_later : (d : Draft) → draft_reach d ≤ length h → seen_draft h' d ≡ seen_draft h d
  draft_later d l =
      let s : seen_declared h' d.declared ≡ seen_declared h d.declared = said_later e d.declared (omega (arith, l)) in
      let b : object_of h' d.body ≡ object_of h d.body = e.same d.body (omega (arith, l)) in
      rw (s, b) refl

  pub drafts_later : (ds : List Draft) → drafts_reach ds ≤ length h → seen_drafts h' ds ≡ seen_drafts h ds
  drafts_later [] l = refl
  drafts_later (d ∷ ds) l = rw (draft_later d (omega (arith, l)), drafts_later ds (omega (arith, l))) refl

  words_later : (ws : List Word) → words_reach ws ≤ length h → words_at h' ws ≡ words_at h ws
  words_later [] l = refl
  words_later (w ∷ ws) l = rw (e.same w (omega (arith, l)), words_later ws (omega (arith, l))) refl

  function_later : (f : WrittenFunction) → function_reach f ≤ length h → seen_function h' f ≡ seen_function h f
  function_later f l =
      let n : object_of h' f.name ≡ object_of h f.name = e.same f.name (omega (arith, l)) in
      let x : object_of h' f.formals ≡ object_of h f.formals = e.same f.formals (omega (arith, l)) in
      let i : words_at h' f.items ≡ words_at h f.items = words_later f.items (omega (arith, l)) in
      let b : object_of h' f.body ≡ object_of h f.body = e.same f.body (omega (arith, l)) in
      rw (n, x, i, b) refl

pub none_added : (done : List written.Draft) (o : Option written.Draft) → o ≡ None → with_draft done o ≡ None
none_added done o e = rw e refl

pub one_added : (done there all : List written.Draft) (o : Option written.Draft) (d : written.Draft) → o ≡ Some d → there ≡ done → all ≡ there ++ d ∷ [] → with_draft done o ≡ Some all
one_added done there all o d e g i = rw e (ap (λ xs. Some xs) (sym (i ∙ ap (λ xs. xs ++ d ∷ []) g)))

-- ---- all functions

pub function_lies : (f : WrittenFunction) (rest others : List WrittenFunction) (n m : ℕ) → rest ≡ f ∷ others → functions_reach rest ≤ n → n ≤ m → function_reach f ≤ m
function_lies f rest others n m e l k = let i : functions_reach (f ∷ others) ≤ n = rw e at l in omega (arith, i, k)

pub name_lies_later : (f : WrittenFunction) (rest others : List WrittenFunction) (n m : ℕ) → rest ≡ f ∷ others → functions_reach rest ≤ n → n ≤ m → reach f.name ≤ m
name_lies_later f rest others n m e l k = let i : functions_reach (f ∷ others) ≤ n = rw e at l in omega (arith, i, k)

module _ (sy : List QualifiedName) {h h' : Objects} (g : Extends h h') (f : WrittenFunction) (rest others : List WrittenFunction) (e : rest ≡ f ∷ others) (l : functions_reach rest ≤ length h) where
  same : seen_function h' f ≡ seen_function h f
  same = function_later g f (function_lies f rest others (length h) (length h) e l (omega arith))

  found : (done more : List written.Draft) (o : Option written.Draft) → with_draft done o ≡ Some more → (d : written.Draft) × (o ≡ Some d) × (more ≡ done ++ d ∷ [])
  found done more None i = cc
  found done more (Some d) i = (d, refl, (let j : done ++ d ∷ [] ≡ more = cc in sym j))

  missing : (done : List written.Draft) (o : Option written.Draft) → with_draft done o ≡ None → o ≡ None
  missing done None i = refl
  missing done (Some d) i = cc

  read : (done more : List written.Draft) (b : Bool) → with_draft done (draft_of sy (seen_function h' f)) ≡ (if b then Some more else None) → b ≡ true
      → (d : written.Draft) × (draft_of sy (seen_function h f) ≡ Some d) × (more ≡ done ++ d ∷ [])
  read done more b i k =
      let j : with_draft done (draft_of sy (seen_function h' f)) ≡ Some more = rw k at i in
      found done more (draft_of sy (seen_function h f)) (ap (λ x. with_draft done (draft_of sy x)) (sym same) ∙ j)

  pub right_more : (done more : List written.Draft) (b : Bool) → with_draft done (draft_of sy (seen_function h' f)) ≡ (if b then Some more else None) → b ≡ true
      → first_given (bad_declaration sy) (seen_functions h rest) ≡ first_given (bad_declaration sy) (seen_functions h others)
  right_more done more b i k = let d = read done more b i k in rw (e, d.1) refl

  pub drafts_more : (done more : List written.Draft) (b : Bool) → with_draft done (draft_of sy (seen_function h' f)) ≡ (if b then Some more else None) → b ≡ true
      → done ++ drafts_of sy (seen_functions h rest) ≡ more ++ drafts_of sy (seen_functions h others)
  drafts_more done more b i k =
      let d = read done more b i k in
      rw (e, d.1) (sym (append_assoc done (d.0 ∷ []) (drafts_of sy (seen_functions h others))) ∙ ap (λ xs. xs ++ drafts_of sy (seen_functions h others)) (sym d.2))

  pub right_wrong : (done more : List written.Draft) (b : Bool) (s : ℕ) → with_draft done (draft_of sy (seen_function h' f)) ≡ (if b then Some more else None) → b ≡ false
      → symbol_or_nil (object_of h' f.name) ≡ s → first_given (bad_declaration sy) (seen_functions h rest) ≡ Some (BadDeclare s)
  right_wrong done more b s i k n =
      let j : with_draft done (draft_of sy (seen_function h' f)) ≡ None = rw k at i in
      let o : draft_of sy (seen_function h f) ≡ None = missing done (draft_of sy (seen_function h f)) (ap (λ x. with_draft done (draft_of sy x)) (sym same) ∙ j) in
      let m : symbol_or_nil (object_of h f.name) ≡ s = ap (λ (x : written.WrittenFunction). symbol_or_nil x.name) (sym same) ∙ n in
      rw (e, o) (ap (λ x. Some (BadDeclare x)) m)

pub no_functions : (fs : List WrittenFunction) → length fs ≡ 0 → fs ≡ []
no_functions [] e = refl
no_functions (f ∷ fs) e = let no : ⊥ = omega (arith, e) in elim no [ ]

pub right_end : (sy : List QualifiedName) (h : Objects) (rest : List WrittenFunction) → rest ≡ [] → first_given (bad_declaration sy) (seen_functions h rest) ≡ None
right_end sy h rest e = rw e refl

pub drafts_end : (sy : List QualifiedName) (h : Objects) (done : List written.Draft) (rest : List WrittenFunction) → rest ≡ [] → done ++ drafts_of sy (seen_functions h rest) ≡ done
drafts_end sy h done rest e = rw e (append-nil done)
